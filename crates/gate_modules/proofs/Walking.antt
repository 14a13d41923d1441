-- The walk for the short forms.
use Rattle.std.proofs.Common.{◌≡◌, ◌≢◌, ◌⊎◌, inl, inr, ℕ, zero, suc, ◌<◌, ◌≤◌, Bool, true, false, ◌||◌, List, [], ◌∷◌, ◌++◌, map, refl, sym, ap, ap₂, ◌∙◌, subst, arith, true≢false, append_assoc}
use Rattle.std.specs.List.{AllByRecursion, flat_map}
use Rattle.std.proofs.lemmas.Bool.{cases_lt}
use Rattle.std.proofs.lemmas.Grind.{flat_map-append}
use Rattle.std.proofs.lemmas.List.{map-append}
use Rattle.ar_base.specs.Lists.{IsOneOf}
use Rattle.zdd_nodes.specs.Families.{Family}
use Rattle.zdd_nodes.specs.FamiliesInside.{node, IsAbove}
use Rattle.zdd_nodes.specs.Sections.{section}
use Rattle.zdd_nodes.specs.Behind.{behind_events}
use Rattle.zdd_nodes.proofs.Laws.{IsAbove_set, each_of}
use Rattle.zdd_nodes.proofs.Sections.{section-with, section-low, section-nil}
use Rattle.zdd_nodes.proofs.Behind.{behind_none}
use Rattle.zdd_nodes.specs.Nodes.{Stored, family, IsFamilyNumber, IsNode, IsSoundStore, HasHalves}
use Rattle.gate_modules.specs.Entries.{IsNumberReached, IsExit, IsEntryExit}
use Rattle.gate_modules.specs.Entries.IsNumberReached.{here, up, down}
use Rattle.gate_modules.specs.Forms.{AreOfDifferentUnits, GoesOnAlike, PassesTaken, AddsForms, IsSkip}
use Rattle.gate_modules.specs.Modules.{lies}
use Rattle.gate_modules.specs.Shortened.{ShortForm, touches, is_covered, short_form, once}
use Rattle.zdd_nodes.specs.Bounds.{AtLeast, EndsBelow, HasBelow}
use Rattle.gate_modules.specs.declared.ranges.Range.{Range}
use Rattle.gate_modules.proofs.Deciding.{event_not_end, first_at_least}
use Rattle.zdd_nodes.proofs.Ending.{ends_at_node, ends_at_leaf}
use Rattle.gate_modules.proofs.Entering.{entry_exit_up}
use Rattle.gate_modules.proofs.Exchange.{AllIn, lies_in, in_lies}
use Rattle.gate_modules.proofs.Forming.{touches_both, uncovered_in, with_v, without_v, once_uncovered, once_covered}
use Rattle.gate_modules.proofs.Numbers.{not_empty, lo_in, hi_in}
use Rattle.gate_modules.proofs.Sections.{starts, section_lower, section_started, section_end}
use Rattle.gate_modules.proofs.Splitting.{above_at_least}

-- ---- going on alike, in the halves of a node
late : (r : Range) (f : Family) → AllByRecursion (AtLeast r.from) f → AllByRecursion (AtLeast r.to) f → (p a : List ℕ)
    → a ≢ [] → section r.to a (section r.from p f) ≡ []
late r f low high p a n = elim (section_end r.from p f low) [
  | inl whole ↦ elim (section_end r.to a f high) [ inl t ↦ absurd (n t.0) | inr t ↦ ap (section r.to a) whole.1 ∙ t.1 ]
  | inr none ↦ ap (section r.to a) none.1 ∙ section-nil r.to a
]

pub alike_late : (r : Range) (f : Family) → AllByRecursion (AtLeast r.from) f → AllByRecursion (AtLeast r.to) f
    → GoesOnAlike r f
alike_late r f low high = record { alike = λ p a b na nb sa sb. absurd (sa (late r f low high p a na)) }

family_above : (i v : ℕ) (f : Family) → i ≤ v → IsAbove v f → AllByRecursion (AtLeast i) f
family_above i v f l a = each_of (IsAbove_set v) (AtLeast i) (λ s k. above_at_least i v s l k) f a

behind_range : (r : Range) (v : ℕ) → lies r v ≡ false → r.from ≤ v → r.to ≤ v
behind_range r v free l = elim (cases_lt v r.to)
    [ inl k ↦ absurd (true≢false (sym (lies_in r v l k) ∙ free)) | inr k ↦ k ]

pub alike_upper : (r : Range) (v : ℕ) (lo hi : Family) → IsAbove v lo → IsAbove v hi → lies r v ≡ false
    → GoesOnAlike r (node v lo hi) → GoesOnAlike r hi
alike_upper r v lo hi lo_up hi_up free g = elim (cases_lt v r.from) [
  | inl l ↦ record {
    alike = λ p a b na nb sa sb.
        let e = section-with v r.from p lo hi l lo_up in
        subst (λ z. section r.to a z ≡ section r.to b z) e
        (g.alike (v ∷ p) a b na nb (λ z. sa (ap (section r.to a) (sym e) ∙ z))
        (λ z. sb (ap (section r.to b) (sym e) ∙ z)));
  }
  | inr l ↦ alike_late r hi (family_above r.from v hi l hi_up) (family_above r.to v hi (behind_range r v free l) hi_up)
]

pub alike_lower : (r : Range) (v : ℕ) (lo hi : Family) → IsAbove v lo → IsAbove v hi → lies r v ≡ false
    → GoesOnAlike r (node v lo hi) → GoesOnAlike r lo
alike_lower r v lo hi lo_up hi_up free g = elim (cases_lt v r.from) [
  | inl l ↦ record { alike = λ p a b na nb sa sb. at l p a b na nb sa sb (starts v p) refl }
  | inr l ↦ alike_late r lo (family_above r.from v lo l lo_up) (family_above r.to v lo (behind_range r v free l) lo_up)
]
  where
    at : v < r.from → (p a b : List ℕ) → a ≢ [] → b ≢ [] → section r.to a (section r.from p lo) ≢ []
        → section r.to b (section r.from p lo) ≢ [] → (c : Bool) → starts v p ≡ c
        → section r.to a (section r.from p lo) ≡ section r.to b (section r.from p lo)
    at l p a b na nb sa sb true s = absurd
        (sa (ap (section r.to a) (section_started v r.from p lo lo_up s) ∙ section-nil r.to a))
    at l p a b na nb sa sb false s =
        let e = section_lower v r.from p lo hi l s in
        subst (λ z. section r.to a z ≡ section r.to b z) e
        (g.alike p a b na nb (λ z. sa (ap (section r.to a) (sym e) ∙ z))
        (λ z. sb (ap (section r.to b) (sym e) ∙ z)))

pub halves_at_least : (i v : ℕ) (lo hi : Family) → AllByRecursion (AtLeast i) (node v lo hi)
    → AllByRecursion (AtLeast i) hi × AllByRecursion (AtLeast i) lo
halves_at_least i v lo [] a = (tt, a)
halves_at_least i v lo (s ∷ hi) a = let t = halves_at_least i v lo hi a.1 in ((a.0.1, t.0), t.1)

module _ (s : Stored) (to : ℕ) where
  pub reached_at_least : (i : ℕ) {n x : ℕ} → IsNumberReached s to n x → AllByRecursion (AtLeast i) (family s n)
      → AllByRecursion (AtLeast i) (family s x)
  reached_at_least i (here n) a = a
  reached_at_least i (up {v = v} {lo = lo} {hi = hi} h k) a =
      reached_at_least i k (halves_at_least i v (family s lo) (family s hi)
      (subst (AllByRecursion (AtLeast i)) h.node.is a)).0
  reached_at_least i (down {v = v} {lo = lo} {hi = hi} h k) a =
      reached_at_least i k (halves_at_least i v (family s lo) (family s hi)
      (subst (AllByRecursion (AtLeast i)) h.node.is a)).1

  pub reached_alike : (r : Range) (low : ℕ) → ((e : ℕ) → low ≤ e → e < to → lies r e ≡ false) → {n x : ℕ}
      → IsNumberReached s to n x → AllByRecursion (AtLeast low) (family s n) → GoesOnAlike r (family s n)
      → GoesOnAlike r (family s x)
  reached_alike r low free (here n) a g = g
  reached_alike r low free (up {v = v} {lo = lo} {hi = hi} h k) a g =
      let b = subst (AllByRecursion (AtLeast low)) h.node.is a in
      let l = first_at_least low v (family s lo) (family s hi) h.node.hi_some b in
      reached_alike r low free k (halves_at_least low v (family s lo) (family s hi) b).0
      (alike_upper r v (family s lo) (family s hi) h.node.lo_above h.node.hi_above (free v l h.below)
      (subst (GoesOnAlike r) h.node.is g))
  reached_alike r low free (down {v = v} {lo = lo} {hi = hi} h k) a g =
      let b = subst (AllByRecursion (AtLeast low)) h.node.is a in
      let l = first_at_least low v (family s lo) (family s hi) h.node.hi_some b in
      reached_alike r low free k (halves_at_least low v (family s lo) (family s hi) b).1
      (alike_lower r v (family s lo) (family s hi) h.node.lo_above h.node.hi_above (free v l h.below)
      (subst (GoesOnAlike r) h.node.is g))

  pub skip_up : (n v lo hi x : ℕ) → HasBelow s to n v lo hi → IsSkip s to lo x → IsSkip s to n x
  skip_up n v lo hi x h k = record {
    inside = k.inside;
    at_most = (let l = h.node.lo_before in omega (arith, l, k.at_most));
    is = ap (section to []) h.node.is ∙ section_lower v to [] (family s lo) (family s hi) h.below refl ∙ k.is;
    reached = down h k.reached;
    ends = k.ends;
  }

  pub skip_end : (n : ℕ) → IsFamilyNumber s n → EndsBelow s to n → IsSkip s to n n
  skip_end n inside h = record {
    inside = inside;
    at_most = omega arith;
    is = section-low to (family s n) h.at_least;
    reached = here n;
    ends = h;
  }

-- ---- a family by the parts that it begins with
append_nil : (f : Family) → f ++ [] ≡ f
append_nil [] = refl
append_nil (x ∷ f) = ap (λ z. x ∷ z) (append_nil f)

abbrev flat : Family → Family → Family
flat X heads = flat_map (λ a. behind_events a X) heads

with_first : (v : ℕ) (a : List ℕ) (X : Family) → behind_events (v ∷ a) X ≡ map (λ t. v ∷ t) (behind_events a X)
with_first v a [] = refl
with_first v a (q ∷ X) = ap (λ z. (v ∷ (a ++ q)) ∷ z) (with_first v a X)

flat_with : (v : ℕ) (X H : Family) → flat X (map (λ t. v ∷ t) H) ≡ map (λ t. v ∷ t) (flat X H)
flat_with v X [] = refl
flat_with v X (a ∷ H) = ap₂ (λ y z. y ++ z) (with_first v a X) (flat_with v X H)
    ∙ sym (map-append (λ t. v ∷ t) (behind_events a X) (flat X H))

flat_node : (v : ℕ) (X L H : Family) → flat X (node v L H) ≡ map (λ t. v ∷ t) (flat X H) ++ flat X L
flat_node v X L H = flat_map-append (λ a. behind_events a X) (map (λ t. v ∷ t) H) L ∙ ap (λ z. z ++ flat X L) (flat_with v X H)

all_node : (P : List ℕ → Type 0) (v : ℕ) (L H : Family) → AllByRecursion (λ a. P (v ∷ a)) H → AllByRecursion P L
    → AllByRecursion P (node v L H)
all_node P v L [] h l = l
all_node P v L (a ∷ H) h l = (h.0, all_node P v L H h.1 l)

record Expanded (r : Range) (X f : Family) : Type 0 where
  pub heads : Family
  pub in_range : AllByRecursion (AllIn r) heads
  pub is : f ≡ flat X heads

module _ (s : Stored) (sound : IsSoundStore s) (r : Range) (X : Family) where
  abbrev FollowsAll : Family → Type 0
  FollowsAll f = (a : List ℕ) → (section r.to a f ≡ []) ⊎ (section r.to a f ≡ X)

  abbrev FollowsSome : Family → Type 0
  FollowsSome f = (a : List ℕ) → a ≢ [] → (section r.to a f ≡ []) ⊎ (section r.to a f ≡ X)

  -- by the halves
  moved : (a b : List ℕ) (f g : Family) → section r.to a f ≡ section r.to b g
      → (section r.to a f ≡ []) ⊎ (section r.to a f ≡ X) → (section r.to b g ≡ []) ⊎ (section r.to b g ≡ X)
  moved a b f g e h = subst (λ z. (z ≡ []) ⊎ (z ≡ X)) e h

  upper_all : (n v lo hi : ℕ) → HasBelow s r.to n v lo hi → FollowsSome (family s n) → FollowsAll (family s hi)
  upper_all n v lo hi h f a = moved (v ∷ a) a (family s n) (family s hi)
      (ap (section r.to (v ∷ a)) h.node.is ∙ section-with v r.to a (family s lo) (family s hi) h.below h.node.lo_above)
      (f (v ∷ a) (λ z. cc))

  lower_some : (n v lo hi : ℕ) → HasBelow s r.to n v lo hi → FollowsSome (family s n) → FollowsSome (family s lo)
  lower_some n v lo hi h f a na = step (starts v a) refl
    where
      step : (b : Bool) → starts v a ≡ b → (section r.to a (family s lo) ≡ []) ⊎ (section r.to a (family s lo) ≡ X)
      step true e = inl (section_started v r.to a (family s lo) h.node.lo_above e)
      step false e = moved a a (family s n) (family s lo)
          (ap (section r.to a) h.node.is ∙ section_lower v r.to a (family s lo) (family s hi) h.below e) (f a na)

  lower_all : (n v lo hi : ℕ) → HasBelow s r.to n v lo hi → FollowsAll (family s n) → FollowsAll (family s lo)
  lower_all n v lo hi h f a = step (starts v a) refl
    where
      step : (b : Bool) → starts v a ≡ b → (section r.to a (family s lo) ≡ []) ⊎ (section r.to a (family s lo) ≡ X)
      step true e = inl (section_started v r.to a (family s lo) h.node.lo_above e)
      step false e = moved a a (family s n) (family s lo)
          (ap (section r.to a) h.node.is ∙ section_lower v r.to a (family s lo) (family s hi) h.below e) (f a)

  -- a number has an event below the bound, or it ends there
  pub data ByEnd (n : ℕ) : Type 0 where
    at_end : EndsBelow s r.to n → ByEnd n
    at_node : (v lo hi : ℕ) → HasBelow s r.to n v lo hi → ByEnd n

  by_end : (n : ℕ) → IsFamilyNumber s n → ByEnd n
  by_end n inside = elim (cases_lt n 2)
      [ inl l ↦ at_end (ends_at_leaf s r.to n l) | inr l ↦ node_case (sound.nodes n l inside) ]
    where
      node_case : HasHalves s.families n → ByEnd n
      node_case t = elim (cases_lt t.event r.to) [
        | inl l ↦ at_node t.event t.lo t.hi (record { node = t.halves; below = l })
        | inr l ↦ at_end (ends_at_node s r.to n t.event t.lo t.hi t.halves l)
      ]

  in_range_at : (n v lo hi : ℕ) → HasBelow s r.to n v lo hi → AllByRecursion (AtLeast r.from) (family s n)
      → (lies r v ≡ true) × AllByRecursion (AtLeast r.from) (family s hi)
      × AllByRecursion (AtLeast r.from) (family s lo)
  in_range_at n v lo hi h a =
      let b = subst (AllByRecursion (AtLeast r.from)) h.node.is a in
      let t = halves_at_least r.from v (family s lo) (family s hi) b in
      (lies_in r v (first_at_least r.from v (family s lo) (family s hi) h.node.hi_some b) h.below, t.0, t.1)

  with_all : (v : ℕ) (H : Family) → lies r v ≡ true → AllByRecursion (AllIn r) H
      → AllByRecursion (λ a. AllIn r (v ∷ a)) H
  with_all v [] l h = tt
  with_all v (a ∷ H) l h = ((l, h.0), with_all v H l h.1)

  expand : (bound n : ℕ) → n < bound → IsFamilyNumber s n → AllByRecursion (AtLeast r.from) (family s n)
      → FollowsAll (family s n) → Expanded r X (family s n)
  expand zero n l inside a f = absurd (omega (arith, l))
  expand (suc bound) n l inside a f = by (by_end n inside) (λ m k i b g. expand bound m (omega (arith, l, k)) i b g)
    where
      leaf : EndsBelow s r.to n → (section r.to [] (family s n) ≡ []) ⊎ (section r.to [] (family s n) ≡ X)
          → Expanded r X (family s n)
      leaf h (inl e) = record { heads = []; in_range = tt; is = sym (section-low r.to (family s n) h.at_least) ∙ e }
      leaf h (inr e) = record {
        heads = [] ∷ [];
        in_range = (tt, tt);
        is = sym (section-low r.to (family s n) h.at_least) ∙ e ∙ sym (append_nil (behind_events [] X) ∙ behind_none X);
      }

      by : ByEnd n → ((m : ℕ) → m < n → IsFamilyNumber s m → AllByRecursion (AtLeast r.from) (family s m)
          → FollowsAll (family s m) → Expanded r X (family s m)) → Expanded r X (family s n)
      by (at_end h) rec = leaf h (f [])
      by (at_node v lo hi h) rec =
          let t = in_range_at n v lo hi h a in
          let H = rec hi h.node.hi_before (hi_in s sound n v lo hi inside h.node) t.1
          (upper_all n v lo hi h (λ a na. f a)) in
          let L = rec lo h.node.lo_before (lo_in s sound n v lo hi inside h.node) t.2 (lower_all n v lo hi h f) in
          record {
            heads = node v L.heads H.heads;
            in_range = all_node (AllIn r) v L.heads H.heads (with_all v H.heads t.0 H.in_range) L.in_range;
            is = h.node.is ∙ ap₂ (λ y z. map (λ t. v ∷ t) y ++ z) H.is L.is ∙ sym (flat_node v X L.heads H.heads);
          }

  pub record ExpandedSome (n : ℕ) : Type 0 where
    pub heads : Family
    pub in_range : AllByRecursion (λ a. AllIn r a × (a ≢ [])) heads
    pub is : family s n ≡ flat X heads ++ section r.to [] (family s n)
    pub some : (EndsBelow s r.to n → ⊥) → heads ≢ []

  some_with : (v : ℕ) (H : Family) → lies r v ≡ true → AllByRecursion (AllIn r) H
      → AllByRecursion (λ a. AllIn r (v ∷ a) × (v ∷ a ≢ [])) H
  some_with v [] l h = tt
  some_with v (a ∷ H) l h = (((l, h.0), (λ z. cc)), some_with v H l h.1)

  node_not_nil : (v : ℕ) (L H : Family) → H ≢ [] → node v L H ≢ []
  node_not_nil v L [] n z = n refl
  node_not_nil v L (a ∷ H) n z = cc

  pub expand_some : (bound n : ℕ) → n < bound → IsFamilyNumber s n → AllByRecursion (AtLeast r.from) (family s n)
      → FollowsSome (family s n) → ExpandedSome n
  expand_some zero n l inside a f = absurd (omega (arith, l))
  expand_some (suc bound) n l inside a f =
      by (by_end n inside) (λ m k i b g. expand_some bound m (omega (arith, l, k)) i b g)
    where
      by : ByEnd n → ((m : ℕ) → m < n → IsFamilyNumber s m → AllByRecursion (AtLeast r.from) (family s m)
          → FollowsSome (family s m) → ExpandedSome m) → ExpandedSome n
      by (at_end h) rec = record {
        heads = [];
        in_range = tt;
        is = sym (section-low r.to (family s n) h.at_least);
        some = λ k. absurd (k h);
      }
      by (at_node v lo hi h) rec =
          let t = in_range_at n v lo hi h a in
          let H = expand n hi h.node.hi_before (hi_in s sound n v lo hi inside h.node) t.1 (upper_all n v lo hi h f) in
          let L = rec lo h.node.lo_before (lo_in s sound n v lo hi inside h.node) t.2 (lower_some n v lo hi h f) in
          let down_is : section r.to [] (family s n) ≡ section r.to [] (family s lo) =
          ap (section r.to []) h.node.is ∙ section_lower v r.to [] (family s lo) (family s hi) h.below refl in
          record {
            heads = node v L.heads H.heads;
            in_range = all_node (λ a. AllIn r a × (a ≢ [])) v L.heads H.heads (some_with v H.heads t.0 H.in_range)
                L.in_range;
            is = h.node.is ∙ ap₂ (λ y z. map (λ t. v ∷ t) y ++ z) H.is L.is
                ∙ sym (append_assoc (map (λ t. v ∷ t) (flat X H.heads)) (flat X L.heads)
                (section r.to [] (family s lo)))
                ∙ ap₂ (λ y z. y ++ z) (sym (flat_node v X L.heads H.heads)) (sym down_is);
            some = λ k. node_not_nil v L.heads H.heads (λ z. h.node.hi_some (H.is ∙ ap (flat X) z));
          }

-- ---- one step of the walk
module _ (s : Stored) (sound : IsSoundStore s) (chosen : List Range) (d : AreOfDifferentUnits chosen) (taken : List ℕ)
    (n v lo hi : ℕ) (n_in : IsFamilyNumber s n)
    (node_is : IsNode s.families n v lo hi) (fit : PassesTaken chosen taken (family s n)) where
  or_cases : (a b : Bool) → (a || (b || false)) ≡ true → (a ≡ true) ⊎ (b ≡ true)
  or_cases true b h = inl refl
  or_cases false true h = inr refl
  or_cases false false h = absurd (true≢false (sym h))

  touched_cases : (c : Range) → touches (taken ++ v ∷ []) c ≡ true → (touches taken c ≡ true) ⊎ (lies c v ≡ true)
  touched_cases c h = or_cases (touches taken c) (lies c v) (sym (touches_both taken (v ∷ []) c) ∙ h)

  halves : (i : ℕ) → AllByRecursion (AtLeast i) (family s n)
      → AllByRecursion (AtLeast i) (family s hi) × AllByRecursion (AtLeast i) (family s lo)
  halves i a = halves_at_least i v (family s lo) (family s hi) (subst (AllByRecursion (AtLeast i)) node_is.is a)

  -- where v is of no unit
  module _ (free : is_covered chosen v ≡ false) where
    pub fit_upper : (more : List ℕ) → more ≡ taken ++ v ∷ [] → PassesTaken chosen more (family s hi)
    fit_upper more e = subst (λ z. PassesTaken chosen z (family s hi)) (sym e) (record {
      alike = λ r i. alike_upper r v (family s lo) (family s hi) node_is.lo_above node_is.hi_above
          (uncovered_in chosen r v i free) (subst (GoesOnAlike r) node_is.is (fit.alike r i));
      passed = λ r i h. elim (touched_cases r h) [
        | inl t ↦ (halves r.to (fit.passed r i t)).0
        | inr t ↦ absurd (true≢false (sym t ∙ uncovered_in chosen r v i free))
      ];
    })

    pub fit_lower : PassesTaken chosen taken (family s lo)
    fit_lower = record {
      alike = λ r i. alike_lower r v (family s lo) (family s hi) node_is.lo_above node_is.hi_above
          (uncovered_in chosen r v i free) (subst (GoesOnAlike r) node_is.is (fit.alike r i));
      passed = λ r i h. (halves r.to (fit.passed r i h)).1;
    }

    pub adds_uncovered : (more : List ℕ) → more ≡ taken ++ v ∷ [] → (old mid new : List ShortForm)
        → AddsForms chosen more (family s hi) old mid → AddsForms chosen taken (family s lo) mid new
        → AddsForms chosen taken (family s n) old new
    adds_uncovered more e old mid new a b =
        b ∙ ap (λ z. z ++ once (without_v chosen d taken v (family s lo)))
        (a ∙ ap (λ z. old ++ once (map (short_form chosen) (behind_events z (family s hi)))) e)
        ∙ append_assoc old (once (with_v chosen d taken v (family s hi)))
        (once (without_v chosen d taken v (family s lo)))
        ∙ ap (λ z. old ++ z) (sym (once_uncovered chosen d taken v free (family s lo) (family s hi) node_is.lo_above)
        ∙ ap (λ z. once (map (short_form chosen) (behind_events taken z))) (sym node_is.is))

  -- where v is of a unit
  module _ (r : Range) (r_in : IsOneOf chosen r) (v_in : lies r v ≡ true) (x y : ℕ) (e : IsExit s r.to hi x)
      (k : IsSkip s r.to lo y) where
    has : HasBelow s r.to n v lo hi
    has = record { node = node_is; below = (in_lies r v v_in).1 }

    low : AllByRecursion (AtLeast r.from) (family s n)
    low = (ends_at_node s r.from n v lo hi node_is (in_lies r v v_in).0).at_least

    exit : IsEntryExit s r.to n x
    exit = entry_exit_up s r.to n v lo hi x has e

    skip : IsSkip s r.to n y
    skip = skip_up s r.to n v lo hi y has k

    -- no event of the unit is of another one
    other_free : (c : Range) → IsOneOf chosen c → lies c v ≡ false → (w : ℕ) → r.from ≤ w → w < r.to → lies c w ≡ false
    other_free c i free w a b = step (lies c w) refl
      where
        step : (q : Bool) → lies c w ≡ q → lies c w ≡ false
        step false z = z
        step true z = absurd (true≢false (sym v_in ∙ sym (ap (λ u. lies u v) (d.one c r i r_in w z (lies_in r w a b)))
            ∙ free))

    same_unit : (c : Range) → IsOneOf chosen c → lies c v ≡ true → c ≡ r
    same_unit c i h = d.one c r i r_in v h v_in

    alike_at : (z : ℕ) → IsNumberReached s r.to n z → EndsBelow s r.to z → (c : Range) → IsOneOf chosen c
        → GoesOnAlike c (family s z)
    alike_at z reached ends c i = step (lies c v) refl
      where
        step : (q : Bool) → lies c v ≡ q → GoesOnAlike c (family s z)
        step true h = subst (λ u. GoesOnAlike u (family s z)) (sym (same_unit c i h))
            (alike_late r (family s z) (reached_at_least s r.to r.from reached low) ends.at_least)
        step false h = reached_alike s r.to c r.from (other_free c i h) reached low (fit.alike c i)

    pub fit_exit : (more : List ℕ) → more ≡ taken ++ v ∷ [] → PassesTaken chosen more (family s x)
    fit_exit more m = subst (λ z. PassesTaken chosen z (family s x)) (sym m) (record {
      alike = alike_at x exit.exit.reached exit.exit.ends;
      passed = λ c i h. elim (touched_cases c h) [
        | inl t ↦ reached_at_least s r.to c.to exit.exit.reached (fit.passed c i t)
        | inr t ↦ subst (λ u. AllByRecursion (AtLeast u.to) (family s x)) (sym (same_unit c i t))
            exit.exit.ends.at_least
      ];
    })

    pub fit_skip : PassesTaken chosen taken (family s y)
    fit_skip = record {
      alike = alike_at y skip.reached skip.ends;
      passed = λ c i h. reached_at_least s r.to c.to skip.reached (fit.passed c i h);
    }

    untouched : touches taken r ≡ false
    untouched = step (touches taken r) refl
      where
        step : (q : Bool) → touches taken r ≡ q → touches taken r ≡ false
        step false z = z
        step true z = absurd (event_not_end s r.to n v lo hi has (record { at_least = fit.passed r r_in z }))

    follows : (a : List ℕ) → a ≢ [] → (section r.to a (family s n) ≡ []) ⊎ (section r.to a (family s n) ≡ family s x)
    follows a na = step (section r.to a (family s n)) refl
      where
        whole : section r.from [] (family s n) ≡ family s n
        whole = section-low r.from (family s n) low

        x_some : family s x ≢ []
        x_some = not_empty s sound x exit.exit.some exit.exit.inside

        step : (g : Family) → section r.to a (family s n) ≡ g
            → (section r.to a (family s n) ≡ []) ⊎ (section r.to a (family s n) ≡ family s x)
        step [] z = inl z
        step (t ∷ g) z = inr (ap (section r.to a) (sym whole)
            ∙ (fit.alike r r_in).alike [] a exit.exit.taken na exit.taken_some
            (λ w. let bad : t ∷ g ≡ [] = sym z ∙ ap (section r.to a) (sym whole) ∙ w in cc)
            (λ w. x_some (sym exit.exit.is ∙ ap (section r.to exit.exit.taken) (sym whole) ∙ w))
            ∙ ap (section r.to exit.exit.taken) whole ∙ exit.exit.is)

    once_both : once (map (short_form chosen) (behind_events taken (family s n)))
        ≡ once (with_v chosen d taken v (family s x)) ++ once (without_v chosen d taken v (family s y))
    once_both =
        let p = expand_some s sound r (family s x) (suc n) n (omega arith) n_in low follows in
        ap (λ z. once (map (short_form chosen) (behind_events taken z)))
        (p.is ∙ ap (λ z. flat_map (λ a. behind_events a (family s x)) p.heads ++ z) skip.is)
        ∙ once_covered chosen d taken v r r_in v_in untouched (family s x) (family s y) p.heads
        (p.some (event_not_end s r.to n v lo hi has)) p.in_range skip.ends.at_least

    pub adds_covered : (more : List ℕ) → more ≡ taken ++ v ∷ [] → (old mid new : List ShortForm)
        → AddsForms chosen more (family s x) old mid → AddsForms chosen taken (family s y) mid new
        → AddsForms chosen taken (family s n) old new
    adds_covered more m old mid new a b =
        b ∙ ap (λ z. z ++ once (without_v chosen d taken v (family s y)))
        (a ∙ ap (λ z. old ++ once (map (short_form chosen) (behind_events z (family s x)))) m)
        ∙ append_assoc old (once (with_v chosen d taken v (family s x)))
        (once (without_v chosen d taken v (family s y)))
        ∙ ap (λ z. old ++ z) (sym once_both)

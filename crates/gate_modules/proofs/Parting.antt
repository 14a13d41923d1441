-- How parts are gathered.
use Rattle.std.proofs.Common.{◌≡◌, ◌≢◌, ◌⊎◌, inl, inr, ℕ, zero, suc, ◌<◌, true, false, ◌||◌, ◌&&◌, List, [], ◌∷◌, ◌++◌, map, refl, sym, ap, ◌∙◌, subst, arith, append_assoc, true≢false}
use Rattle.std.specs.List.{AllByRecursion}
use Rattle.std.proofs.lemmas.List.{map-append}
use Rattle.std.proofs.lemmas.List.Folds.{list_any-append}
use Rattle.zdd_nodes.specs.Families.{Family, same, has}
use Rattle.zdd_nodes.specs.FamiliesInside.{node, IsAbove}
use Rattle.zdd_nodes.specs.Sections.{section}
use Rattle.zdd_nodes.specs.Behind.{behind_events}
use Rattle.zdd_nodes.proofs.Laws.{IsAbove_set, has_each, each_of, has-with, list_any-map, list_any-none, every}
use Rattle.zdd_nodes.proofs.Sections.{section-with, section-above, section-nil}
use Rattle.zdd_nodes.proofs.Behind.{behind_node}
use Rattle.zdd_nodes.specs.Nodes.{Stored, family, IsFamilyNumber, IsSoundStore}
use Rattle.zdd_nodes.proofs.Order.{IsFamily-node, IsFamily-nil, IsFamily-unit}
use Rattle.zdd_nodes.specs.Bounds.{EndsBelow, HasBelow}
use Rattle.ar_base.specs.NumbersInside.{EventId}
use Rattle.gate_modules.specs.ShortenedInside.{event_numbers, set_of}
use Rattle.gate_modules.specs.declared.ranges.EventSet.{EventSet}
use Rattle.gate_modules.specs.Parts.{AreHeads, AreSomeHeads, AddsHeads, AddsSomeHeads}
use Rattle.gate_modules.proofs.Sections.{starts, section_lower, section_end, by_start, ByStart}
use Rattle.gate_modules.proofs.Sections.ByStart.{with_it, without_it}
use Rattle.gate_modules.proofs.Numbers.{not_empty}
use Rattle.gate_diagrams.proofs.Filters.{eqb_turned}

pub all_from_has : (P : List ℕ → Type 0) (f : Family) → ((a : List ℕ) → has f a ≡ true → P a) → AllByRecursion P f
all_from_has P f h = each_of (λ s. has f s ≡ true) P h f (has_each f)

pub has_lower : (v : ℕ) (lo hi : Family) (s : List ℕ) → starts v s ≡ false → has (node v lo hi) s ≡ has lo s
has_lower v lo hi s a =
    list_any-append (same s) (map (λ t. v ∷ t) hi) lo
    ∙ ap (λ x. x || has lo s) (list_any-map v (same s) hi
    ∙ list_any-none (λ t. same s (v ∷ t)) hi (every (λ t. same s (v ∷ t) ≡ false) (other s a) hi))
  where
    other : (s : List ℕ) → starts v s ≡ false → (t : List ℕ) → same s (v ∷ t) ≡ false
    other [] a t = refl
    other (x ∷ s) a t = ap (λ c. c && same s t) (eqb_turned x v ∙ a)

heads_above : (b v : ℕ) (f hs : Family) → IsAbove v f → ((a : List ℕ) → has hs a ≡ true → section b a f ≢ [])
    → IsAbove v hs
heads_above b v f hs up sound = all_from_has (IsAbove_set v) hs
    (λ a h. elim (section-above v b a f up) [ inl none ↦ absurd (sound a h none) | inr above ↦ above ])

module _ (b v : ℕ) (lo hi L H : Family) (l : v < b) (lo_up : IsAbove v lo) (hi_up : IsAbove v hi)
    (hh : AreHeads b hi H) where
  module _ (ll : AreHeads b lo L) where
    low_up : IsAbove v L
    low_up = heads_above b v lo L lo_up ll.sound

    pub heads_node : AreHeads b (node v lo hi) (node v L H)
    heads_node = record {
      is_family = IsFamily-node v L H low_up (heads_above b v hi H hi_up hh.sound) ll.is_family hh.is_family;
      sound = λ a. sound a (by_start v a);
      whole = λ a. whole a (by_start v a);
    }
      where
        sound : (a : List ℕ) → ByStart v a → has (node v L H) a ≡ true → section b a (node v lo hi) ≢ []
        sound _ (with_it p) h = λ e. hh.sound p (sym (has-with v L H p low_up) ∙ h)
            (sym (section-with v b p lo hi l lo_up) ∙ e)
        sound _ (without_it p s) h = λ e. ll.sound p (sym (has_lower v L H p s) ∙ h)
            (sym (section_lower v b p lo hi l s) ∙ e)

        whole : (a : List ℕ) → ByStart v a → section b a (node v lo hi) ≢ [] → has (node v L H) a ≡ true
        whole _ (with_it p) n = has-with v L H p low_up ∙ hh.whole p (λ e. n (section-with v b p lo hi l lo_up ∙ e))
        whole _ (without_it p s) n = has_lower v L H p s ∙ ll.whole p (λ e. n (section_lower v b p lo hi l s ∙ e))

  module _ (ll : AreSomeHeads b lo L) where
    some_low_up : IsAbove v L
    some_low_up = heads_above b v lo L lo_up (λ a h. (ll.sound a h).1)

    pub some_heads_node : AreSomeHeads b (node v lo hi) (node v L H)
    some_heads_node = record {
      is_family = IsFamily-node v L H some_low_up (heads_above b v hi H hi_up hh.sound) ll.is_family hh.is_family;
      sound = λ a. sound a (by_start v a);
      whole = λ a. whole a (by_start v a);
    }
      where
        sound : (a : List ℕ) → ByStart v a → has (node v L H) a ≡ true → (a ≢ []) × (section b a (node v lo hi) ≢ [])
        sound _ (with_it p) h = (
          (λ z. cc),
          λ e. hh.sound p (sym (has-with v L H p some_low_up) ∙ h)
              (sym (section-with v b p lo hi l lo_up) ∙ e),
        )
        sound _ (without_it p s) h = let t = ll.sound p (sym (has_lower v L H p s) ∙ h) in (t.0, λ e. t.1 (sym (section_lower v b p lo hi l s) ∙ e))

        whole : (a : List ℕ) → ByStart v a → a ≢ [] → section b a (node v lo hi) ≢ [] → has (node v L H) a ≡ true
        whole _ (with_it p) m n = has-with v L H p some_low_up
            ∙ hh.whole p (λ e. n (section-with v b p lo hi l lo_up ∙ e))
        whole _ (without_it p s) m n = has_lower v L H p s ∙ ll.whole p m (λ e. n (section_lower v b p lo hi l s ∙ e))

no_heads : (b : ℕ) (f : Family) → f ≡ [] → AreHeads b f []
no_heads b f z = record {
  is_family = IsFamily-nil;
  sound = λ a h. absurd (true≢false (sym h));
  whole = λ a n. absurd (n (ap (section b a) z ∙ section-nil b a));
}

one_head : (b : ℕ) (f : Family) → f ≢ []
    → ((a : List ℕ) → ((a ≡ []) × (section b a f ≡ f)) ⊎ ((a ≢ []) × (section b a f ≡ []))) → AreHeads b f ([] ∷ [])
one_head b f n ends = record { is_family = IsFamily-unit; sound = sound; whole = whole }
  where
    sound : (a : List ℕ) → has ([] ∷ []) a ≡ true → section b a f ≢ []
    sound [] h e = elim (ends []) [ inl t ↦ n (sym t.1 ∙ e) | inr t ↦ t.0 refl ]
    sound (x ∷ a) h e = true≢false (sym h)

    whole : (a : List ℕ) → section b a f ≢ [] → has ([] ∷ []) a ≡ true
    whole a m = elim (ends a) [ inl t ↦ subst (λ z. has ([] ∷ []) z ≡ true) (sym t.0) refl | inr t ↦ absurd (m t.1) ]

module _ (s : Stored) (b : ℕ) where
  pub adds_heads : (n v lo hi : ℕ) (taken more : List ℕ) (old mid new : Family) → HasBelow s b n v lo hi
      → more ≡ taken ++ v ∷ [] → AddsHeads s b hi more old mid → AddsHeads s b lo taken mid new
      → AddsHeads s b n taken old new
  adds_heads n v lo hi taken more old mid new h e x y = record {
    heads = node v y.heads x.heads;
    are_heads = subst (λ z. AreHeads b z (node v y.heads x.heads)) (sym h.node.is)
        (heads_node b v (family s lo) (family s hi) y.heads x.heads h.below h.node.lo_above h.node.hi_above x.are_heads
        y.are_heads);
    is = y.is ∙ ap (λ z. z ++ behind_events taken y.heads) x.is ∙ append_assoc old (behind_events more x.heads) (behind_events taken y.heads)
        ∙ ap (λ z. old ++ z) (ap (λ z. behind_events z x.heads ++ behind_events taken y.heads) e
        ∙ sym (behind_node taken v y.heads x.heads));
  }

  pub adds_some_heads : (n v lo hi : ℕ) (more : List ℕ) (old mid new : Family) → HasBelow s b n v lo hi → more ≡ v ∷ []
      → AddsHeads s b hi more old mid → AddsSomeHeads s b lo mid new → AddsSomeHeads s b n old new
  adds_some_heads n v lo hi more old mid new h e x y = record {
    heads = node v y.heads x.heads;
    are_heads = subst (λ z. AreSomeHeads b z (node v y.heads x.heads)) (sym h.node.is)
        (some_heads_node b v (family s lo) (family s hi) y.heads x.heads h.below h.node.lo_above h.node.hi_above
        x.are_heads y.are_heads);
    is = y.is ∙ ap (λ z. z ++ y.heads) x.is ∙ append_assoc old (behind_events more x.heads) y.heads
        ∙ ap (λ z. old ++ (z ++ y.heads)) (ap (λ z. behind_events z x.heads) e);
  }

  append_nil : (f : Family) → f ++ [] ≡ f
  append_nil [] = refl
  append_nil (x ∷ f) = ap (λ z. x ∷ z) (append_nil f)

  pub adds_no_head : (n : ℕ) (taken : List ℕ) (old : Family) → n ≡ 0 → AddsHeads s b n taken old old
  adds_no_head n taken old z = record
      { heads = []; are_heads = no_heads b (family s n) (ap (family s) z); is = sym (append_nil old) }

  pub adds_one_head : IsSoundStore s → (n : ℕ) (taken : List ℕ) (old new : Family) → IsFamilyNumber s n → (n ≡ 0 → ⊥)
      → EndsBelow s b n → new ≡ old ++ taken ∷ [] → AddsHeads s b n taken old new
  adds_one_head sound n taken old new inside z h e = record {
    heads = [] ∷ [];
    are_heads = one_head b (family s n) (not_empty s sound n (over n z) inside)
        (λ a. section_end b a (family s n) h.at_least);
    is = e ∙ ap (λ t. old ++ t ∷ []) (sym (no_more taken));
  }
    where
      over : (n : ℕ) → (n ≡ 0 → ⊥) → 0 < n
      over zero z = absurd (z refl)
      over (suc n) z = omega arith

      no_more : (t : List ℕ) → t ++ [] ≡ t
      no_more [] = refl
      no_more (x ∷ t) = ap (λ z. x ∷ z) (no_more t)

  pub adds_no_some : (n : ℕ) (old : Family) → EndsBelow s b n → AddsSomeHeads s b n old old
  adds_no_some n old h = record {
    heads = [];
    are_heads = record {
      is_family = IsFamily-nil;
      sound = λ a k. absurd (true≢false (sym k));
      whole = λ a m k. elim (section_end b a (family s n) h.at_least)
          [ inl t ↦ absurd (m t.0) | inr t ↦ absurd (k t.1) ];
    };
    is = sym (append_nil old);
  }

-- the numbers of the events with one more
pub events_push : (xs : List EventId) (x : EventId) → event_numbers (xs ++ x ∷ []) ≡ event_numbers xs ++ x.n ∷ []
events_push xs x = map-append (λ (e : EventId). e.n) xs (x ∷ [])

-- the sets with one more
pub sets_push : (xs : List EventSet) (x : EventSet) (events : List EventId) → x.events.items ≡ events
    → map set_of (xs ++ x ∷ []) ≡ map set_of xs ++ event_numbers events ∷ []
sets_push xs x events e = map-append set_of xs (x ∷ []) ∙ ap (λ z. map set_of xs ++ event_numbers z ∷ []) e

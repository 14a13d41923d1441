-- A unit is a module exactly where its parts go on alike in all sections at its range.
use Rattle.std.proofs.Common.{◌≡◌, ◌≢◌, ◌⊎◌, inl, inr, ℕ, zero, suc, ◌<◌, ◌≤◌, Bool, true, false, not, ◌&&◌, List, [], ◌∷◌, ◌++◌, drop, length, nat_lt, refl, sym, ap, ap₂, ◌∙◌, subst, arith, true≢false}
use Rattle.std.specs.List.{AllByRecursion}
use Rattle.std.proofs.lemmas.Bool.{cases_lt, ltb-false, le-ltb, ltb-true, lt-ltb}
use Rattle.zdd_nodes.specs.Families.{Family, has}
use Rattle.zdd_nodes.specs.FamiliesInside.{IsInOrder}
use Rattle.zdd_nodes.specs.Sections.{section, below}
use Rattle.zdd_nodes.proofs.Ascending.{IsAscending, is_ascending}
use Rattle.zdd_nodes.proofs.Laws.{each_of}
use Rattle.zdd_nodes.proofs.Minimal.{member_of}
use Rattle.zdd_nodes.proofs.OneList.{same_sets}
use Rattle.zdd_nodes.proofs.Sections.{AtLeast, section-with, section-low, section-nil}
use Rattle.zdd_nodes.specs.Nodes.{Stored, family, IsFamilyNumber, IsNode, IsSoundStore}
use Rattle.gate_modules.specs.Modules.{lies, inside, outside, joined_sets, IsPartOfUnit, IsRest, IsModule}
use Rattle.gate_modules.specs.declared.ranges.Range.{Range}
use Rattle.gate_modules.proofs.Sections.{section_end, section_lower, by_start, ByStart}
use Rattle.gate_modules.proofs.Sections.ByStart.{with_it, without_it}
use Rattle.zdd_nodes.proofs.Ending.{ends_at_node}
use Rattle.gate_modules.proofs.Splitting.{AllBelow, all_append, all_left, all_weaker, all_both, all_filter, all_passed, filter_all, filter_none, filter_both, below_all, cut, has_section, in_section, has_some}

-- the range's test, number by number
pub lies_in : (r : Range) (x : ℕ) → r.from ≤ x → x < r.to → lies r x ≡ true
lies_in r x a b = ap₂ (λ p q. not p && q) (le-ltb x r.from a) (lt-ltb x r.to b)

pub in_lies : (r : Range) (x : ℕ) → lies r x ≡ true → (r.from ≤ x) × (x < r.to)
in_lies r x h = step (nat_lt x r.from) refl (nat_lt x r.to) refl
  where
    step : (p : Bool) → nat_lt x r.from ≡ p → (q : Bool) → nat_lt x r.to ≡ q → (r.from ≤ x) × (x < r.to)
    step true e q k = absurd (true≢false (sym h ∙ ap (λ p. not p && nat_lt x r.to) e))
    step false e false k = absurd (true≢false (sym h ∙ ap₂ (λ p q. not p && q) e k))
    step false e true k = (ltb-false x r.from e, ltb-true x r.to k)

pub not_low : (r : Range) (x : ℕ) → x < r.from → lies r x ≡ false
not_low r x l = ap (λ p. not p && nat_lt x r.to) (lt-ltb x r.from l)

pub not_high : (r : Range) (x : ℕ) → r.to ≤ x → lies r x ≡ false
not_high r x l = ap (λ q. not (nat_lt x r.from) && q) (le-ltb x r.to l) ∙ and_no (not (nat_lt x r.from))
  where
    and_no : (b : Bool) → (b && false) ≡ false
    and_no true = refl
    and_no false = refl

-- all of the numbers are of the range
abbrev pub AllIn : Range → List ℕ → Type 0
AllIn r s = AllByRecursion (λ x. lies r x ≡ true) s

-- a set by its members below the range, in it, and behind it
pub record Three (r : Range) (p part q : List ℕ) : Type 0 where
  pub low : AllBelow r.from p
  pub is_in : AllIn r part
  pub high : AtLeast r.to q
  pub not_empty : r.from ≤ r.to

module _ (r : Range) (p part q : List ℕ) (t : Three r p part q) where
  low_no : AllByRecursion (λ x. lies r x ≡ false) p
  low_no = all_weaker (λ x. x < r.from) (λ x. lies r x ≡ false) (λ x l. not_low r x l) p t.low

  high_no : AllByRecursion (λ x. lies r x ≡ false) q
  high_no = all_weaker (λ x. r.to ≤ x) (λ x. lies r x ≡ false) (λ x l. not_high r x l) q t.high

  pub inside_three : inside r (p ++ (part ++ q)) ≡ part
  inside_three = filter_both (lies r) p (part ++ q) ∙ ap₂ (λ a b. a ++ b) (filter_none (lies r) p low_no)
      (filter_both (lies r) part q ∙ ap₂ (λ a b. a ++ b) (filter_all (lies r) part t.is_in)
      (filter_none (lies r) q high_no)) ∙ append_nil part
    where
      append_nil : (s : List ℕ) → s ++ [] ≡ s
      append_nil [] = refl
      append_nil (x ∷ s) = ap (λ z. x ∷ z) (append_nil s)

  pub outside_three : outside r (p ++ (part ++ q)) ≡ p ++ q
  outside_three =
      let o = λ (x : ℕ). not (lies r x) in
      filter_both o p (part ++ q) ∙ ap₂ (λ a b. a ++ b)
      (filter_all o p (all_weaker (λ x. lies r x ≡ false) (λ x. o x ≡ true) (λ x e. ap not e) p low_no))
      (filter_both o part q ∙ ap₂ (λ a b. a ++ b)
      (filter_none o part (all_weaker (λ x. lies r x ≡ true) (λ x. o x ≡ false) (λ x e. ap not e) part t.is_in))
      (filter_all o q (all_weaker (λ x. lies r x ≡ false) (λ x. o x ≡ true) (λ x e. ap not e) q high_no)))

  pub joined_three : (other : List ℕ) → joined_sets r other (p ++ q) ≡ p ++ (other ++ q)
  joined_three other =
      let l = λ (x : ℕ). nat_lt x r.from in
      let h = λ (x : ℕ). not (nat_lt x r.from) in
      let q_high = all_weaker (λ x. r.to ≤ x) (λ x. nat_lt x r.from ≡ false)
      (λ x k. le-ltb x r.from (omega (arith, k, t.not_empty))) q t.high in
      let p_low = all_weaker (λ x. x < r.from) (λ x. nat_lt x r.from ≡ true) (λ x k. lt-ltb x r.from k) p t.low in
      ap₂ (λ a b. a ++ (other ++ b))
      (filter_both l p q ∙ ap₂ (λ a b. a ++ b) (filter_all l p p_low) (filter_none l q q_high) ∙ append_nil p)
      (filter_both h p q ∙ ap₂ (λ a b. a ++ b)
      (filter_none h p (all_weaker (λ x. nat_lt x r.from ≡ true) (λ x. h x ≡ false) (λ x e. ap not e) p p_low))
      (filter_all h q (all_weaker (λ x. nat_lt x r.from ≡ false) (λ x. h x ≡ true) (λ x e. ap not e) q q_high)))
    where
      append_nil : (s : List ℕ) → s ++ [] ≡ s
      append_nil [] = refl
      append_nil (x ∷ s) = ap (λ z. x ∷ z) (append_nil s)

-- a set cut at the range
pub record Cuts (r : Range) (set : List ℕ) : Type 0 where
  pub p : List ℕ
  pub part : List ℕ
  pub q : List ℕ
  pub is : set ≡ p ++ (part ++ q)
  pub three : Three r p part q

first_of_some : (r : Range) (part : List ℕ) → part ≢ [] → AllIn r part → r.from < r.to
first_of_some r [] n a = absurd (n refl)
first_of_some r (x ∷ part) n a = let t = in_lies r x a.0 in omega (arith, t.0, t.1)

pub from_or_none : (r : Range) (set : List ℕ) → inside r set ≢ [] → r.from < r.to
from_or_none r set n = first_of_some r (inside r set) n (all_passed (lies r) set)

ascends_right : (s t : List ℕ) → IsAscending (s ++ t) → IsAscending t
ascends_right [] t a = a
ascends_right (x ∷ s) t a = ascends_right s t a.1

pub cuts : (r : Range) (set : List ℕ) → IsAscending set → inside r set ≢ [] → Cuts r set
cuts r set a n =
    let c = cut r.from set a in
    let high = drop (length (below r.from set)) set in
    let d = cut r.to high (ascends_right (below r.from set) high (subst IsAscending c.is a)) in
    record {
      p = below r.from set;
      part = below r.to high;
      q = drop (length (below r.to high)) high;
      is = c.is ∙ ap (λ z. below r.from set ++ z) d.is;
      three = record {
        low = below_all r.from set;
        is_in = all_weaker (λ x. (r.from ≤ x) × (x < r.to)) (λ x. lies r x ≡ true) (λ x k. lies_in r x k.0 k.1)
            (below r.to high)
            (all_both (λ x. r.from ≤ x) (λ x. x < r.to) (below r.to high)
            (all_filter (λ x. r.from ≤ x) (λ x. nat_lt x r.to) high c.at_least) (below_all r.to high));
        high = d.at_least;
        not_empty = (let l = from_or_none r set n in omega (arith, l));
      };
    }

unit_section : (i x : ℕ) (p : List ℕ) → section i (x ∷ p) ([] ∷ []) ≡ []
unfolding section
unit_section i x p = refl

module _ (s : Stored) (sound : IsSoundStore s) where
  -- each section of a stored family is stored
  section_below : (bound i : ℕ) (p : List ℕ) (n : ℕ) → n < bound → IsFamilyNumber s n
      → (k : ℕ) × IsFamilyNumber s k × (section i p (family s n) ≡ family s k)
  section_below zero i p n l inside = absurd (omega (arith, l))
  section_below (suc bound) i p zero l inside = (0, inside, section-nil i p)
  section_below (suc bound) i [] (suc zero) l inside = (1, inside, section-low i ([] ∷ []) (tt, tt))
  section_below (suc bound) i (x ∷ p) (suc zero) l inside = (0, omega (arith, inside), unit_section i x p)
  section_below (suc bound) i p (suc (suc n)) l inside =
      let t = sound.nodes (suc (suc n)) (omega arith) inside in
      at_node t.event t.lo t.hi t.halves
      (λ q. section_below bound i q t.lo (omega (arith, l, t.halves.lo_before))
      (omega (arith, inside, t.halves.lo_before)))
      (λ q. section_below bound i q t.hi (omega (arith, l, t.halves.hi_before))
      (omega (arith, inside, t.halves.hi_before))) p (cases_lt t.event i) (by_start t.event p)
    where
      Found : List ℕ → Type 0
      Found q = (k : ℕ) × IsFamilyNumber s k × (section i q (family s (suc (suc n))) ≡ family s k)

      at_node : (v lo hi : ℕ) → IsNode s.families (suc (suc n)) v lo hi
          → ((q : List ℕ) → (k : ℕ) × IsFamilyNumber s k × (section i q (family s lo) ≡ family s k))
          → ((q : List ℕ) → (k : ℕ) × IsFamilyNumber s k × (section i q (family s hi) ≡ family s k))
          → (q : List ℕ) → (v < i) ⊎ (i ≤ v) → ByStart v q
          → (k : ℕ) × IsFamilyNumber s k × (section i q (family s (suc (suc n))) ≡ family s k)
      at_node v lo hi h below_lo below_hi _ (inl l) (with_it q) =
          let r = below_hi q in (r.0, r.1, ap (section i (v ∷ q)) h.is ∙ section-with v i q (family s lo) (family s hi) l h.lo_above ∙ r.2)
      at_node v lo hi h below_lo below_hi _ (inl l) (without_it q e) =
          let r = below_lo q in (r.0, r.1, ap (section i q) h.is ∙ section_lower v i q (family s lo) (family s hi) l e ∙ r.2)
      at_node v lo hi h below_lo below_hi q (inr l) b =
          elim (section_end i q (family s (suc (suc n))) (ends_at_node s i (suc (suc n)) v lo hi h l).at_least) [
            | inl e ↦ (suc (suc n), inside, e.1)
            | inr e ↦ (0, omega (arith, inside), e.1)
          ]

  pub section_number : (i : ℕ) (p : List ℕ) (n : ℕ) → IsFamilyNumber s n
      → (k : ℕ) × IsFamilyNumber s k × (section i p (family s n) ≡ family s k)
  section_number i p n inside = section_below (suc n) i p n (omega arith) inside

  pub ascending : (n : ℕ) → IsFamilyNumber s n → AllByRecursion IsAscending (family s n)
  ascending n inside = each_of _ IsAscending is_ascending (family s n) (sound.families n inside).ascending

  pub section_ascending : (i : ℕ) (p : List ℕ) (n : ℕ) → IsFamilyNumber s n
      → AllByRecursion IsAscending (section i p (family s n))
  section_ascending i p n inside = let k = section_number i p n inside in subst (AllByRecursion IsAscending) (sym k.2) (ascending k.0 k.1)

-- what follows a part behind p
abbrev pub exit : Family → Range → List ℕ → List ℕ → Family
exit f r p part = section r.to part (section r.from p f)

-- the sets p, part and q together are a set of the family, where the part is that of the range
pub record Together (f : Family) (r : Range) (p part q : List ℕ) : Type 0 where
  pub three : Three r p part q
  pub whole : has f (p ++ (part ++ q)) ≡ true

module _ (s : Stored) (sound : IsSoundStore s) (root : ℕ) (root_in : IsFamilyNumber s root) (r : Range) where
  -- what an exit has
  pub exit_has : (p part q : List ℕ) → part ≢ [] → has (exit (family s root) r p part) q ≡ true
      → Together (family s root) r p part q
  exit_has p part q n h =
      let outer = in_section r.to part q (section r.from p (family s root))
      (section_ascending s sound r.from p root root_in) h in
      let inner = in_section r.from p (part ++ q) (family s root) (ascending s sound root root_in) outer.whole in
      let is_in = all_weaker (λ x. (r.from ≤ x) × (x < r.to)) (λ x. lies r x ≡ true) (λ x k. lies_in r x k.0 k.1) part
      (all_both (λ x. r.from ≤ x) (λ x. x < r.to) part (all_left (λ x. r.from ≤ x) part q inner.at_least)
      outer.taken_below) in
      record {
        three = record { low = inner.taken_below; is_in = is_in; high = outer.at_least; not_empty = (let l = first_of_some r part n is_in in omega (arith, l)) };
        whole = inner.whole;
      }

  pub has_exit : (p part q : List ℕ) → Together (family s root) r p part q
      → has (exit (family s root) r p part) q ≡ true
  has_exit p part q t =
      let part_from = all_weaker (λ x. lies r x ≡ true) (λ x. r.from ≤ x) (λ x e. (in_lies r x e).0) part
      t.three.is_in in
      let part_to = all_weaker (λ x. lies r x ≡ true) (λ x. x < r.to) (λ x e. (in_lies r x e).1) part t.three.is_in in
      let q_from = all_weaker (λ x. r.to ≤ x) (λ x. r.from ≤ x) (λ x k. omega (arith, k, t.three.not_empty)) q
      t.three.high in
      has_section r.to part q (section r.from p (family s root)) part_to t.three.high
      (section_ascending s sound r.from p root root_in)
      ∙ has_section r.from p (part ++ q) (family s root) t.three.low
      (all_append (λ x. r.from ≤ x) part q part_from q_from) (ascending s sound root root_in)
      ∙ t.whole

  -- a part of the unit is a part of some set
  pub together_part : (p part q : List ℕ) → part ≢ [] → Together (family s root) r p part q
      → IsPartOfUnit (family s root) r part
  together_part p part q n t = record
      { set = p ++ (part ++ q); among = t.whole; is = inside_three r p part q t.three; some = n }

  pub together_rest : (p part q : List ℕ) → part ≢ [] → Together (family s root) r p part q
      → IsRest (family s root) r (p ++ q)
  together_rest p part q n t = record {
    set = p ++ (part ++ q);
    among = t.whole;
    touched = λ e. n (sym (inside_three r p part q t.three) ∙ e);
    is = outside_three r p part q t.three;
  }

  pub record Found (part : List ℕ) : Type 0 where
    pub p : List ℕ
    pub q : List ℕ
    pub together : Together (family s root) r p part q

  set_found : (set : List ℕ) → has (family s root) set ≡ true → inside r set ≢ []
      → (c : Cuts r set) × Together (family s root) r c.p c.part c.q
  set_found set h n =
      let c = cuts r set (member_of IsAscending (family s root) set (ascending s sound root root_in) h) n in
      (c, record { three = c.three; whole = sym (ap (has (family s root)) c.is) ∙ h })

  pub part_found : (part : List ℕ) → IsPartOfUnit (family s root) r part → Found part
  part_found part i =
      let t = set_found i.set i.among (λ e. i.some (sym i.is ∙ e)) in
      let e : t.0.part ≡ part = sym (inside_three r t.0.p t.0.part t.0.q t.0.three) ∙ sym (ap (inside r) t.0.is)
      ∙ i.is in
      record { p = t.0.p; q = t.0.q; together = subst (λ z. Together (family s root) r t.0.p z t.0.q) e t.1 }

  pub record FoundRest (rest : List ℕ) : Type 0 where
    pub p : List ℕ
    pub part : List ℕ
    pub q : List ℕ
    pub some : part ≢ []
    pub is : rest ≡ p ++ q
    pub together : Together (family s root) r p part q

  pub rest_found : (rest : List ℕ) → IsRest (family s root) r rest → FoundRest rest
  rest_found rest i =
      let t = set_found i.set i.among i.touched in
      let inner = inside_three r t.0.p t.0.part t.0.q t.0.three in
      record {
        p = t.0.p;
        part = t.0.part;
        q = t.0.q;
        some = λ e. i.touched (ap (inside r) t.0.is ∙ inner ∙ e);
        is = sym i.is ∙ ap (outside r) t.0.is ∙ outside_three r t.0.p t.0.part t.0.q t.0.three;
        together = t.1;
      }

  -- a part in the place of another
  exchanged_part : (part other : List ℕ) → AllIn r other → (p q : List ℕ) → Three r p part q → Three r p other q
  exchanged_part part other a p q t = record { low = t.low; is_in = a; high = t.high; not_empty = t.not_empty }

  part_in : (part : List ℕ) → IsPartOfUnit (family s root) r part → AllIn r part
  part_in part i = subst (AllIn r) i.is (all_passed (lies r) i.set)

  -- in a module each part goes on as another
  pub exits_alike : IsModule (family s root) r → (p part other : List ℕ) → part ≢ []
      → exit (family s root) r p part ≢ [] → IsPartOfUnit (family s root) r other
      → exit (family s root) r p other ≡ exit (family s root) r p part
  exits_alike m p part other n some i =
      let is_part : IsPartOfUnit (family s root) r part = let q = has_some (exit (family s root) r p part) some in together_part p part q.0 n (exit_has p part q.0 n q.1) in
      same_sets (exit (family s root) r p other) (exit (family s root) r p part) (in_order other) (in_order part)
      (λ q. both (has (exit (family s root) r p other) q) (has (exit (family s root) r p part) q)
      (moved other part i.some is_part q) (moved part other n i q))
    where
      both : (a b : Bool) → (a ≡ true → b ≡ true) → (b ≡ true → a ≡ true) → a ≡ b
      both true b f g = sym (f refl)
      both false true f g = g refl
      both false false f g = refl

      in_order : (t : List ℕ) → IsInOrder (exit (family s root) r p t)
      in_order t =
          let k = section_number s sound r.from p root root_in in
          let j = section_number s sound r.to t k.0 k.1 in
          subst IsInOrder (sym (ap (section r.to t) k.2 ∙ j.2)) (sound.families j.0 j.1).in_order

      moved : (a b : List ℕ) → a ≢ [] → IsPartOfUnit (family s root) r b → (q : List ℕ)
          → has (exit (family s root) r p a) q ≡ true → has (exit (family s root) r p b) q ≡ true
      moved a b na ib q h =
          let t = exit_has p a q na h in
          has_exit p b q (record {
            three = exchanged_part a b (part_in b ib) p q t.three;
            whole = sym (ap (has (family s root)) (joined_three r p a q t.three b))
                ∙ m.exchanged b (p ++ q) ib (together_rest p a q na t);
          })

-- Sets of new numbers, and the sets of the events that they stand for.
use Rattle.std.proofs.Common.{◌≡◌, ◌⊎◌, ⊎_elim, inl, inr, ℕ, zero, suc, ◌+◌, List, [], ◌∷◌, map, Option, Some, None, refl, sym, ap, ◌∙◌, subst, arith}
use Rattle.std.proofs.lemmas.Bool.{cases_eq}
use Rattle.std.proofs.lemmas.List.{length-map}
use Rattle.ar_base.specs.Lists.{Stands, IsOneOf}
use Rattle.ar_base.specs.NumbersInside.{EventId, numbers_of}
use Rattle.ar_base.proofs.Sets.{member_told}
use Rattle.ar_base.proofs.Standing.{stands_none, stands_map, stands_map_back, one_none, one_cases, one_first, one_rest}
use Rattle.ar_firing.specs.CutsInside.{UpTo}
use Rattle.mode_nodes.specs.Diagrams.{mode_of}
use Rattle.named_families.specs.Names.{IsNamedBy}
use Rattle.event_order.specs.Renumbered.{AreDistinct}

-- t has exactly the numbers of those events of s that have one
pub record IsPartBy (names : List EventId) (t s : List ℕ) : Type 0 where
  pub sound : (i : ℕ) → IsOneOf t i → (n : EventId) × Stands names i n × IsOneOf s n.n
  pub whole : (i : ℕ) (n : EventId) → Stands names i n → IsOneOf s n.n → IsOneOf t i

-- ---- what is read at a place
pub mode_at : (ms : List ℕ) (k m : ℕ) → Stands ms k m → mode_of ms k ≡ m
mode_at [] k m st = absurd (stands_none k m st)
mode_at (x ∷ ms) zero m st = let e : x ≡ m = cc in e
mode_at (x ∷ ms) (suc k) m st = mode_at ms k m st

-- the event that a number stands for
abbrev pub name_at : List EventId → ℕ → ℕ
name_at names i = mode_of (numbers_of names) i

pub name_is : (names : List EventId) (i : ℕ) (n : EventId) → Stands names i n → name_at names i ≡ n.n
name_is names i n st = mode_at (numbers_of names) i n.n (stands_map (λ (y : EventId). y.n) names i n st)

-- ---- the first place of a number, and what is there
pub looked : (qs : List ℕ) (f : ℕ → ℕ) (p : ℕ)
    → (m : ℕ) × (((k : ℕ) × Stands qs k p × (m ≡ f k)) ⊎ (((k : ℕ) → Stands qs k p → ⊥) × (m ≡ 0)))
looked [] f p = (0, inr (λ k st. stands_none k p st, refl))
looked (q ∷ qs) f p = ⊎_elim
    (λ (e : q ≡ p). (f 0, inl (0, ap Some e, refl)))
    (λ (n : q ≡ p → ⊥). later n (looked qs (λ k. f (suc k)) p))
    (cases_eq q p)
  where
    none : (q ≡ p → ⊥) → ((k : ℕ) → Stands qs k p → ⊥) → (k : ℕ) → Stands (q ∷ qs) k p → ⊥
    none n h zero st = let e : q ≡ p = cc in n e
    none n h (suc k) st = h k st

    later : (q ≡ p → ⊥)
        → (m : ℕ) × (((k : ℕ) × Stands qs k p × (m ≡ f (suc k))) ⊎ (((k : ℕ) → Stands qs k p → ⊥) × (m ≡ 0)))
        → (m : ℕ) × (((k : ℕ) × Stands (q ∷ qs) k p × (m ≡ f k)) ⊎ (((k : ℕ) → Stands (q ∷ qs) k p → ⊥) × (m ≡ 0)))
    later n w = (w.0, ⊎_elim (λ l. inl (suc l.0, l.1, l.2)) (λ r. inr (none n r.0, r.1)) w.1)

-- ---- parts
record IsPartFrom (names : List EventId) (start : ℕ) (t s : List ℕ) : Type 0 where
  pub sound : (i : ℕ) → IsOneOf t i → (k : ℕ) × (n : EventId) × (i ≡ start + k) × Stands names k n × IsOneOf s n.n
  pub whole : (k : ℕ) (n : EventId) → Stands names k n → IsOneOf s n.n → (i : ℕ) → i ≡ start + k → IsOneOf t i

part_from : (names : List EventId) (s : List ℕ) (start : ℕ) → (t : List ℕ) × IsPartFrom names start t s
part_from [] s start = (
  [],
  record { sound = λ i o. absurd (one_none i o); whole = λ k n st o i e. absurd (stands_none k n st) },
)
part_from (x ∷ names) s start = ⊎_elim
    (λ (o : IsOneOf s x.n). with_it o (part_from names s (suc start)))
    (λ (n : IsOneOf s x.n → ⊥). without_it n (part_from names s (suc start)))
    (member_told s x.n)
  where
    later : (t : List ℕ) → IsPartFrom names (suc start) t s → (i : ℕ) → IsOneOf t i
        → (k : ℕ) × (n : EventId) × (i ≡ start + k) × Stands (x ∷ names) k n × IsOneOf s n.n
    later t w i o = let y = w.sound i o in (suc y.0, y.1, omega (arith, y.2), y.3, y.4)

    with_it : IsOneOf s x.n → (w : (t : List ℕ) × IsPartFrom names (suc start) t s)
        → (t : List ℕ) × IsPartFrom (x ∷ names) start t s
    with_it o w = (
      start ∷ w.0,
      record {
        sound = λ i p. ⊎_elim
            (λ (e : start ≡ i). (0, x, omega (arith, e), refl, o))
            (λ q. later w.0 w.1 i q)
            (one_cases start w.0 i p);
        whole = λ k n st p i e. there w k n st p i e;
      },
    )
      where
        there : (w : (t : List ℕ) × IsPartFrom names (suc start) t s) (k : ℕ) (n : EventId) → Stands (x ∷ names) k n
            → IsOneOf s n.n → (i : ℕ) → i ≡ start + k → IsOneOf (start ∷ w.0) i
        there w zero n st p i e =
            let same : start ≡ i = omega (arith, e) in
            subst (λ j. IsOneOf (start ∷ w.0) j) same (one_first start w.0)
        there w (suc k) n st p i e = one_rest start w.0 i (w.1.whole k n st p i (omega (arith, e)))

    without_it : (IsOneOf s x.n → ⊥) → (w : (t : List ℕ) × IsPartFrom names (suc start) t s)
        → (t : List ℕ) × IsPartFrom (x ∷ names) start t s
    without_it lack w = (
      w.0,
      record {
        sound = λ i p. later w.0 w.1 i p;
        whole = λ k n st p i e. there w k n st p i e;
      },
    )
      where
        there : (w : (t : List ℕ) × IsPartFrom names (suc start) t s) (k : ℕ) (n : EventId) → Stands (x ∷ names) k n
            → IsOneOf s n.n → (i : ℕ) → i ≡ start + k → IsOneOf w.0 i
        there w zero n st p i e =
            let same : x ≡ n = cc in absurd (lack (subst (λ (y : EventId). IsOneOf s y.n) (sym same) p))
        there w (suc k) n st p i e = w.1.whole k n st p i (omega (arith, e))

-- the numbers of those of a set's events that have one
pub part_of : (names : List EventId) (s : List ℕ) → (t : List ℕ) × IsPartBy names t s
part_of names s = let w = part_from names s 0 in (
  w.0,
  record {
    sound = λ i o.
        let y = w.1.sound i o in
        let e : y.0 ≡ i = omega (arith, y.2) in
        (y.1, subst (λ k. Stands names k y.1) e y.3, y.4);
    whole = λ i n st o. w.1.whole i n st o i (omega arith);
  },
)

-- ---- the events that numbers stand for
pub named_of : (names : List EventId) (t : List ℕ) → ((i : ℕ) → IsOneOf t i → (n : EventId) × Stands names i n)
    → IsNamedBy names t (map (name_at names) t)
named_of names t have = record {
  sound = λ e o.
      let x = stands_map_back (name_at names) t o.place e o.stands in
      let one : IsOneOf t x.0 = record { place = o.place; stands = x.1 } in
      let n = have x.0 one in
      (x.0, n.0, one, n.1, sym (name_is names x.0 n.0 n.1) ∙ x.2);
  whole = λ i o.
      let n = have i o in (
        n.0,
        n.1,
        subst (λ e. IsOneOf (map (name_at names) t) e) (name_is names i n.0 n.1)
            (record { place = o.place; stands = stands_map (name_at names) t o.place i o.stands }),
      );
}

pub part_by_names : (names : List EventId) (t s : List ℕ) → AreDistinct names → IsNamedBy names t s → IsPartBy names t s
part_by_names names t s d b = record {
  sound = λ i o. b.whole i o;
  whole = λ i n st o.
      let w = b.sound n.n o in
      subst (λ k. IsOneOf t k) (d.one w.0 i w.1 n w.3 st w.4) w.2;
}

-- ---- how many events
pub few_old : (order : Option ℕ) (names : List EventId) (t s : List ℕ) → IsNamedBy names t s → UpTo order t → UpTo order s
few_old None names t s b u = tt
few_old (Some k) names t s b u = record {
  list = map (name_at names) u.list;
  within = record {
    each = λ e o.
        let w = b.sound e o in
        let l = u.within.each w.0 w.2 in
        subst (λ y. IsOneOf (map (name_at names) u.list) y) (name_is names w.0 w.1 w.3 ∙ w.4)
        (record { place = l.place; stands = stands_map (name_at names) u.list l.place w.0 l.stands });
  };
  few = let l = u.few in omega (arith, l, length-map u.list (name_at names));
}

abbrev number_at : List EventId → ℕ → ℕ
number_at names e = (looked (numbers_of names) (λ k. k) e).0

number_is : (names : List EventId) → AreDistinct names → (i : ℕ) (n : EventId) → Stands names i n → number_at names n.n ≡ i
number_is names d i n st = ⊎_elim
    (λ l.
    let x = stands_map_back (λ (y : EventId). y.n) names l.0 n.n l.1 in
    l.2 ∙ d.one l.0 i x.0 n x.1 st x.2)
    (λ r. absurd (r.0 i (stands_map (λ (y : EventId). y.n) names i n st)))
    (looked (numbers_of names) (λ k. k) n.n).1

pub few_new : (order : Option ℕ) (names : List EventId) (t s : List ℕ) → AreDistinct names → IsPartBy names t s
    → UpTo order s → UpTo order t
few_new None names t s d b u = tt
few_new (Some k) names t s d b u = record {
  list = map (number_at names) u.list;
  within = record {
    each = λ i o.
        let w = b.sound i o in
        let l = u.within.each w.0.n w.2 in
        subst (λ y. IsOneOf (map (number_at names) u.list) y) (number_is names d i w.0 w.1)
        (record { place = l.place; stands = stands_map (number_at names) u.list l.place w.0.n l.stands });
  };
  few = let l = u.few in omega (arith, l, length-map u.list (number_at names));
}

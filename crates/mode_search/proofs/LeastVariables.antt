-- The least variables of ways that do not name them alone.
use Rattle.std.proofs.Common.{◌≡◌, ℕ, ◌+◌, ◌<◌, ◌≤◌, ◌⊎◌, inl, inr, Bool, true, false, cond, nat_lt, List, take, take_all, length, get_or, Option, Some, None, refl, sym, ap, ◌∙◌, subst, arith}
use Rattle.std.proofs.lemmas.List.{get_or_default}
use Rattle.std.proofs.lemmas.Bool.{ltb-false}
use Rattle.ar_base.proofs.Standing.{one_none}
use Rattle.ar_base.proofs.Comparing.{low}
use Rattle.mode_search.proofs.Added.{taken_cases, taken_here, taken_more}
use Rattle.mode_search.specs.Events.{IsLeastNumber}
use Rattle.mode_search.specs.Kept.{OtherIn, least_unless_alone}
use Rattle.mode_search.specs.declared.kept.KeptWay.{KeptWay}

module _ (alone : KeptWay → Bool) (kept : List KeptWay) where
  pub least_start : IsLeastNumber (OtherIn alone (take 0 kept)) None
  least_start = λ n q. one_none q.way q.is_one

  module _ (i : ℕ) (way : KeptWay) (h : i < length kept) (is : way ≡ get_or kept i way) where
    split : (n : ℕ) → OtherIn alone (take (i + 1) kept) n
        → OtherIn alone (take i kept) n ⊎ ((way.mode.variable.n ≡ n) × (alone way ≡ false))
    split n q = elim (taken_cases kept i way q.way h is q.is_one) [
      | inl o ↦ inl (record { way = q.way; is_one = o; number = q.number; other = q.other })
      | inr e ↦ inr (ap (λ (k : KeptWay). k.mode.variable.n) e ∙ q.number, ap alone e ∙ q.other)
    ]

    grow : (n : ℕ) → OtherIn alone (take i kept) n → OtherIn alone (take (i + 1) kept) n
    grow n q = record {
      way = q.way;
      is_one = taken_more kept i way q.way h is q.is_one;
      number = q.number;
      other = q.other;
    }

    this : alone way ≡ false → OtherIn alone (take (i + 1) kept) way.mode.variable.n
    this e = record { way = way; is_one = taken_here kept i way h is; number = refl; other = e }

    with_way : (least : Option ℕ) (b : Bool) → alone way ≡ b → IsLeastNumber (OtherIn alone (take i kept)) least
        → IsLeastNumber (OtherIn alone (take (i + 1) kept)) (least_unless_alone least b way.mode.variable.n)
    with_way None true e k = λ n q. elim (split n q) [ inl o ↦ k n o | inr o ↦ (let u = o.1 in cc) ]
    with_way (Some m) true e k = (grow m k.0, λ n q. elim (split n q) [ inl o ↦ k.1 n o | inr o ↦ (let u = o.1 in cc) ])
    with_way None false e k = (this e, λ n q. elim (split n q) [ inl o ↦ absurd (k n o) | inr o ↦ (let u = o.0 in omega arith) ])
    with_way (Some m) false e k = by (nat_lt way.mode.variable.n m) cc
      where
        by : (c : Bool) → nat_lt way.mode.variable.n m ≡ c
            → IsLeastNumber (OtherIn alone (take (i + 1) kept)) (Some (cond c way.mode.variable.n m))
        by true t = (this e, λ n q. elim (split n q) [ inl o ↦ (let u = k.1 n o in let v = low way.mode.variable.n m t in omega arith) | inr o ↦ (let u = o.0 in omega arith) ])
        by false t = (grow m k.0, λ n q. elim (split n q) [ inl o ↦ k.1 n o | inr o ↦ (let u = o.0 in let v = ltb-false way.mode.variable.n m t in omega arith) ])

  pub least_more : (i : ℕ) (d : KeptWay) (least found : Option ℕ) → i < length kept
      → IsLeastNumber (OtherIn alone (take i kept)) least
      → found ≡ least_unless_alone least (alone (get_or kept i d)) (get_or kept i d).mode.variable.n
      → IsLeastNumber (OtherIn alone (take (i + 1) kept)) found
  least_more i d least found h k e = subst (λ (z : Option ℕ). IsLeastNumber (OtherIn alone (take (i + 1) kept)) z) (sym e)
      (with_way i (get_or kept i d) h (get_or_default kept i d (get_or kept i d) h) least (alone (get_or kept i d)) refl
      k)

  pub least_all : (i : ℕ) (least : Option ℕ) → length kept ≤ i → IsLeastNumber (OtherIn alone (take i kept)) least
      → IsLeastNumber (OtherIn alone kept) least
  least_all i least h k = subst (λ (z : List KeptWay). IsLeastNumber (OtherIn alone z) least) (take_all i kept h) k

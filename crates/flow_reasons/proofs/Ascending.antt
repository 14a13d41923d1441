-- Two ascending lists with the same numbers are one list.
use Rattle.std.proofs.Common.{◌≡◌, inl, inr, ℕ, List, ◌∷◌, sym, arith}
use Rattle.ar_base.specs.Lists.{IsOneOf}
use Rattle.ar_base.specs.Sets.{Ascends}
use Rattle.ar_base.proofs.Standing.{one_cases}
use Rattle.ar_base.proofs.Sets.{ascends_first}

first_same : (x y : ℕ) (xs ys : List ℕ) → Ascends (x ∷ xs) → Ascends (y ∷ ys) → IsOneOf (y ∷ ys) x → IsOneOf (x ∷ xs) y
    → x ≡ y
first_same x y xs ys a b o p =
    elim (one_cases y ys x o) [
      | inl e ↦ sym e
      | inr q ↦ (elim (one_cases x xs y p) [
        | inl e ↦ e
        | inr r ↦ (let l = ascends_first x xs a y r in let m = ascends_first y ys b x q in absurd (omega (arith, l, m)))
      ])
    ]

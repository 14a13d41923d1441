-- Settings from a place on.
use Rattle.std.proofs.Common.{◌≡◌, ℕ, zero, suc, ◌+◌, List, [], ◌∷◌, drop, refl, ◌∙◌, ap, arith}
use Rattle.ar_base.specs.Lists.{Stands}
use Rattle.ar_base.proofs.Standing.{stands_one, stands_none}

-- the list from an item on
pub drop_here : {A : Type 0} (xs : List A) (i : ℕ) (a : A) → Stands xs i a → drop i xs ≡ a ∷ drop (i + 1) xs
drop_here [] i a s = absurd (stands_none i a s)
drop_here {A = A} (x ∷ xs) zero a s = ap (λ (y : A). y ∷ xs) (stands_one (x ∷ xs) 0 x a refl s)
drop_here {A = A} (x ∷ xs) (suc i) a s = drop_here xs i a s ∙ ap (λ (k : ℕ). a ∷ drop k (x ∷ xs)) (let e : suc (i + 1) ≡ suc i + 1 = omega arith in e)

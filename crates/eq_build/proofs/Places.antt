-- The item that a loop looks at.
use Rattle.std.proofs.Common.{◌≡◌, ℕ, suc, ◌<◌, List, ◌∷◌, length, get_or, drop, drop-cons, sym, ap, ◌∙◌}

-- what is left from a place on is the item there and what is left behind it
pub item_next : {A : Type 0} (xs : List A) (i : ℕ) (x : A) → i < length xs → x ≡ get_or xs i x
    → drop i xs ≡ x ∷ drop (suc i) xs
item_next xs i x l e = drop-cons xs i x l ∙ ap (λ z. z ∷ drop (suc i) xs) (sym e)

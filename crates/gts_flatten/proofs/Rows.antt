-- Lists that are made item by item from another list.
use Rattle.std.proofs.Common.{◌≡◌, ℕ, ◌+◌, ◌<◌, ◌≤◌, List, [], ◌∷◌, ◌++◌, take, length, get_or, sym, ap, ◌∙◌, subst}
use Rattle.std.proofs.lemmas.List.{take_more, take_all}
use Rattle.ar_base.specs.Lists.{Along, none, one_and}
use Rattle.ar_base.proofs.Items.{along_append}

module _ {A B : Type 0} {R : A → B → Type 0} where
  pub rows_start : (ys : List B) → ys ≡ [] → Along R [] ys
  rows_start ys e = subst (λ z. Along R [] z) (sym e) none

  -- one item more
  pub rows_next : (xs : List A) (n : ℕ) (x : A) (y : B) (ys zs : List B) → n < length xs → x ≡ get_or xs n x
      → Along R (take n xs) ys → R x y
      → zs ≡ ys ++ y ∷ [] → Along R (take (n + 1) xs) zs
  rows_next xs n x y ys zs h e k r j =
      subst (λ z. Along R (take (n + 1) xs) z) (sym j)
      (subst (λ z. Along R z (ys ++ y ∷ [])) (sym (take_more xs n x h ∙ ap (λ z. take n xs ++ z ∷ []) (sym e)))
      (along_append k (one_and r none)))

  -- all items
  pub rows_end : (xs : List A) (n : ℕ) (ys : List B) → length xs ≤ n → Along R (take n xs) ys → Along R xs ys
  rows_end xs n ys h k = subst (λ z. Along R z ys) (take_all n xs h) k

module _ {A : Type 0} where
  -- the same items: one more
  pub same_next : (xs : List A) (n : ℕ) (x y : A) (ys zs : List A) → n < length xs → x ≡ get_or xs n x → ys ≡ take n xs
      → y ≡ x → zs ≡ ys ++ y ∷ [] → zs ≡ take (n + 1) xs
  same_next xs n x y ys zs h e k r j =
      j ∙ (ap (λ z. z ++ y ∷ []) k ∙ (ap (λ z. take n xs ++ z ∷ []) (r ∙ e) ∙ sym (take_more xs n x h)))

  -- and all
  pub same_end : (xs : List A) (n : ℕ) (ys : List A) → length xs ≤ n → ys ≡ take n xs → ys ≡ xs
  same_end xs n ys h k = k ∙ take_all n xs h

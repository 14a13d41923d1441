-- Lists over new numbers, item after item.
use Rattle.std.proofs.Common.{◌≡◌, ◌<◌, ◌≤◌, ◌+◌, ℕ, List, [], ◌∷◌, ◌++◌, length, take, map, get_or, sym, ap, ◌∙◌, subst}
use Rattle.std.proofs.lemmas.List.{map-append, take_all, take_more}
use Rattle.ar_base.specs.Lists.{Along}
use Rattle.ar_base.proofs.Items.{along_push}

module _ {A B C D : Type 0} {R : C → D → Type 0} (f : A → C) (g : B → D) (xs : List A) (i : ℕ) (ys : List B)
    (along : Along R (map f (take i xs)) (map g ys)) where
  -- one item more
  pub along_more : (d x : A) (y : B) (zs : List B) → i < length xs → x ≡ get_or xs i d → zs ≡ ys ++ y ∷ [] → R (f x) (g y)
      → Along R (map f (take (i + 1) xs)) (map g zs)
  along_more d x y zs inside at pushed r =
      let item = take_more xs i d inside ∙ ap (λ z. take i xs ++ z ∷ []) (sym at) in
      let olds = ap (map f) item ∙ map-append f (take i xs) (x ∷ []) in
      let news = ap (map g) pushed ∙ map-append g ys (y ∷ []) in
      subst (λ z. Along R z (map g zs)) (sym olds)
      (subst (λ z. Along R (map f (take i xs) ++ f x ∷ []) z) (sym news)
      (along_push (map f (take i xs)) (map g ys) (f x) (g y) along r))

  -- all items
  pub along_all : length xs ≤ i → Along R (map f xs) (map g ys)
  along_all l = subst (λ z. Along R (map f z) (map g ys)) (take_all i xs l) along

-- Lists item by item.
use Rattle.std.proofs.Common.{◌≡◌, List, [], ◌∷◌, map, refl}
use Rattle.std.specs.List.{flat_map}
use Rattle.ar_base.specs.Lists.{Along, none, one_and}

-- lists in a relation are in a wider one
pub along_each : {A B : Type 0} {P Q : A → B → Type 0} → ((a : A) (b : B) → P a b → Q a b) → {xs : List A} {ys : List B}
    → Along P xs ys → Along Q xs ys
along_each f none = none
along_each f (one_and {a = a} {b = b} p more) = one_and (f a b p) (along_each f more)

-- functions that agree have the same images
pub each_same : {A B : Type 0} (f g : A → B) → ((a : A) → f a ≡ g a) → (xs : List A) → map f xs ≡ map g xs
each_same f g h [] = refl
each_same f g h (x ∷ xs) = let e = h x in let r = each_same f g h xs in cc

pub flat_same : {A B : Type 0} (f g : A → List B) → ((a : A) → f a ≡ g a) → (xs : List A)
    → flat_map f xs ≡ flat_map g xs
flat_same f g h [] = refl
flat_same f g h (x ∷ xs) = let e = h x in let r = flat_same f g h xs in cc

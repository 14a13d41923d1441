-- What holds of one of the items of a list.
use Rattle.std.specs.Prelude.{List, ◌∷◌}

-- one of the items has P with the thing
pub data SomeHas {A B : Type 0} (P : B → A → Type 0) : List B → A → Type 0 where
  in_this : {b : B} {bs : List B} {x : A} → P b x → SomeHas P (b ∷ bs) x
  in_later : {b : B} {bs : List B} {x : A} → SomeHas P bs x → SomeHas P (b ∷ bs) x

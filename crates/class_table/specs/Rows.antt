-- The bodies inside each body, as rows of numbers.
use Rattle.std.specs.Prelude.{◌≡◌, ℕ, Vec, List, [], ◌∷◌, ◌++◌, length, Option, Some, None}
use Rattle.std.specs.Global.{Global}
use Rattle.ar_base.specs.Lists.{Stands, IsOneOf}
use Rattle.ar_base.specs.declared.places.Place.{Place}
use Rattle.class_table.specs.Declaring.{Declared}
use Rattle.class_table.specs.Rules.{HasInside}
use Rattle.class_table.specs.Shown.{put_inside}
use Rattle.class_table.specs.declared.tables.Owned.{Owned}

-- the row of the first number has the second
pub record IsInRow (rows : List (Vec ℕ Global)) (a b : ℕ) : Type 0 where
  pub row : Vec ℕ Global
  pub stands : Stands rows a row
  pub is_one : IsOneOf row.items b

-- the rows are those of the bodies inside each body
pub record AreInnerBodies (d : Declared) (rows : List (Vec ℕ Global)) : Type 0 where
  pub long : length rows ≡ length d.bodies
  pub to : (a b : ℕ) → IsInRow rows a b → HasInside d a b
  pub from : (a b : ℕ) → HasInside d a b → IsInRow rows a b

-- the row has the bodies that these members put inside
pub record IsRowOf (d : Declared) (own : List Owned) (row : List ℕ) : Type 0 where
  pub to : (b : ℕ) → IsOneOf row b → (o : Owned) × (at : Option Place) × IsOneOf own o × (put_inside d o ≡ Some (b, at))
  pub from : (o : Owned) (b : ℕ) (at : Option Place) → IsOneOf own o → put_inside d o ≡ Some (b, at) → IsOneOf row b

-- the body that the member puts inside, if any, goes last
pub data AddsInside (d : Declared) (o : Owned) (old : List ℕ) : List ℕ → Type 0 where
  nothing : put_inside d o ≡ None → AddsInside d o old old
  body : {b : ℕ} {at : Option Place} → put_inside d o ≡ Some (b, at) → AddsInside d o old (old ++ b ∷ [])

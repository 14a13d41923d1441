-- The state of a search among bodies.
use Rattle.std.specs.Prelude.{◌≡◌, ◌<◌, ◌≤◌, ℕ, Bool, true, false, List, [], ◌∷◌, ◌+◌, ◌++◌, length, Option, Some}
use Rattle.ar_base.specs.Lists.{Stands, IsOneOf}
use Rattle.ar_base.specs.declared.places.Place.{Place}
use Rattle.class_table.specs.Declaring.{Declared}
use Rattle.class_table.specs.Rules.{HasInside}
use Rattle.class_table.specs.Shown.{put_inside}
use Rattle.class_table.specs.declared.tables.Owned.{Owned}

-- how many are marked
abbrev pub count_of_marked : List Bool → ℕ
count_of_marked [] = 0
count_of_marked (true ∷ seen) = count_of_marked seen + 1
count_of_marked (false ∷ seen) = count_of_marked seen

-- the bodies that are marked are those that are open, and no more are open than are marked
pub record IsSeen (seen : List Bool) (open_ones : List ℕ) : Type 0 where
  pub is_open : (b : ℕ) → Stands seen b true → IsOneOf open_ones b
  pub has_seen : (b : ℕ) → IsOneOf open_ones b → Stands seen b true
  pub no_more : length open_ones ≤ count_of_marked seen

-- the body is open, if there is one of this number, with no other one added
pub record OpensOne (body : ℕ) (old new : List ℕ) (seen : List Bool) : Type 0 where
  pub added : List ℕ
  pub joined : new ≡ old ++ added
  pub only : (b : ℕ) → IsOneOf added b → b ≡ body
  pub is_open : body < length seen → IsOneOf new body
  pub is_seen : IsSeen seen new

-- the bodies that these members put inside are open, with no other ones added
pub record Opens (d : Declared) (own : List Owned) (old new : List ℕ) (seen : List Bool) : Type 0 where
  pub added : List ℕ
  pub joined : new ≡ old ++ added
  pub only : (b : ℕ) → IsOneOf added b → (o : Owned) × (at : Option Place) × IsOneOf own o × (put_inside d o ≡ Some (b, at))
  pub are_open : (o : Owned) (b : ℕ) (at : Option Place) → IsOneOf own o → put_inside d o ≡ Some (b, at) → b < length seen
      → IsOneOf new b
  pub is_seen : IsSeen seen new

-- the bodies inside the body are open, with no other ones added
pub record OpensInside (d : Declared) (body : ℕ) (old new : List ℕ) (seen : List Bool) : Type 0 where
  pub added : List ℕ
  pub joined : new ≡ old ++ added
  pub only : (b : ℕ) → IsOneOf added b → HasInside d body b
  pub are_open : (b : ℕ) → HasInside d body b → b < length seen → IsOneOf new b
  pub is_seen : IsSeen seen new

-- Names that stand twice in a list.
use Rattle.std.specs.Prelude.{◌≡◌, ℕ, ◌<◌, ◌↔◌, true, List, nat_eq}
use Rattle.std.specs.HashSet as bag
use Rattle.ar_base.specs.Lists.{Stands}
use Rattle.ar_base.specs.declared.places.Place.{Place}
use Rattle.class_table.specs.declared.repeats.Repeats.{Repeats}
use Rattle.class_table.specs.Earliest.{IsEarliest}

-- the place is that of the later of two of one name
pub record IsRepeated (names : List (ℕ × Place)) (p : Place) : Type 0 where
  pub j : ℕ
  pub k : ℕ
  pub first : ℕ × Place
  pub later : ℕ × Place
  pub before : j < k
  pub is_first : Stands names j first
  pub is_later : Stands names k later
  pub one_name : first.0 ≡ later.0
  pub place : p ≡ later.1

-- the name is one of these
pub record IsNamed (names : List (ℕ × Place)) (x : ℕ) : Type 0 where
  pub k : ℕ
  pub one : ℕ × Place
  pub stands : Stands names k one
  pub name : one.0 ≡ x

-- these names were met, and the earliest of those that were met before was found
pub record HasMet (r : Repeats) (names : List (ℕ × Place)) : Type 0 where
  pub met : (x : ℕ) → (bag.contains nat_eq r.names x ≡ true) ↔ IsNamed names x
  pub found : IsEarliest (IsRepeated names) r.found

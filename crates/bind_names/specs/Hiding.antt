-- Marks of the events that hide clauses name.
use Rattle.std.specs.Prelude.{◌≡◌, ℕ, ◌<◌, ◌⊎◌, Bool, true, List, length}
use Rattle.std.specs.List.{flat_map}
use Rattle.ar_base.specs.Lists.{Stands, IsOneOf}
use Rattle.ar_meaning.specs.Found.{IsAnswer}
use Rattle.ar_syntax.specs.declared.paths.Path.{Path}
use Rattle.class_table.specs.Declaring.{MemberForm}
use Rattle.hierarchy.specs.Models.{RootedModel}
use Rattle.hierarchy.specs.Units.{UnitPath, Thing}
use Rattle.hierarchy.specs.Walks.{Finds, is_event}
use Rattle.hierarchy.specs.Listing.{events, hidden}
use Rattle.source_meaning.specs.Systems.{IsHidden}

-- one of these members of the unit u is a hide clause that names the thing
pub record HidesIn (m : RootedModel) (u : UnitPath) (forms : List MemberForm) (t : Thing) : Type 0 where
  pub path : Path
  pub is_clause : IsOneOf (flat_map hidden forms) path
  pub names : Finds m is_event u path t

-- the marks of those of these things that have P were set, and no others
pub record Marks (things : List Thing) (P : Thing → Type 0) (old new : List Bool) : Type 0 where
  pub same : length new ≡ length old
  pub kept : (n : ℕ) → Stands old n true → Stands new n true
  pub set : (n : ℕ) (t : Thing) → n < length old → Stands things n t → P t → Stands new n true
  pub only : (n : ℕ) (t : Thing) → Stands things n t → Stands new n true → Stands old n true ⊎ P t

-- each mark tells of its event whether a hide clause names it
pub record AreHidden (m : RootedModel) (units : List UnitPath) (marks : List Bool) : Type 0 where
  pub same : length marks ≡ length (events m units)
  pub tell : (n : ℕ) (t : Thing) (b : Bool) → Stands (events m units) n t → Stands marks n b
      → IsAnswer b (IsHidden m units t)

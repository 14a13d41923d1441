-- Definitions beside those of Breaches, of which clauses inside the program speak: what the whole program promises does
-- not rest on them.
use Rattle.std.specs.Prelude.{◌≡◌, Bool, Option, Some, None}
use Rattle.ar_base.specs.declared.places.Place.{Place}
use Rattle.ar_syntax.specs.declared.paths.Path.{Path}
use Rattle.typed_expr.specs.declared.expr.ValueKind.{ValueKind}

-- what a path that is assigned or tied names: a state variable, a flow, or no variable
abbrev pub Targets : Type 0
Targets = Path → Option Bool

-- the path names a variable of this sort
abbrev pub IsSort : Targets → Bool → Path → Type 0
IsSort targets is_state p = targets p ≡ Some is_state

-- the path names a variable
abbrev pub IsTarget : Targets → Path → Type 0
IsTarget targets p = (b : Bool) × (targets p ≡ Some b)

-- the path, which stands here, names no variable
pub record IsNoTargetAt (targets : Targets) (p : Path) (at : Place) : Type 0 where
  pub none : targets p ≡ None
  pub place : at ≡ p.at

-- the right path has another kind than the left one, and stands here
pub data AreOtherKinds (names : Path → ValueKind → Type 0) (p q : Path) : Place → Type 0 where
  other : (j k : ValueKind) → names p j → names q k → (k ≡ j → ⊥) → AreOtherKinds names p q q.at

-- the path names a variable of this sort, and stands here
pub record IsSortAt (targets : Targets) (is_state : Bool) (p : Path) (at : Place) : Type 0 where
  pub names : targets p ≡ Some is_state
  pub place : at ≡ p.at

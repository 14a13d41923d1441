-- What is read of the units of a flat system.
use Rattle.std.specs.Prelude.{◌≡◌, ℕ, Bool, true, List, length, Option}
use Rattle.ar_base.specs.Lists.{Stands}
use Rattle.ar_base.specs.Numbers.{VarId}
use Rattle.gts_core.specs.declared.system.Variable.{Variable}
use Rattle.gts_core.specs.declared.system.GtsParts.{GtsParts}
use Rattle.mode_search.specs.Events.{AreMarks, AreMoving, AreFirstStates}

-- the marks of the dropped events, for each unit whether it moves, and its first state variable
pub record AreUnitMarks (p : GtsParts) (dropped : List ℕ) (marks moving : List Bool)
    (firsts : List (Option VarId)) : Type 0 where
  pub are_marks : AreMarks (length p.events.items) dropped marks
  pub are_moving : AreMoving p marks (length p.events.items) moving
  pub are_firsts : AreFirstStates p (length p.variables.items) firsts

-- the variable of number n is a state variable of a unit that moves
pub record IsMovingState (p : GtsParts) (moving : List Bool) (n : ℕ) : Type 0 where
  pub variable : Variable
  pub stands : Stands p.variables.items n variable
  pub is_state : variable.is_state ≡ true
  pub moves : Stands moving variable.unit.n true

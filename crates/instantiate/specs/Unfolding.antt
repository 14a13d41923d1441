-- The unfolding of a main block: its units within the limits, and the rules L6 to L9.
use Rattle.std.specs.Prelude.{ℕ, List, [], ◌∷◌, Result}
use Rattle.ar_base.specs.Stages.{Then, Keeps}
use Rattle.ar_base.specs.declared.faults.RuleFault.{RuleFault}
use Rattle.ar_base.specs.declared.places.Place.{Place}
use Rattle.hierarchy.specs.Models.{RootedModel}
use Rattle.hierarchy.specs.Units.{UnitPath}
use Rattle.hierarchy.specs.Walks.{Nothing, Loops}
use Rattle.hierarchy.specs.Listing.{Unfolded}
use Rattle.unit_walks.specs.Unfolding.{Unfolds}
use Rattle.unit_rules.specs.Statements.{WalkEnds}
use Rattle.unit_rules.specs.Limits.{FitsLimits}
use Rattle.unit_rules.specs.Rules.{BreaksDeclaration, BreaksSetting}

-- rule n is broken at this place, where the main block has these units: a clone or an alias whose path names no unit,
-- one whose walk loops, a declaration of variables without its one setting, a setting without a target or the later of
-- two of one target
pub data BreaksUnitRule (m : RootedModel) (units : List UnitPath) : ℕ → Place → Type 0 where
  l6 : {p : Place} → WalkEnds m units Nothing p → BreaksUnitRule m units 6 p
  l7 : {p : Place} → WalkEnds m units Loops p → BreaksUnitRule m units 7 p
  l8 : {p : Place} → BreaksDeclaration m units p → BreaksUnitRule m units 8 p
  l9 : {p : Place} → BreaksSetting m units p → BreaksUnitRule m units 9 p

-- the rules that are tested when the main block is unfolded
abbrev pub unit_rules : List ℕ
unit_rules = 6 ∷ 7 ∷ 8 ∷ 9 ∷ []

-- the same over a model with its units
abbrev pub unit_breaks : Unfolded → ℕ → Place → Type 0
unit_breaks t = BreaksUnitRule t.model t.units

-- the stage: the units with the limits of depth and units, the limits of variables, events and nodes, then the rules
abbrev pub Instantiates : RootedModel → Result Unfolded RuleFault → Type 0
Instantiates = Then Unfolds (Then FitsLimits (Keeps unit_rules unit_breaks))

-- What an instruction of a unit keeps, where the rules of names, kinds and targets are kept.
use Rattle.std.specs.Prelude.{Bool, true, false}
use Rattle.ar_base.specs.declared.places.Place.{Place}
use Rattle.hierarchy.specs.Models.{RootedModel}
use Rattle.hierarchy.specs.Units.{UnitPath}
use Rattle.hierarchy.specs.Settings.{is_state_variable, is_flow_variable}
use Rattle.written_forms.specs.Parts.{InstrForm, IsPartOf}
use Rattle.written_forms.specs.Breaches.{MisnamesItself, MistypesItself, MisplacedInAction, MisplacedInAssertion}
use Rattle.source_meaning.specs.Kinds.{HasKindAt}
use Rattle.source_meaning.specs.Rules.{IsNot, Is}
use Rattle.source_meaning.specs.Tested.{Everything, MayName, NamesVariable}

-- the instruction itself has a wrong target at the place, in an action, which sets state variables, or in an assertion
abbrev pub IsMisplaced : RootedModel → UnitPath → Bool → InstrForm → Place → Type 0
IsMisplaced m u true i at = MisplacedInAction (IsNot m is_state_variable u) i at
IsMisplaced m u false i at = MisplacedInAssertion (IsNot m is_flow_variable u) (Is m is_flow_variable u) i at

-- the instruction itself, where it stands in the unit u, breaks no rule of names, kinds and targets
pub record KeepsRules (m : RootedModel) (u : UnitPath) (to_state : Bool) (i : InstrForm) : Type 0 where
  pub naming : (at : Place) → MisnamesItself (MayName m u Everything) (NamesVariable m u) i at → ⊥
  pub kinds : (at : Place) → MistypesItself (HasKindAt m u) i at → ⊥
  pub targets : (at : Place) → IsMisplaced m u to_state i at → ⊥

-- nor does any that stands in it
pub record KeepsInside (m : RootedModel) (u : UnitPath) (to_state : Bool) (whole : InstrForm) : Type 0 where
  pub keeps : (i : InstrForm) → IsPartOf i whole → KeepsRules m u to_state i

-- The effects of a step.
use Rattle.std.specs.Prelude.{◌≡◌, ℕ, if◌then◌else◌, List, [], ◌∷◌, ◌++◌, Option, Some, None, slice_get}
use Rattle.std.specs.List.{list_all}
use Rattle.ar_base.specs.Lists.{Stands}
use Rattle.ar_base.specs.Numbers.{WayId}
use Rattle.domains.specs.declared.Value.{Value}
use Rattle.gts_core.specs.declared.system.Assign.{Assign}
use Rattle.gts_core.specs.declared.system.Way.{Way}
use Rattle.gts_core.specs.declared.system.WayBody.{WayBody}
use Rattle.gts_core.specs.declared.system.WayBody.TheVariants.{Local, Sync}
use Rattle.gts_core.specs.Readings.{value_in, is_met}
use Rattle.way_flags.specs.declared.effects.Effect.{Effect}

-- the effect of an assignment
abbrev pub effect_of : List Value → Assign → Effect
effect_of t a = record { target = a.target; value = value_in t a.value }

-- the effects of the assignments that are reached, in order
abbrev pub action_effects : List Value → List Assign → List Effect
action_effects t [] = []
action_effects t (a ∷ more) = (if list_all (is_met t) a.when.items then effect_of t a ∷ [] else []) ++ action_effects t
    more

-- the effects of a way's own action
abbrev pub body_effects : List Value → WayBody → List Effect
body_effects t (Local guard action) = action_effects t action.items
body_effects t (Sync parts) = []

-- those of a way that was looked up; a number that stands for none has none
abbrev pub found_effects : List Value → Option Way → List Effect
found_effects t (Some w) = body_effects t w.body
found_effects t None = []

-- the effects of the ways with these numbers, in order
abbrev pub taken_effects : List Value → List Way → List WayId → List Effect
taken_effects t ways [] = []
taken_effects t ways (id ∷ more) = found_effects t (slice_get ways id.n) ++ taken_effects t ways more

-- one of the effects gives the variable this value
pub record EffectGives (effects : List Effect) (n : ℕ) (v : Value) : Type 0 where
  pub place : ℕ
  pub effect : Effect
  pub stands : Stands effects place effect
  pub target : effect.target.n ≡ n
  pub value : effect.value ≡ v

-- One step: one firing of one way, and the propagation that follows.
use Rattle.std.specs.Prelude.{◌≡◌, ℕ, List, [], ◌∷◌, Contains}
use Rattle.ar_base.specs.Lists.{IsFirst, HasNo}
use Rattle.domains.specs.declared.Value.{Value}
use Rattle.ar_meaning.specs.Systems.{Variable, Net, Way}
use Rattle.ar_meaning.specs.Facts.{HasValue}
use Rattle.ar_meaning.specs.Flows.{Flows, FlowFault, Fails, Total}
use Rattle.ar_meaning.specs.Ways.{Can, Effects}

-- the variable receives two different values
pub record Clashes {V : Type 0} (effects : V → Value → Type 0) (x : Variable V) : Type 0 where
  pub first : Value
  pub second : Value
  pub is_first : effects x.key first
  pub is_second : effects x.key second
  pub differ : first ≡ second → ⊥

-- the variable receives a value outside its domain
pub record LeavesDomain {V : Type 0} (effects : V → Value → Type 0) (x : Variable V) : Type 0 where
  pub value : Value
  pub received : effects x.key value
  pub outside : Contains x.domain value → ⊥

-- each variable's value after the effects, in order: what it receives, or else the old one
pub data Receives {V : Type 0} (effects : V → Value → Type 0) : List
    (Variable V) → List Value → List Value → Type 0 where
  none : Receives effects [] [] []
  changed : {x : Variable V} {xs : List (Variable V)} {v w : Value} {vs ws : List Value} → effects x.key w
      → Receives effects xs vs ws → Receives effects (x ∷ xs) (v ∷ vs) (w ∷ ws)
  kept : {x : Variable V} {xs : List (Variable V)} {v : Value} {vs ws : List Value}
      → ((w : Value) → effects x.key w → ⊥)
      → Receives effects xs vs ws → Receives effects (x ∷ xs) (v ∷ vs) (v ∷ ws)

-- the way cannot fire, a variable receives two values, a variable receives a value outside its domain, or the new state
-- has a flow fault; variables by number
pub data StepFault : Type 0 where
  NotEnabled : StepFault
  Clash : (variable : ℕ) → StepFault
  Range : (variable : ℕ) → StepFault
  Flow : FlowFault → StepFault

-- a fault, or the new total valuation
pub data Answer : Type 0 where
  Refused : StepFault → Answer
  Next : (values : List Value) → Answer

-- what firing a way from the total valuation t gives: the first of the five that applies
pub data Step {V : Type 0} (net : Net V) (t : List Value) (w : Way V) : Answer → Type 0 where
  not_enabled : (Can (HasValue net t) w → ⊥) → Step net t w (Refused NotEnabled)
  clash : {n : ℕ} → Can (HasValue net t) w → IsFirst net.variables (Clashes (Effects (HasValue net t) w)) n
      → Step net t w (Refused (Clash n))
  range : {n : ℕ} → Can (HasValue net t) w → HasNo net.variables (Clashes (Effects (HasValue net t) w))
      → IsFirst net.variables (LeavesDomain (Effects (HasValue net t) w)) n → Step net t w (Refused (Range n))
  flow : {f : FlowFault} (state : List Value) → Can (HasValue net t) w
      → HasNo net.variables (Clashes (Effects (HasValue net t) w))
      → HasNo net.variables (LeavesDomain (Effects (HasValue net t) w))
      → Receives (Effects (HasValue net t) w) net.variables t state
      → Flows net state (Fails f) → Step net t w (Refused (Flow f))
  moves : {next : List Value} (state : List Value) → Can (HasValue net t) w
      → HasNo net.variables (Clashes (Effects (HasValue net t) w))
      → HasNo net.variables (LeavesDomain (Effects (HasValue net t) w))
      → Receives (Effects (HasValue net t) w) net.variables t state
      → Flows net state (Total next) → Step net t w (Next next)

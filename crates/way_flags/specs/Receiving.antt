-- What the variables receive from effects.
use Rattle.std.specs.Prelude.{◌≡◌, ℕ, ◌+◌, ◌<◌, ◌⊎◌, Bool, true, false, List, ◌++◌, ◌∷◌, [], Option, Some, None, length}
use Rattle.ar_base.specs.Lists.{Stands, IsOneOf}
use Rattle.ar_base.specs.Numbers.{VarId}
use Rattle.domains.specs.Domains.{Holds}
use Rattle.domains.specs.declared.Value.{Value}
use Rattle.gts_core.specs.declared.system.Variable.{Variable}
use Rattle.gts_core.specs.declared.system.GtsParts.{GtsParts}
use Rattle.flow_propagate.specs.NewValues.{IsRenewed}
use Rattle.way_flags.specs.Effects.{EffectGives}
use Rattle.way_flags.specs.declared.effects.Effect.{Effect}

-- two effects give one variable different values
pub record Clash (d e : Effect) : Type 0 where
  pub same : d.target.n ≡ e.target.n
  pub differ : d.value ≡ e.value → ⊥

-- where they are on one variable they give it the same value
abbrev pub GiveSameValues : Effect → Effect → Type 0
GiveSameValues d e = d.target.n ≡ e.target.n → d.value ≡ e.value

-- the test says which of the two
abbrev pub ClashOrAgree : Bool → Effect → Effect → Type 0
ClashOrAgree true d e = Clash d e
ClashOrAgree false d e = GiveSameValues d e

-- the variable receives two different values
pub record ReceivesTwo (effects : List Effect) (n : ℕ) : Type 0 where
  pub first : Value
  pub second : Value
  pub is_first : EffectGives effects n first
  pub is_second : EffectGives effects n second
  pub differ : first ≡ second → ⊥

-- all values that the variable receives are the same
abbrev pub ReceivesOne : List Effect → ℕ → Type 0
ReceivesOne effects n = (v w : Value) → EffectGives effects n v → EffectGives effects n w → v ≡ w

-- the least variable that receives two different values, or none does
abbrev pub IsLeastClash : List Effect → Option VarId → Type 0
IsLeastClash effects (Some x) = ReceivesTwo effects x.n × ((n : ℕ) → n < x.n → ReceivesOne effects n)
IsLeastClash effects None = (n : ℕ) → ReceivesOne effects n

-- the number stands for a state variable
pub record IsStateVariable (p : GtsParts) (n : ℕ) : Type 0 where
  pub variable : Variable
  pub stands : Stands p.variables.items n variable
  pub is_state : variable.is_state ≡ true

-- each variable that receives a value is a state variable
abbrev pub AreToState : GtsParts → List Effect → Type 0
AreToState p effects = (n : ℕ) (v : Value) → EffectGives effects n v → IsStateVariable p n

-- the variable receives a value outside its domain
pub record LeavesItsDomain (p : GtsParts) (effects : List Effect) (n : ℕ) : Type 0 where
  pub variable : Variable
  pub stands : Stands p.variables.items n variable
  pub value : Value
  pub gives : EffectGives effects n value
  pub outside : Holds variable.domain value → ⊥

-- all values that the variable receives are in its domain
abbrev pub KeepsDomain : GtsParts → List Effect → ℕ → Type 0
KeepsDomain p effects n = (x : Variable) (v : Value) → Stands p.variables.items n x → EffectGives effects n v → Holds x.domain v

-- the least variable that receives a value outside its domain, or none does
abbrev pub IsLeastLeaving : GtsParts → List Effect → Option VarId → Type 0
IsLeastLeaving p effects (Some x) = LeavesItsDomain p effects x.n × ((n : ℕ) → n < x.n → KeepsDomain p effects n)
IsLeastLeaving p effects None = (n : ℕ) → KeepsDomain p effects n

-- one of the effects for each variable that they are on, ascending
pub record AreOneEach (effects : List Effect) (new : List (VarId × Value)) : Type 0 where
  pub ascend : (j k : ℕ) (r q : VarId × Value) → j < k → Stands new j r → Stands new k q → r.0.n < q.0.n
  pub given : (r : VarId × Value) → IsOneOf new r → EffectGives effects r.0.n r.1
  pub all : (n : ℕ) (v : Value) → EffectGives effects n v → IsRenewed new n

-- the last pair is of the variable of this number
pub record IsLast (new : List (VarId × Value)) (n : ℕ) : Type 0 where
  pub pair : VarId × Value
  pub place : ℕ
  pub stands : Stands new place pair
  pub last : place + 1 ≡ length new
  pub number : pair.0.n ≡ n

-- it is, or it is not, as the test says
abbrev pub LastOrOther : Bool → List (VarId × Value) → ℕ → Type 0
LastOrOther true new n = IsLast new n
LastOrOther false new n = IsLast new n → ⊥

-- a pair for the effect is added, unless the last one is of its variable
abbrev pub AddsOne : Effect → List (VarId × Value) → List (VarId × Value) → Type 0
AddsOne e old new = (IsLast old e.target.n × (new ≡ old))
    ⊎ ((IsLast old e.target.n → ⊥) × (new ≡ old ++ (e.target, e.value) ∷ []))

-- The flows that a state determines, or the first fault.
use Rattle.std.specs.Prelude.{◌≡◌, ℕ, true, false, List, [], ◌∷◌, Contains}
use Rattle.ar_base.specs.Lists.{IsOneOf, IsFirst, HasNo}
use Rattle.domains.specs.declared.Value.{Value}
use Rattle.typed_expr.specs.Yields.{Yields}
use Rattle.typed_expr.specs.declared.expr.Expr.{out-Expr}
use Rattle.ar_meaning.specs.Systems.{Assign, Variable, Net}
use Rattle.ar_meaning.specs.Facts.{PassesConditions, HasValue, FactOf}

-- the flow has two different values
pub record HasTwo {V : Type 0} (net : Net V) (t : List Value) (x : Variable V) : Type 0 where
  pub is_flow : x.is_state ≡ false
  pub first : Value
  pub second : Value
  pub is_first : FactOf net t x.key first
  pub is_second : FactOf net t x.key second
  pub differ : first ≡ second → ⊥

-- an assignment to the flow that the facts reach yields a value outside the flow's domain
pub record IsOutside {V : Type 0} (net : Net V) (t : List Value) (x : Variable V) : Type 0 where
  pub is_flow : x.is_state ≡ false
  pub assign : Assign V
  pub value : Value
  pub is_one : IsOneOf net.assertions assign
  pub is_target : assign.target ≡ x.key
  pub passes : PassesConditions (FactOf net t) assign.conditions
  pub yields : Yields (FactOf net t) (out-Expr V assign.value) value
  pub outside : Contains x.domain value → ⊥

-- each variable's value, in order, from the old ones: a state variable keeps its own, a flow has its fact, or its reset
-- where it has none
pub data Completes {V : Type 0} (facts : V → Value → Type 0) : List
    (Variable V) → List Value → List Value → Type 0 where
  none : Completes facts [] [] []
  state : {x : Variable V} {xs : List (Variable V)} {v : Value} {vs ws : List Value} → x.is_state ≡ true
      → Completes facts xs vs ws → Completes facts (x ∷ xs) (v ∷ vs) (v ∷ ws)
  known : {x : Variable V} {xs : List (Variable V)} {v w : Value} {vs ws : List Value} → x.is_state ≡ false
      → facts x.key w
      → Completes facts xs vs ws → Completes facts (x ∷ xs) (v ∷ vs) (w ∷ ws)
  unknown : {x : Variable V} {xs : List (Variable V)} {v : Value} {vs ws : List Value} → x.is_state ≡ false
      → ((w : Value) → facts x.key w → ⊥)
      → Completes facts xs vs ws → Completes facts (x ∷ xs) (v ∷ vs) (x.value ∷ ws)

-- the total valuation reaches the assignment, and its value is not its target's
pub record IsBrokenAssign {V : Type 0} (net : Net V) (total : List Value) (a : Assign V) : Type 0 where
  pub passes : PassesConditions (HasValue net total) a.conditions
  pub value : Value
  pub yields : Yields (HasValue net total) (out-Expr V a.value) value
  pub differs : HasValue net total a.target value → ⊥

-- a flow with two values, a flow with a value outside its domain, an assignment that does not hold, each by number
pub data FlowFault : Type 0 where
  Two : (flow : ℕ) → FlowFault
  Outside : (flow : ℕ) → FlowFault
  Broken : (assertion : ℕ) → FlowFault

-- a fault, or the total valuation
pub data Outcome : Type 0 where
  Fails : FlowFault → Outcome
  Total : (values : List Value) → Outcome

-- what the state variables' values in t determine: the first of the four that applies
pub data Flows {V : Type 0} (net : Net V) (t : List Value) : Outcome → Type 0 where
  two : {n : ℕ} → IsFirst net.variables (HasTwo net t) n → Flows net t (Fails (Two n))
  outside : {n : ℕ} → HasNo net.variables (HasTwo net t) → IsFirst net.variables (IsOutside net t) n
      → Flows net t (Fails (Outside n))
  broken : {i : ℕ} (total : List Value) → HasNo net.variables (HasTwo net t) → HasNo net.variables (IsOutside net t)
      → Completes (FactOf net t) net.variables t total → IsFirst net.assertions (IsBrokenAssign net total) i
      → Flows net t (Fails (Broken i))
  all_hold : {total : List Value} → HasNo net.variables (HasTwo net t) → HasNo net.variables (IsOutside net t)
      → Completes (FactOf net t) net.variables t total → HasNo net.assertions (IsBrokenAssign net total)
      → Flows net t (Total total)

-- Four small systems, by what stands at each place of their expressions: a flow that follows a state, three flows in a
-- ring, a flow with two values, and a
-- synchronisation of two parts that need not take part.
use Rattle.std.specs.Prelude.{◌≡◌, ℕ, Bool, true, false, List, [], ◌∷◌, Box, Vec}
use Rattle.std.specs.Global.{Global}
use Rattle.domains.specs.declared.Value.{Value}
use Rattle.domains.specs.declared.Value.TheVariants.{Truth, Symbol}
use Rattle.typed_expr.specs.declared.expr.Relation.TheVariants.{Equal}
use Rattle.typed_expr.specs.declared.expr.Expr.{Expr, out-Expr}
use Rattle.typed_expr.specs.declared.expr.Expr.TheOpen as form
use Rattle.ar_meaning.specs.Systems.{Assign, Variable, Way, Leaf, Joint, Empty, Branch, Net}

-- the two truth values
abbrev pub truths : List Value
truths = Truth false ∷ Truth true ∷ []

-- a switch that is closed
abbrev pub closed : Value
closed = Symbol 0

-- a switch that is open
abbrev pub opened : Value
opened = Symbol 1

-- the positions of a switch
abbrev pub switches : List Value
switches = closed ∷ opened ∷ []

-- a state variable
abbrev pub state_of : ℕ → List Value → Value → Variable ℕ
state_of n values first = record { key = n; unit = 0; domain = values; is_state = true; value = first }

-- a flow
abbrev pub flow_of : ℕ → List Value → Value → Variable ℕ
flow_of n values reset = record { key = n; unit = 0; domain = values; is_state = false; value = reset }

-- an assignment without a condition
abbrev pub sets : ℕ → Expr ℕ → Assign ℕ
sets n e = record { target = n; conditions = []; value = e }

-- an assignment with one condition
abbrev pub sets_where : Expr ℕ → Bool → ℕ → Expr ℕ → Assign ℕ
sets_where test b n e = record { target = n; conditions = (test, b) ∷ []; value = e }

-- the expression is this constant
abbrev pub IsConstantValue : Expr ℕ → Value → Type 0
IsConstantValue e v = out-Expr ℕ e ≡ form.Constant v

-- the expression is this variable
abbrev pub IsPlainVariable : Expr ℕ → ℕ → Type 0
IsPlainVariable e n = out-Expr ℕ e ≡ form.Variable n

-- the expression is the opposite of a
pub record IsNegation (e a : Expr ℕ) : Type 0 where
  pub operand : Box (Expr ℕ) Global
  pub is : out-Expr ℕ e ≡ form.Not operand
  pub is_operand : operand.value ≡ a

-- the expression is a or b
pub record IsEither (e a b : Expr ℕ) : Type 0 where
  pub operands : Vec (Expr ℕ) Global
  pub is : out-Expr ℕ e ≡ form.Any operands
  pub are_operands : operands.items ≡ a ∷ b ∷ []

-- the expression compares a and b for equality
pub record IsEqual (e a b : Expr ℕ) : Type 0 where
  pub left : Box (Expr ℕ) Global
  pub right : Box (Expr ℕ) Global
  pub is : out-Expr ℕ e ≡ form.Compare Equal left right
  pub is_left : left.value ≡ a
  pub is_right : right.value ≡ b

-- the switch, variable 0, is closed
pub record IsSwitchClosed (e : Expr ℕ) : Type 0 where
  pub switch : Expr ℕ
  pub value : Expr ℕ
  pub is : IsEqual e switch value
  pub is_switch : IsPlainVariable switch 0
  pub is_value : IsConstantValue value closed

-- flow 1 follows state 0
abbrev pub follower : Expr ℕ → Net ℕ
follower state = record {
  variables = state_of 0 truths (Truth false) ∷ flow_of 1 truths (Truth false) ∷ [];
  assertions = sets 1 state ∷ [];
}

-- flow 1 is true where the switch is closed or flow 3 is true, flow 2 follows flow 1, and flow 3 follows flow 2
abbrev pub ring : Expr ℕ → Expr ℕ → Expr ℕ → Net ℕ
ring either second third = record {
  variables = state_of 0 switches closed ∷ flow_of 1 truths (Truth false) ∷ flow_of 2 truths (Truth false) ∷ flow_of 3
      truths (Truth false) ∷ [];
  assertions = sets 1 either ∷ sets 2 second ∷ sets 3 third ∷ [];
}

-- the expressions of the ring
pub record IsRing (either second third : Expr ℕ) : Type 0 where
  pub last : Expr ℕ
  pub test : Expr ℕ
  pub is_either : IsEither either last test
  pub is_last : IsPlainVariable last 3
  pub is_test : IsSwitchClosed test
  pub is_second : IsPlainVariable second 1
  pub is_third : IsPlainVariable third 2

-- where the switch is not closed flow 1 is true and also the opposite of flow 2, else it is false, and flow 2 follows
-- flow 1
abbrev pub quarrel : Expr ℕ → Expr ℕ → Expr ℕ → Expr ℕ → Expr ℕ → Net ℕ
quarrel test on opposite off first = record {
  variables = state_of 0 switches closed ∷ flow_of 1 truths (Truth false) ∷ flow_of 2 truths (Truth false) ∷ [];
  assertions =
      sets_where test false 1 on ∷ sets_where test false 1 opposite ∷ sets_where test true 1 off ∷ sets 2 first ∷ [];
}

-- the expressions of the quarrel
pub record IsQuarrel (test on opposite off first : Expr ℕ) : Type 0 where
  pub second : Expr ℕ
  pub is_test : IsSwitchClosed test
  pub is_on : IsConstantValue on (Truth true)
  pub is_opposite : IsNegation opposite second
  pub is_second : IsPlainVariable second 2
  pub is_off : IsConstantValue off (Truth false)
  pub is_first : IsPlainVariable first 1

-- two states
abbrev pub pair : Net ℕ
pair = record { variables = state_of 0 truths (Truth true) ∷ state_of 1 truths (Truth true) ∷ []; assertions = [] }

-- where its guard is true it sets the state to what the expression gives
abbrev pub turns : Expr ℕ → ℕ → Expr ℕ → Way ℕ
turns guard n e = Leaf (record { guard = guard; action = sets n e ∷ [] })

-- both ways at once, each with its mark
abbrev pub jointly : Bool → Way ℕ → Bool → Way ℕ → Way ℕ
jointly first v second w = Joint (Branch first v (Branch second w Empty))

-- each guard is one of the two states, and the value is false
pub record AreTurns (first second off : Expr ℕ) : Type 0 where
  pub is_first : IsPlainVariable first 0
  pub is_second : IsPlainVariable second 1
  pub is_off : IsConstantValue off (Truth false)

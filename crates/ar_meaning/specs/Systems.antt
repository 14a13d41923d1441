-- Systems: variables, assertions, events with their ways, and observers. V is what stands for a variable, as a path or
-- a number.
use Rattle.std.specs.Prelude.{ℕ, Bool, List}
use Rattle.domains.specs.declared.Value.{Value}
use Rattle.typed_expr.specs.declared.expr.Expr.{Expr}

-- an assignment: its target, its conditions from the outermost inward, each with the truth value that it must have, and
-- its expression
pub record Assign (V : Type 0) : Type 0 where
  pub target : V
  pub conditions : List (Expr V × Bool)
  pub value : Expr V

-- a variable: what stands for it, the number of its unit, the values of its domain (truth values and numbers ascending,
-- symbols as they are declared: who needs
-- these ascending sorts them), whether it is a state variable, and the value of its init or reset
pub record Variable (V : Type 0) : Type 0 where
  pub key : V
  pub unit : ℕ
  pub domain : List Value
  pub is_state : Bool
  pub value : Value

-- a transition: its guard, and the assignments of its action
pub record Transition (V : Type 0) : Type 0 where
  pub guard : Expr V
  pub action : List (Assign V)

-- a way: a leaf, or a joint of one way for each part of a synchronisation, each with its mark, which is true for ! and
-- false for ?
mutual
  pub data Tree (L : Type 0) : Type 0 where
    Leaf : L → Tree L
    Joint : Branches L → Tree L

  -- the ways of the parts, in order
  pub data Branches (L : Type 0) : Type 0 where
    Empty : Branches L
    Branch : (must : Bool) → Tree L → Branches L → Branches L

-- a way whose leaves are transitions
abbrev pub Way : Type 0 → Type 0
Way V = Tree (Transition V)

-- an event: the number of its unit, whether a hide clause names it, and its ways in order
pub record Event (V : Type 0) : Type 0 where
  pub unit : ℕ
  pub hidden : Bool
  pub ways : List (Way V)

-- what flows and steps read: the variables and the assertions' assignments, each by number
pub record Net (V : Type 0) : Type 0 where
  pub variables : List (Variable V)
  pub assertions : List (Assign V)

-- a system: its net, its events by number and its observers by number
pub record System (V : Type 0) : Type 0 where
  pub net : Net V
  pub events : List (Event V)
  pub observers : List (Expr V)

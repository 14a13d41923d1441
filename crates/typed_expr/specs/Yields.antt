-- What an expression yields from facts.
use Rattle.std.specs.Prelude.{Bool, true, false, not, List, [], ◌∷◌, Box, Vec}
use Rattle.std.specs.Global.{Global}
use Rattle.domains.specs.declared.Value.{Value}
use Rattle.domains.specs.declared.Value.TheVariants.{Truth, Whole}
use Rattle.typed_expr.specs.Values.{is_related, sum_of, product_of, least_of, greatest_of, count_of}
use Rattle.typed_expr.specs.declared.expr.Relation.{Relation}
use Rattle.typed_expr.specs.declared.expr.Expr.{Expr, out-Expr}
use Rattle.typed_expr.specs.declared.expr.Expr.TheOpen.{Expr-F, Constant, Variable, Not, All, Any, Compare, Sum, Product, Least, Greatest, Count, Choose}

-- an expression with its outermost form in view
abbrev pub Level : Type 0 → Type 0
Level V = Expr-F V (Expr V)

mutual
  -- a conjunction yields false where one operand does, and true where all do; a disjunction the other way round;
  -- a choice yields what the branches yield that its tests take; any other form yields its results over all choices
  -- of one yielded value for each operand
  pub data Yields {V : Type 0} (facts : V → Value → Type 0) : Level V → Value → Type 0 where
    constant : {v : Value} → Yields facts (Constant v) v
    variable : {x : V} {v : Value} → facts x v → Yields facts (Variable x) v
    opposite : {a : Box (Expr V) Global} {b : Bool} → Yields facts (out-Expr V a.value) (Truth b)
        → Yields facts (Not a) (Truth (not b))
    one_false : {es : Vec (Expr V) Global} → Some_yields facts es.items (Truth false)
        → Yields facts (All es) (Truth false)
    all_true : {es : Vec (Expr V) Global} → All_yield facts es.items (Truth true) → Yields facts (All es) (Truth true)
    one_true : {es : Vec (Expr V) Global} → Some_yields facts es.items (Truth true) → Yields facts (Any es) (Truth true)
    all_false : {es : Vec (Expr V) Global} → All_yield facts es.items (Truth false)
        → Yields facts (Any es) (Truth false)
    compared : {r : Relation} {a b : Box (Expr V) Global} {v w : Value} → Yields facts (out-Expr V a.value) v
        → Yields facts (out-Expr V b.value) w
        → Yields facts (Compare r a b) (Truth (is_related r v w))
    sum : {parts : Vec (Bool × Expr V) Global} {vs : List (Bool × Value)} → Picks_parts facts parts.items vs
        → Yields facts (Sum parts) (Whole (sum_of vs))
    product : {es : Vec (Expr V) Global} {vs : List Value} → Picks facts es.items vs
        → Yields facts (Product es) (Whole (product_of vs))
    least : {es : Vec (Expr V) Global} {vs : List Value} → Picks facts es.items vs
        → Yields facts (Least es) (Whole (least_of vs))
    greatest : {es : Vec (Expr V) Global} {vs : List Value} → Picks facts es.items vs
        → Yields facts (Greatest es) (Whole (greatest_of vs))
    count : {es : Vec (Expr V) Global} {vs : List Value} → Picks facts es.items vs
        → Yields facts (Count es) (Whole (count_of vs))
    choice : {cases : Vec (Expr V × Expr V) Global} {other : Box (Expr V) Global} {v : Value}
        → Takes facts cases.items (out-Expr V other.value) v
        → Yields facts (Choose cases other) v

  -- one of the operands yields the value
  pub data Some_yields {V : Type 0} (facts : V → Value → Type 0) : List (Expr V) → Value → Type 0 where
    here : {e : Expr V} {es : List (Expr V)} {v : Value} → Yields facts (out-Expr V e) v → Some_yields facts (e ∷ es) v
    later : {e : Expr V} {es : List (Expr V)} {v : Value} → Some_yields facts es v → Some_yields facts (e ∷ es) v

  -- all operands yield the value
  pub data All_yield {V : Type 0} (facts : V → Value → Type 0) : List (Expr V) → Value → Type 0 where
    none : {v : Value} → All_yield facts [] v
    one_and : {e : Expr V} {es : List (Expr V)} {v : Value} → Yields facts (out-Expr V e) v → All_yield facts es v
        → All_yield facts (e ∷ es) v

  -- one value that each operand yields
  pub data Picks {V : Type 0} (facts : V → Value → Type 0) : List (Expr V) → List Value → Type 0 where
    no_operand : Picks facts [] []
    operand : {e : Expr V} {es : List (Expr V)} {v : Value} {vs : List Value} → Yields facts (out-Expr V e) v
        → Picks facts es vs → Picks facts (e ∷ es) (v ∷ vs)

  -- the same for the parts of a sum, each with its sign
  pub data Picks_parts {V : Type 0} (facts : V → Value → Type 0) : List (Bool × Expr V) → List
      (Bool × Value) → Type 0 where
    no_part : Picks_parts facts [] []
    part : {plus : Bool} {e : Expr V} {ps : List (Bool × Expr V)} {v : Value} {vs : List (Bool × Value)}
        → Yields facts (out-Expr V e) v → Picks_parts facts ps vs
        → Picks_parts facts ((plus, e) ∷ ps) ((plus, v) ∷ vs)

  -- a case yields its value where its test yields true, and leaves the rest where its test yields false
  pub data Takes {V : Type 0} (facts : V → Value → Type 0) : List (Expr V × Expr V) → Level V → Value → Type 0 where
    otherwise : {other : Level V} {v : Value} → Yields facts other v → Takes facts [] other v
    taken : {test value : Expr V} {cases : List (Expr V × Expr V)} {other : Level V} {v : Value}
        → Yields facts (out-Expr V test) (Truth true)
        → Yields facts (out-Expr V value) v → Takes facts ((test, value) ∷ cases) other v
    passed : {test value : Expr V} {cases : List (Expr V × Expr V)} {other : Level V} {v : Value}
        → Yields facts (out-Expr V test) (Truth false)
        → Takes facts cases other v → Takes facts ((test, value) ∷ cases) other v

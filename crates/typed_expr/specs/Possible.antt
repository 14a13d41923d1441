-- Expressions with too many possible values.
use Rattle.std.specs.Prelude.{◌≡◌, ℕ, Bool, List, Contains, take, Box, Vec}
use Rattle.std.specs.Global.{Global}
use Rattle.domains.specs.declared.Value.{Value}
use Rattle.domains.specs.declared.Value.TheVariants.{Whole}
use Rattle.typed_expr.specs.Sizes.{HasMoreThan}
use Rattle.typed_expr.specs.Values.{sum_of, product_of, least_of, greatest_of, count_of}
use Rattle.typed_expr.specs.Yields.{Level, Yields, Picks, Picks_parts}
use Rattle.typed_expr.specs.declared.expr.Relation.{Relation}
use Rattle.typed_expr.specs.declared.expr.Expr.{Expr, out-Expr}
use Rattle.typed_expr.specs.declared.expr.Expr.TheOpen.{Constant, Variable, Not, All, Any, Compare, Sum, Product, Least, Greatest, Count, Choose}

-- p is a subexpression, or the expression itself
pub data IsSubexpression {V : Type 0} (p : Level V) : Level V → Type 0 where
  itself : IsSubexpression p p
  in_not : {a : Box (Expr V) Global} → IsSubexpression p (out-Expr V a.value) → IsSubexpression p (Not a)
  in_all : {es : Vec (Expr V) Global} {e : Expr V} → Contains es.items e → IsSubexpression p (out-Expr V e)
      → IsSubexpression p (All es)
  in_any : {es : Vec (Expr V) Global} {e : Expr V} → Contains es.items e → IsSubexpression p (out-Expr V e)
      → IsSubexpression p (Any es)
  in_left : {r : Relation} {a b : Box (Expr V) Global} → IsSubexpression p (out-Expr V a.value)
      → IsSubexpression p (Compare r a b)
  in_right : {r : Relation} {a b : Box (Expr V) Global} → IsSubexpression p (out-Expr V b.value)
      → IsSubexpression p (Compare r a b)
  in_sum : {ps : Vec (Bool × Expr V) Global} {plus : Bool} {e : Expr V} → Contains ps.items (plus, e)
      → IsSubexpression p (out-Expr V e) → IsSubexpression p (Sum ps)
  in_product : {es : Vec (Expr V) Global} {e : Expr V} → Contains es.items e → IsSubexpression p (out-Expr V e)
      → IsSubexpression p (Product es)
  in_least : {es : Vec (Expr V) Global} {e : Expr V} → Contains es.items e → IsSubexpression p (out-Expr V e)
      → IsSubexpression p (Least es)
  in_greatest : {es : Vec (Expr V) Global} {e : Expr V} → Contains es.items e → IsSubexpression p (out-Expr V e)
      → IsSubexpression p (Greatest es)
  in_count : {es : Vec (Expr V) Global} {e : Expr V} → Contains es.items e → IsSubexpression p (out-Expr V e)
      → IsSubexpression p (Count es)
  in_test : {cs : Vec (Expr V × Expr V) Global} {other : Box (Expr V) Global} {test value : Expr V}
      → Contains cs.items (test, value) → IsSubexpression p (out-Expr V test)
      → IsSubexpression p (Choose cs other)
  in_value : {cs : Vec (Expr V × Expr V) Global} {other : Box (Expr V) Global} {test value : Expr V}
      → Contains cs.items (test, value) → IsSubexpression p (out-Expr V value)
      → IsSubexpression p (Choose cs other)
  in_other : {cs : Vec (Expr V × Expr V) Global} {other : Box (Expr V) Global} → IsSubexpression p (out-Expr V
      other.value) → IsSubexpression p (Choose cs other)

-- v is what the form's fold may have come to after its first k operands
abbrev pub StepYields : {V : Type 0} → (V → Value → Type 0) → Level V → ℕ → Value → Type 0
StepYields facts (Constant w) k v = ⊥
StepYields facts (Variable x) k v = ⊥
StepYields facts (Not a) k v = ⊥
StepYields facts (All es) k v = ⊥
StepYields facts (Any es) k v = ⊥
StepYields facts (Compare r a b) k v = ⊥
StepYields facts (Sum ps) k v =
    (vs : List (Bool × Value)) × Picks_parts facts (take k ps.items) vs × (v ≡ Whole (sum_of vs))
StepYields facts (Product es) k v = (vs : List Value) × Picks facts (take k es.items) vs × (v ≡ Whole (product_of vs))
StepYields facts (Least es) k v = (vs : List Value) × Picks facts (take k es.items) vs × (v ≡ Whole (least_of vs))
StepYields facts (Greatest es) k v = (vs : List Value) × Picks facts (take k es.items) vs × (v ≡ Whole (greatest_of vs))
StepYields facts (Count es) k v = (vs : List Value) × Picks facts (take k es.items) vs × (v ≡ Whole (count_of vs))
StepYields facts (Choose cs other) k v = ⊥

-- a subexpression, or a step of a fold in it, has more than so many values
pub data IsWide {V : Type 0} (facts : V → Value → Type 0) (most : ℕ) (e : Level V) : Type 0 where
  subexpression : {p : Level V} → IsSubexpression p e → HasMoreThan most (Yields facts p) → IsWide facts most e
  step : {p : Level V} (k : ℕ) → IsSubexpression p e → HasMoreThan most (StepYields facts p k) → IsWide facts most e

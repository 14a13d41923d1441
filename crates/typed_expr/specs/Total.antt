-- The value of an expression where each variable has one value.
use Rattle.std.specs.Prelude.{Bool, true, false, not, if◌then◌else◌, List, [], ◌∷◌}
use Rattle.domains.specs.declared.Value.{Value}
use Rattle.domains.specs.declared.Value.TheVariants.{Truth, Whole}
use Rattle.domains.specs.Values.{truth_of}
use Rattle.typed_expr.specs.Values.{is_related, sum_of, product_of, least_of, greatest_of, count_of}
use Rattle.typed_expr.specs.declared.expr.Expr.{Expr}
use Rattle.typed_expr.specs.declared.expr.Expr.TheOpen.{Expr-F, Constant, Variable, Not, All, Any, Compare, Sum, Product, Least, Greatest, Count, Choose}
use Rattle.typed_expr.specs.declared.expr.Expr.TheFolds.{fold-Expr}

-- each of them is true
abbrev pub all_true : List Value → Bool
all_true [] = true
all_true (v ∷ vs) = if truth_of v then all_true vs else false

-- one of them is true
abbrev pub one_true : List Value → Bool
one_true [] = false
one_true (v ∷ vs) = if truth_of v then true else one_true vs

-- the value of the first case whose test is true, or else this one
abbrev pub first_true : List (Value × Value) → Value → Value
first_true [] other = other
first_true (c ∷ cs) other = if truth_of c.0 then c.1 else first_true cs other

-- the value of one form, with the values of its operands in their places
abbrev pub value_step : {V : Type 0} → (V → Value) → Expr-F V Value → Value
value_step t (Constant v) = v
value_step t (Variable x) = t x
value_step t (Not a) = Truth (not (truth_of a.value))
value_step t (All es) = Truth (all_true es.items)
value_step t (Any es) = Truth (one_true es.items)
value_step t (Compare r a b) = Truth (is_related r a.value b.value)
value_step t (Sum parts) = Whole (sum_of parts.items)
value_step t (Product es) = Whole (product_of es.items)
value_step t (Least es) = Whole (least_of es.items)
value_step t (Greatest es) = Whole (greatest_of es.items)
value_step t (Count es) = Whole (count_of es.items)
value_step t (Choose cases other) = first_true cases.items other.value

-- the value of an expression, where t gives each variable's value
abbrev pub value_of : {V : Type 0} → (V → Value) → Expr V → Value
value_of {V} t = fold-Expr V Value (value_step t)

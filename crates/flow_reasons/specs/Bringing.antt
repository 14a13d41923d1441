-- Which assignments bring a new fact from what is known.
use Rattle.std.specs.Prelude.{◌↔◌, ℕ, List}
use Rattle.ar_base.specs.Lists.{Stands, IsOneOf}
use Rattle.ar_base.specs.Sets.{Ascends}
use Rattle.domains.specs.declared.Value.{Value}
use Rattle.typed_expr.specs.Yields.{Yields}
use Rattle.typed_expr.specs.declared.expr.Expr.{out-Expr}
use Rattle.ar_meaning.specs.DependenceInside.{IsReadBy}
use Rattle.ar_meaning.specs.Facts.{PassesConditions}
use Rattle.gts_core.specs.View.{net_of, assign_of}
use Rattle.gts_core.specs.declared.system.Assign.{Assign}
use Rattle.gts_core.specs.declared.system.GtsParts.{GtsParts}
use Rattle.flow_reasons.specs.declared.fact_marks.Mark.{Mark}
use Rattle.flow_reasons.specs.FactMarks.{HasNoFact}
use Rattle.flow_reasons.specs.Marks.{Known}

-- the assignment is reached from what is known and yields the value of its target, which has no fact yet
pub record Brings (values : List Value) (marks : List Mark) (a : Assign) : Type 0 where
  pub is_open : HasNoFact marks a.target.n
  pub value : Value
  pub is_value : Stands values a.target.n value
  pub passes : PassesConditions (Known values marks) (assign_of a).conditions
  pub yields : Yields (Known values marks) (out-Expr ℕ (assign_of a).value) value

-- the same of the assignment of this number
pub record BringsAt (p : GtsParts) (values : List Value) (marks : List Mark) (n : ℕ) : Type 0 where
  pub assign : Assign
  pub stands : Stands p.assigns.items n assign
  pub brings : Brings values marks assign

-- of these assignments those that bring something
pub record AreBringing (p : GtsParts) (values : List Value) (marks : List Mark) (among found : List ℕ) : Type 0 where
  pub ascends : Ascends found
  pub each : (n : ℕ) → (IsOneOf found n ↔ (IsOneOf among n × BringsAt p values marks n))

-- all assignments that bring something
pub record BringAll (p : GtsParts) (values : List Value) (marks : List Mark) (found : List ℕ) : Type 0 where
  pub ascends : Ascends found
  pub each : (n : ℕ) → (IsOneOf found n ↔ BringsAt p values marks n)

-- the assignments that bring something name one of these variables
pub record NameOne (p : GtsParts) (fresh : List ℕ) (n : ℕ) : Type 0 where
  pub variable : ℕ
  pub is_one : IsOneOf fresh variable
  pub reads : IsReadBy (net_of p) variable n

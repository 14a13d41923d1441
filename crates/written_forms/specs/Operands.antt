-- The operands of written expressions, each with the kind that is wanted of it, and the paths in an expression.
use Rattle.std.specs.Prelude.{◌<◌, Bool, true, false, List, [], ◌∷◌, ◌++◌, map, length}
use Rattle.ar_base.specs.Lists.{IsOneOf}
use Rattle.ar_syntax.specs.declared.expressions.RawExpr.{RawExpr}
use Rattle.ar_syntax.specs.declared.expressions.RawForm.{RawForm, out-RawForm}
use Rattle.ar_syntax.specs.declared.expressions.RawForm.TheOpen.{RawForm-F}
use Rattle.ar_syntax.specs.declared.expressions.RawForm.TheOpen as raw
use Rattle.ar_syntax.specs.declared.expressions.RawRelation.{RawRelation}
use Rattle.ar_syntax.specs.declared.expressions.RawRelation.TheVariants.{Equal, Differs, Less, AtMost, More, AtLeast}
use Rattle.ar_syntax.specs.declared.paths.Path.{Path}
use Rattle.typed_expr.specs.declared.expr.ValueKind.{ValueKind}
use Rattle.typed_expr.specs.declared.expr.ValueKind.TheVariants.{Truth, Whole}

-- a written expression with its outermost form in view
abbrev pub RawLevel : Type 0
RawLevel = RawForm-F RawForm RawExpr

-- the outermost form of an expression
abbrev pub level_of : RawExpr → RawLevel
level_of e = out-RawForm e.form

-- the kind that is wanted of an expression
pub data Demand : Type 0 where
  -- any kind
  AnyKind : Demand
  -- this kind
  OfKind : ValueKind → Demand
  -- the kind of this other expression
  Like : RawExpr → Demand

-- an operand with the kind that is wanted of it
pub record OperandOfKind : Type 0 where
  pub demand : Demand
  pub written : RawExpr

-- this is wanted of the expression
abbrev pub wanting : Demand → RawExpr → OperandOfKind
wanting d e = record { demand = d; written = e }

-- the same is wanted of each
abbrev pub each_wanting : Demand → List RawExpr → List OperandOfKind
each_wanting d es = map (wanting d) es

-- the terms of a sum are whole numbers
abbrev pub terms : List (Bool × RawExpr) → List OperandOfKind
terms parts = map (λ (p : Bool × RawExpr). wanting (OfKind Whole) p.1) parts

-- the tests of a choice are truth values
abbrev pub tests : List (RawExpr × RawExpr) → List OperandOfKind
tests cases = map (λ (c : RawExpr × RawExpr). wanting (OfKind Truth) c.0) cases

-- the values of its cases have the kind of this one
abbrev pub branches : RawExpr → List (RawExpr × RawExpr) → List OperandOfKind
branches first cases = map (λ (c : RawExpr × RawExpr). wanting (Like first) c.1) cases

-- the first branch of a choice: the value of its first case
abbrev pub first_branch : List (RawExpr × RawExpr) → RawExpr → RawExpr
first_branch [] other = other
first_branch (c ∷ cases) other = c.1

-- the relation tests for equality, and not for an order
abbrev pub is_equality : RawRelation → Bool
is_equality Equal = true
is_equality Differs = true
is_equality Less = false
is_equality AtMost = false
is_equality More = false
is_equality AtLeast = false

-- the operands of a comparison: of one kind where it tests for equality, and whole numbers where it compares by order
abbrev pub sides_by : Bool → RawExpr → RawExpr → List OperandOfKind
sides_by true a b = wanting AnyKind a ∷ wanting (Like a) b ∷ []
sides_by false a b = wanting (OfKind Whole) a ∷ wanting (OfKind Whole) b ∷ []

abbrev pub sides : RawRelation → RawExpr → RawExpr → List OperandOfKind
sides r a b = sides_by (is_equality r) a b

-- the operands of a choice: its tests, and its branches, which have the kind of the first one
abbrev pub choice_operands : List (RawExpr × RawExpr) → RawExpr → List OperandOfKind
choice_operands cases other =
    tests cases ++ branches (first_branch cases other) cases ++ wanting (Like (first_branch cases other)) other ∷ []

-- the operands of a form
abbrev pub operands_of : RawLevel → List OperandOfKind
operands_of (raw.Truth b) = []
operands_of (raw.Whole n) = []
operands_of raw.Real = []
operands_of (raw.Path p) = []
operands_of (raw.Not a) = wanting (OfKind Truth) a.value ∷ []
operands_of (raw.Minus a) = wanting (OfKind Whole) a.value ∷ []
operands_of (raw.All es) = each_wanting (OfKind Truth) es.items
operands_of (raw.Any es) = each_wanting (OfKind Truth) es.items
operands_of (raw.Compare r a b) = sides r a.value b.value
operands_of (raw.Sum parts) = terms parts.items
operands_of (raw.Product es) = each_wanting (OfKind Whole) es.items
operands_of (raw.Least es) = each_wanting (OfKind Whole) es.items
operands_of (raw.Greatest es) = each_wanting (OfKind Whole) es.items
operands_of (raw.Count es) = each_wanting (OfKind Truth) es.items
operands_of (raw.Choose cases other) = choice_operands cases.items other.value

-- the form's own list of operands, where it has one, is not empty
abbrev pub HasOperands : RawLevel → Type 0
HasOperands (raw.Truth b) = Unit {0}
HasOperands (raw.Whole n) = Unit {0}
HasOperands raw.Real = Unit {0}
HasOperands (raw.Path p) = Unit {0}
HasOperands (raw.Not a) = Unit {0}
HasOperands (raw.Minus a) = Unit {0}
HasOperands (raw.All es) = 0 < length es.items
HasOperands (raw.Any es) = 0 < length es.items
HasOperands (raw.Compare r a b) = Unit {0}
HasOperands (raw.Sum parts) = 0 < length parts.items
HasOperands (raw.Product es) = 0 < length es.items
HasOperands (raw.Least es) = 0 < length es.items
HasOperands (raw.Greatest es) = 0 < length es.items
HasOperands (raw.Count es) = 0 < length es.items
HasOperands (raw.Choose cases other) = 0 < length cases.items

-- the path stands in the expression
pub data PathIn (p : Path) : RawLevel → Type 0 where
  itself : PathIn p (raw.Path p)
  inside : {l : RawLevel} (o : OperandOfKind) → IsOneOf (operands_of l) o → PathIn p (level_of o.written) → PathIn p l

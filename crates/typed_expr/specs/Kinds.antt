-- The kinds of expressions.
use Rattle.std.specs.Prelude.{◌<◌, Bool, List, [], ◌∷◌, length, Box, Vec}
use Rattle.std.specs.Global.{Global}
use Rattle.domains.specs.declared.Value.{Value}
use Rattle.domains.specs.declared.Value.TheVariants as value
use Rattle.typed_expr.specs.Yields.{Level}
use Rattle.typed_expr.specs.declared.expr.Relation.{Relation}
use Rattle.typed_expr.specs.declared.expr.Relation.TheVariants.{Equal, Differs, Less, AtMost, More, AtLeast}
use Rattle.typed_expr.specs.declared.expr.ValueKind.{ValueKind}
use Rattle.typed_expr.specs.declared.expr.ValueKind.TheVariants.{Truth, Whole, Symbol}
use Rattle.typed_expr.specs.declared.expr.Expr.{Expr, out-Expr}
use Rattle.typed_expr.specs.declared.expr.Expr.TheOpen.{Constant, Variable, Not, All, Any, Compare, Sum, Product, Least, Greatest, Count, Choose}

-- the kind of a value
abbrev pub kind_of : Value → ValueKind
kind_of (value.Truth b) = Truth
kind_of (value.Whole n) = Whole
kind_of (value.Symbol s) = Symbol

-- equality compares values of any one kind, the other relations whole numbers
pub data Compares : Relation → ValueKind → Type 0 where
  equal : {k : ValueKind} → Compares Equal k
  differs : {k : ValueKind} → Compares Differs k
  less : Compares Less Whole
  at_most : Compares AtMost Whole
  more : Compares More Whole
  at_least : Compares AtLeast Whole

mutual
  -- the expression is well typed and has the kind, where the variables have these kinds
  pub data HasKind {V : Type 0} (kinds : V → ValueKind) : Level V → ValueKind → Type 0 where
    constant : {v : Value} → HasKind kinds (Constant v) (kind_of v)
    variable : {x : V} → HasKind kinds (Variable x) (kinds x)
    opposite : {a : Box (Expr V) Global} → HasKind kinds (out-Expr V a.value) Truth → HasKind kinds (Not a) Truth
    all : {es : Vec (Expr V) Global} → 0 < length es.items → Each kinds es.items Truth → HasKind kinds (All es) Truth
    any : {es : Vec (Expr V) Global} → 0 < length es.items → Each kinds es.items Truth → HasKind kinds (Any es) Truth
    compared : {r : Relation} {a b : Box (Expr V) Global} {k : ValueKind} → Compares r k
        → HasKind kinds (out-Expr V a.value) k → HasKind kinds (out-Expr V b.value) k
        → HasKind kinds (Compare r a b) Truth
    sum : {ps : Vec (Bool × Expr V) Global} → 0 < length ps.items → Each_part kinds ps.items
        → HasKind kinds (Sum ps) Whole
    product : {es : Vec (Expr V) Global} → 0 < length es.items → Each kinds es.items Whole
        → HasKind kinds (Product es) Whole
    least : {es : Vec (Expr V) Global} → 0 < length es.items → Each kinds es.items Whole
        → HasKind kinds (Least es) Whole
    greatest : {es : Vec (Expr V) Global} → 0 < length es.items → Each kinds es.items Whole
        → HasKind kinds (Greatest es) Whole
    count : {es : Vec (Expr V) Global} → 0 < length es.items → Each kinds es.items Truth
        → HasKind kinds (Count es) Whole
    choice : {cs : Vec (Expr V × Expr V) Global} {other : Box (Expr V) Global} {k : ValueKind} → 0 < length cs.items
        → Each_case kinds cs.items k
        → HasKind kinds (out-Expr V other.value) k → HasKind kinds (Choose cs other) k

  -- each operand has the kind
  pub data Each {V : Type 0} (kinds : V → ValueKind) : List (Expr V) → ValueKind → Type 0 where
    none : {k : ValueKind} → Each kinds [] k
    one_and : {e : Expr V} {es : List (Expr V)} {k : ValueKind} → HasKind kinds (out-Expr V e) k → Each kinds es k
        → Each kinds (e ∷ es) k

  -- each part is a whole number
  pub data Each_part {V : Type 0} (kinds : V → ValueKind) : List (Bool × Expr V) → Type 0 where
    no_part : Each_part kinds []
    part_and : {plus : Bool} {e : Expr V} {ps : List (Bool × Expr V)} → HasKind kinds (out-Expr V e) Whole
        → Each_part kinds ps → Each_part kinds ((plus, e) ∷ ps)

  -- each test is a truth value, and each value has the kind
  pub data Each_case {V : Type 0} (kinds : V → ValueKind) : List (Expr V × Expr V) → ValueKind → Type 0 where
    no_case : {k : ValueKind} → Each_case kinds [] k
    case_and : {test value : Expr V} {cs : List (Expr V × Expr V)} {k : ValueKind}
        → HasKind kinds (out-Expr V test) Truth → HasKind kinds (out-Expr V value) k
        → Each_case kinds cs k → Each_case kinds ((test, value) ∷ cs) k

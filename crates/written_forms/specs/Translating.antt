-- The expression by numbers that a written expression becomes.
use Rattle.std.specs.Prelude.{◌≡◌, ℤ, Bool, false, List, [], ◌∷◌, pos, Box, Vec}
use Rattle.std.specs.Global.{Global}
use Rattle.ar_base.specs.Numbers.{VarId}
use Rattle.ar_syntax.specs.declared.expressions.RawExpr.{RawExpr}
use Rattle.ar_syntax.specs.declared.expressions.RawForm.TheOpen as raw
use Rattle.ar_syntax.specs.declared.expressions.RawRelation.{RawRelation}
use Rattle.ar_syntax.specs.declared.paths.Path.{Path}
use Rattle.domains.specs.declared.Value.TheVariants.{Truth, Whole}
use Rattle.typed_expr.specs.Yields.{Level}
use Rattle.typed_expr.specs.declared.expr.Relation.{Relation}
use Rattle.typed_expr.specs.declared.expr.Expr.{Expr, out-Expr}
use Rattle.typed_expr.specs.declared.expr.Expr.TheOpen.{Constant, Variable, Not, All, Any, Compare, Sum, Product, Least, Greatest, Count, Choose}
use Rattle.written_forms.specs.Operands.{RawLevel, level_of}
use Rattle.written_forms.specs.declared.naming.Leaf.{Leaf}
use Rattle.written_forms.specs.declared.naming.Leaf.TheVariants as leaf
use Rattle.written_forms.specs.Relations.{relation_of}

mutual
  -- the expression becomes this one, form by form, where its paths become these; `- A` is the sum of A alone, taken
  -- away, and a real, which has no value, is 0
  pub data Becomes {V : Type 0} (names : Path → Level V → Type 0) : RawLevel → Level V → Type 0 where
    truth : {b : Bool} → Becomes names (raw.Truth b) (Constant (Truth b))
    whole : {n : ℤ} → Becomes names (raw.Whole n) (Constant (Whole n))
    real : Becomes names raw.Real (Constant (Whole (pos 0)))
    path : {p : Path} {l : Level V} → names p l → Becomes names (raw.Path p) l
    opposite : {a : Box RawExpr Global} {b : Box (Expr V) Global}
        → Becomes names (level_of a.value) (out-Expr V b.value) → Becomes names (raw.Not a) (Not b)
    negative : {a : Box RawExpr Global} {parts : Vec (Bool × Expr V) Global} (e : Expr V)
        → Becomes names (level_of a.value) (out-Expr V e)
        → parts.items ≡ (false, e) ∷ [] → Becomes names (raw.Minus a) (Sum parts)
    all : {rs : Vec RawExpr Global} {es : Vec (Expr V) Global} → All_become names rs.items es.items
        → Becomes names (raw.All rs) (All es)
    any : {rs : Vec RawExpr Global} {es : Vec (Expr V) Global} → All_become names rs.items es.items
        → Becomes names (raw.Any rs) (Any es)
    compared : {r : RawRelation} {a b : Box RawExpr Global} {d e : Box (Expr V) Global}
        → Becomes names (level_of a.value) (out-Expr V d.value)
        → Becomes names (level_of b.value) (out-Expr V e.value)
        → Becomes names (raw.Compare r a b) (Compare (relation_of r) d e)
    sum : {rs : Vec (Bool × RawExpr) Global} {es : Vec (Bool × Expr V) Global} → Parts_become names rs.items es.items
        → Becomes names (raw.Sum rs) (Sum es)
    product : {rs : Vec RawExpr Global} {es : Vec (Expr V) Global} → All_become names rs.items es.items
        → Becomes names (raw.Product rs) (Product es)
    least : {rs : Vec RawExpr Global} {es : Vec (Expr V) Global} → All_become names rs.items es.items
        → Becomes names (raw.Least rs) (Least es)
    greatest : {rs : Vec RawExpr Global} {es : Vec (Expr V) Global} → All_become names rs.items es.items
        → Becomes names (raw.Greatest rs) (Greatest es)
    count : {rs : Vec RawExpr Global} {es : Vec (Expr V) Global} → All_become names rs.items es.items
        → Becomes names (raw.Count rs) (Count es)
    choice : {rs : Vec (RawExpr × RawExpr) Global} {es : Vec (Expr V × Expr V) Global} {a : Box RawExpr Global}
        {b : Box (Expr V) Global}
        → Cases_become names rs.items es.items → Becomes names (level_of a.value) (out-Expr V b.value)
        → Becomes names (raw.Choose rs a) (Choose es b)

  -- the same of operands
  pub data All_become {V : Type 0} (names : Path → Level V → Type 0) : List RawExpr → List (Expr V) → Type 0 where
    none : All_become names [] []
    one_and : {r : RawExpr} {rs : List RawExpr} {e : Expr V} {es : List (Expr V)}
        → Becomes names (level_of r) (out-Expr V e) → All_become names rs es
        → All_become names (r ∷ rs) (e ∷ es)

  -- the same of the parts of a sum
  pub data Parts_become {V : Type 0} (names : Path → Level V → Type 0) : List (Bool × RawExpr) → List (Bool × Expr V)
      → Type 0 where
    no_part : Parts_become names [] []
    part : {plus : Bool} {r : RawExpr} {rs : List (Bool × RawExpr)} {e : Expr V} {es : List (Bool × Expr V)}
        → Becomes names (level_of r) (out-Expr V e)
        → Parts_become names rs es → Parts_become names ((plus, r) ∷ rs) ((plus, e) ∷ es)

  -- the same of the cases of a choice
  pub data Cases_become {V : Type 0} (names : Path → Level V → Type 0) : List (RawExpr × RawExpr)
      → List (Expr V × Expr V) → Type 0 where
    no_case : Cases_become names [] []
    case_and : {q r : RawExpr} {rs : List (RawExpr × RawExpr)} {d e : Expr V} {es : List (Expr V × Expr V)}
        → Becomes names (level_of q) (out-Expr V d)
        → Becomes names (level_of r) (out-Expr V e) → Cases_become names rs es
        → Cases_become names ((q, r) ∷ rs) ((d, e) ∷ es)

-- Forms over what operands become

-- the expression is the negation of this one
pub record IsOpposite (a e : Expr VarId) : Type 0 where
  pub operand : Box (Expr VarId) Global
  pub is : out-Expr VarId e ≡ Not operand
  pub is_operand : operand.value ≡ a

-- the expression is the sum of this one alone, taken away
pub record IsNegative (a e : Expr VarId) : Type 0 where
  pub parts : Vec (Bool × Expr VarId) Global
  pub is : out-Expr VarId e ≡ Sum parts
  pub are : parts.items ≡ (false, a) ∷ []

-- the expression is the comparison of these two
pub record IsComparisonOf (q : Relation) (a b e : Expr VarId) : Type 0 where
  pub left : Box (Expr VarId) Global
  pub right : Box (Expr VarId) Global
  pub is : out-Expr VarId e ≡ Compare q left right
  pub is_left : left.value ≡ a
  pub is_right : right.value ≡ b

-- the expression is the choice of these cases, with this one where no test holds
pub record IsCaseChoice (cases : Vec (Expr VarId × Expr VarId) Global) (a e : Expr VarId) : Type 0 where
  pub other : Box (Expr VarId) Global
  pub is : out-Expr VarId e ≡ Choose cases other
  pub is_other : other.value ≡ a

-- Leaves

-- the form of what a path stands for
abbrev pub leaf_level : Leaf → Level VarId
leaf_level (leaf.Variable x) = Variable x
leaf_level (leaf.Constant v) = Constant v

-- paths become what stands for them
abbrev pub StandsFor : (Path → Leaf) → Path → Level VarId → Type 0
StandsFor leaves p l = leaf_level (leaves p) ≡ l

-- the expression becomes this one, where its paths stand for these variables and values
abbrev pub BecomesBy : (Path → Leaf) → RawExpr → Expr VarId → Type 0
BecomesBy leaves r e = Becomes (StandsFor leaves) (level_of r) (out-Expr VarId e)

-- the same of operands, of parts of a sum, and of cases of a choice
abbrev pub All_become_by : (Path → Leaf) → List RawExpr → List (Expr VarId) → Type 0
All_become_by leaves = All_become (StandsFor leaves)

abbrev pub Parts_become_by : (Path → Leaf) → List (Bool × RawExpr) → List (Bool × Expr VarId) → Type 0
Parts_become_by leaves = Parts_become (StandsFor leaves)

abbrev pub Cases_become_by : (Path → Leaf) → List (RawExpr × RawExpr) → List (Expr VarId × Expr VarId) → Type 0
Cases_become_by leaves = Cases_become (StandsFor leaves)

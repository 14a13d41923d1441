-- Two expressions that differ in their variables alone.
use Rattle.std.specs.Prelude.{Bool, List, [], ◌∷◌, Box, Vec}
use Rattle.std.specs.Global.{Global}
use Rattle.domains.specs.declared.Value.{Value}
use Rattle.typed_expr.specs.Yields.{Level}
use Rattle.typed_expr.specs.declared.expr.Relation.{Relation}
use Rattle.typed_expr.specs.declared.expr.Expr.{Expr, out-Expr}
use Rattle.typed_expr.specs.declared.expr.Expr.TheOpen.{Constant, Variable, Not, All, Any, Compare, Sum, Product, Least, Greatest, Count, Choose}

mutual
  -- the expressions have one shape, and variables at one place are related
  pub data Renames {V W : Type 0} (same : V → W → Type 0) : Level V → Level W → Type 0 where
    constant : {v : Value} → Renames same (Constant v) (Constant v)
    variable : {x : V} {y : W} → same x y → Renames same (Variable x) (Variable y)
    opposite : {a : Box (Expr V) Global} {b : Box (Expr W) Global}
        → Renames same (out-Expr V a.value) (out-Expr W b.value) → Renames same (Not a) (Not b)
    all : {es : Vec (Expr V) Global} {fs : Vec (Expr W) Global} → All_rename same es.items fs.items
        → Renames same (All es) (All fs)
    any : {es : Vec (Expr V) Global} {fs : Vec (Expr W) Global} → All_rename same es.items fs.items
        → Renames same (Any es) (Any fs)
    compared : {r : Relation} {a b : Box (Expr V) Global} {c d : Box (Expr W) Global}
        → Renames same (out-Expr V a.value) (out-Expr W c.value)
        → Renames same (out-Expr V b.value) (out-Expr W d.value) → Renames same (Compare r a b) (Compare r c d)
    sum : {ps : Vec (Bool × Expr V) Global} {qs : Vec (Bool × Expr W) Global} → Parts_rename same ps.items qs.items
        → Renames same (Sum ps) (Sum qs)
    product : {es : Vec (Expr V) Global} {fs : Vec (Expr W) Global} → All_rename same es.items fs.items
        → Renames same (Product es) (Product fs)
    least : {es : Vec (Expr V) Global} {fs : Vec (Expr W) Global} → All_rename same es.items fs.items
        → Renames same (Least es) (Least fs)
    greatest : {es : Vec (Expr V) Global} {fs : Vec (Expr W) Global} → All_rename same es.items fs.items
        → Renames same (Greatest es) (Greatest fs)
    count : {es : Vec (Expr V) Global} {fs : Vec (Expr W) Global} → All_rename same es.items fs.items
        → Renames same (Count es) (Count fs)
    choice : {cs : Vec (Expr V × Expr V) Global} {ds : Vec (Expr W × Expr W) Global} {a : Box (Expr V) Global}
        {b : Box (Expr W) Global}
        → Cases_rename same cs.items ds.items → Renames same (out-Expr V a.value) (out-Expr W b.value)
        → Renames same (Choose cs a) (Choose ds b)

  pub data All_rename {V W : Type 0} (same : V → W → Type 0) : List (Expr V) → List (Expr W) → Type 0 where
    none : All_rename same [] []
    one_and : {a : Expr V} {es : List (Expr V)} {b : Expr W} {fs : List (Expr W)}
        → Renames same (out-Expr V a) (out-Expr W b) → All_rename same es fs
        → All_rename same (a ∷ es) (b ∷ fs)

  pub data Parts_rename {V W : Type 0} (same : V → W → Type 0) : List (Bool × Expr V) → List
      (Bool × Expr W) → Type 0 where
    no_part : Parts_rename same [] []
    part : {plus : Bool} {a : Expr V} {ps : List (Bool × Expr V)} {b : Expr W} {qs : List (Bool × Expr W)}
        → Renames same (out-Expr V a) (out-Expr W b)
        → Parts_rename same ps qs → Parts_rename same ((plus, a) ∷ ps) ((plus, b) ∷ qs)

  pub data Cases_rename {V W : Type 0} (same : V → W → Type 0) : List (Expr V × Expr V) → List
      (Expr W × Expr W) → Type 0 where
    no_case : Cases_rename same [] []
    case_and : {a b : Expr V} {cs : List (Expr V × Expr V)} {c d : Expr W} {ds : List (Expr W × Expr W)}
        → Renames same (out-Expr V a) (out-Expr W c)
        → Renames same (out-Expr V b) (out-Expr W d) → Cases_rename same cs ds
        → Cases_rename same ((a, b) ∷ cs) ((c, d) ∷ ds)

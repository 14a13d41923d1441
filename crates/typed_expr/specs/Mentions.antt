-- The variables that stand in an expression.
use Rattle.std.specs.Prelude.{Bool, List, ◌∷◌, Box, Vec}
use Rattle.std.specs.Global.{Global}
use Rattle.typed_expr.specs.Yields.{Level}
use Rattle.typed_expr.specs.declared.expr.Relation.{Relation}
use Rattle.typed_expr.specs.declared.expr.Expr.{Expr, out-Expr}
use Rattle.typed_expr.specs.declared.expr.Expr.TheOpen.{Variable, Not, All, Any, Compare, Sum, Product, Least, Greatest, Count, Choose}

mutual
  -- the variable stands in the expression
  pub data Mentions {V : Type 0} (x : V) : Level V → Type 0 where
    itself : Mentions x (Variable x)
    in_not : {a : Box (Expr V) Global} → Mentions x (out-Expr V a.value) → Mentions x (Not a)
    in_all : {es : Vec (Expr V) Global} → Some_mentions x es.items → Mentions x (All es)
    in_any : {es : Vec (Expr V) Global} → Some_mentions x es.items → Mentions x (Any es)
    in_left : {r : Relation} {a b : Box (Expr V) Global} → Mentions x (out-Expr V a.value) → Mentions x (Compare r a b)
    in_right : {r : Relation} {a b : Box (Expr V) Global} → Mentions x (out-Expr V b.value) → Mentions x (Compare r a b)
    in_sum : {ps : Vec (Bool × Expr V) Global} → Parts_mention x ps.items → Mentions x (Sum ps)
    in_product : {es : Vec (Expr V) Global} → Some_mentions x es.items → Mentions x (Product es)
    in_least : {es : Vec (Expr V) Global} → Some_mentions x es.items → Mentions x (Least es)
    in_greatest : {es : Vec (Expr V) Global} → Some_mentions x es.items → Mentions x (Greatest es)
    in_count : {es : Vec (Expr V) Global} → Some_mentions x es.items → Mentions x (Count es)
    in_cases : {cs : Vec (Expr V × Expr V) Global} {other : Box (Expr V) Global} → Cases_mention x cs.items
        → Mentions x (Choose cs other)
    in_other : {cs : Vec (Expr V × Expr V) Global} {other : Box (Expr V) Global} → Mentions x (out-Expr V other.value)
        → Mentions x (Choose cs other)

  pub data Some_mentions {V : Type 0} (x : V) : List (Expr V) → Type 0 where
    here : {e : Expr V} {es : List (Expr V)} → Mentions x (out-Expr V e) → Some_mentions x (e ∷ es)
    later : {e : Expr V} {es : List (Expr V)} → Some_mentions x es → Some_mentions x (e ∷ es)

  pub data Parts_mention {V : Type 0} (x : V) : List (Bool × Expr V) → Type 0 where
    this_part : {plus : Bool} {e : Expr V} {ps : List (Bool × Expr V)} → Mentions x (out-Expr V e)
        → Parts_mention x ((plus, e) ∷ ps)
    later_part : {plus : Bool} {e : Expr V} {ps : List (Bool × Expr V)} → Parts_mention x ps
        → Parts_mention x ((plus, e) ∷ ps)

  pub data Cases_mention {V : Type 0} (x : V) : List (Expr V × Expr V) → Type 0 where
    in_test : {test value : Expr V} {cs : List (Expr V × Expr V)} → Mentions x (out-Expr V test)
        → Cases_mention x ((test, value) ∷ cs)
    in_value : {test value : Expr V} {cs : List (Expr V × Expr V)} → Mentions x (out-Expr V value)
        → Cases_mention x ((test, value) ∷ cs)
    later_case : {test value : Expr V} {cs : List (Expr V × Expr V)} → Cases_mention x cs
        → Cases_mention x ((test, value) ∷ cs)

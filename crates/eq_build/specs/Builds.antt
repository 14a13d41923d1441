-- The entries of an expression, and the gates that are made for them. A reading is a list of entries for each variable.
use Rattle.std.specs.Prelude.{Bool, true, false, List, [], ◌∷◌, pos, Box, Vec}
use Rattle.std.specs.Global.{Global}
use Rattle.domains.specs.declared.Value.{Value}
use Rattle.domains.specs.declared.Value.TheVariants.{Whole}
use Rattle.typed_expr.specs.Yields.{Level}
use Rattle.typed_expr.specs.declared.expr.Relation.{Relation}
use Rattle.typed_expr.specs.declared.expr.Expr.{Expr, out-Expr}
use Rattle.typed_expr.specs.declared.expr.Expr.TheOpen.{Constant, Variable, Not, All, Any, Compare, Sum, Product, Least, Greatest, Count, Choose}
use Rattle.eq_core.specs.Gates.{Gate}
use Rattle.eq_build.specs.Entries.{Entry, Built, only, combined, folded, with_step, with_signs, led, entries_for, opposite_terms, joint_terms, chosen}
use Rattle.eq_build.specs.declared.steps.Step.TheVariants.{Times, Lesser, Greater, Counted, Compared}

mutual
  -- from these gates the expression has these entries, and the gates are then these
  pub data Builds {V : Type 0} (read : V → List Entry) : List Gate → Level V → Built → Type 0 where
    constant : {g : List Gate} {v : Value} → Builds read g (Constant v) (record { entries = only v; gates = g })
    variable : {g : List Gate} {x : V} → Builds read g (Variable x) (record { entries = read x; gates = g })
    opposite : {g : List Gate} {a : Box (Expr V) Global} {b : Built} → Builds read g (out-Expr V a.value) b
        → Builds read g (Not a) (entries_for b.gates (opposite_terms b.entries))
    all : {g h : List Gate} {es : Vec (Expr V) Global} {ess : List (List Entry)} → Builds_each read g es.items ess h
        → Builds read g (All es) (entries_for h (joint_terms true ess))
    any : {g h : List Gate} {es : Vec (Expr V) Global} {ess : List (List Entry)} → Builds_each read g es.items ess h
        → Builds read g (Any es) (entries_for h (joint_terms false ess))
    compared : {g : List Gate} {r : Relation} {a b : Box (Expr V) Global} {x y : Built}
        → Builds read g (out-Expr V a.value) x → Builds read x.gates (out-Expr V b.value) y
        → Builds read g (Compare r a b) (combined (Compared r) y.gates x.entries y.entries)
    sum : {g h : List Gate} {ps : Vec (Bool × Expr V) Global} {ess : List (Bool × List Entry)}
        → Builds_parts read g ps.items ess h
        → Builds read g (Sum ps) (folded h (only (Whole (pos 0))) (with_signs ess))
    product : {g h : List Gate} {es : Vec (Expr V) Global} {ess : List (List Entry)} → Builds_each read g es.items ess h
        → Builds read g (Product es) (folded h (only (Whole (pos 1))) (with_step Times ess))
    least : {g h : List Gate} {es : Vec (Expr V) Global} {ess : List (List Entry)} → Builds_each read g es.items ess h
        → Builds read g (Least es) (led Lesser h ess)
    greatest : {g h : List Gate} {es : Vec (Expr V) Global} {ess : List (List Entry)}
        → Builds_each read g es.items ess h → Builds read g (Greatest es) (led Greater h ess)
    count : {g h : List Gate} {es : Vec (Expr V) Global} {ess : List (List Entry)} → Builds_each read g es.items ess h
        → Builds read g (Count es) (folded h (only (Whole (pos 0))) (with_step Counted ess))
    choice : {g h : List Gate} {cs : Vec (Expr V × Expr V) Global} {other : Box (Expr V) Global}
        {ess : List (List Entry × List Entry)} {b : Built}
        → Builds_cases read g cs.items ess h → Builds read h (out-Expr V other.value) b
        → Builds read g (Choose cs other) (chosen b.gates ess b.entries)

  -- the operands from left to right
  pub data Builds_each {V : Type 0} (read : V → List Entry) : List Gate → List (Expr V) → List (List Entry)
      → List Gate → Type 0 where
    none : {g : List Gate} → Builds_each read g [] [] g
    one_and : {g h : List Gate} {e : Expr V} {es : List (Expr V)} {b : Built} {ess : List (List Entry)}
        → Builds read g (out-Expr V e) b → Builds_each read b.gates es ess h
        → Builds_each read g (e ∷ es) (b.entries ∷ ess) h

  -- the parts of a sum, each with its sign
  pub data Builds_parts {V : Type 0} (read : V → List Entry) : List Gate → List (Bool × Expr V)
      → List (Bool × List Entry) → List Gate → Type 0 where
    no_part : {g : List Gate} → Builds_parts read g [] [] g
    part_and : {g h : List Gate} {plus : Bool} {e : Expr V} {ps : List (Bool × Expr V)} {b : Built}
        {ess : List (Bool × List Entry)} → Builds read g (out-Expr V e) b → Builds_parts read b.gates ps ess h
        → Builds_parts read g ((plus, e) ∷ ps) ((plus, b.entries) ∷ ess) h

  -- the cases of a choice, each with its test and its value
  pub data Builds_cases {V : Type 0} (read : V → List Entry) : List Gate → List (Expr V × Expr V)
      → List (List Entry × List Entry) → List Gate → Type 0 where
    no_case : {g : List Gate} → Builds_cases read g [] [] g
    case_and : {g h : List Gate} {test value : Expr V} {cs : List (Expr V × Expr V)} {x y : Built}
        {ess : List (List Entry × List Entry)} → Builds read g (out-Expr V test) x
        → Builds read x.gates (out-Expr V value) y → Builds_cases read y.gates cs ess h
        → Builds_cases read g ((test, value) ∷ cs) ((x.entries, y.entries) ∷ ess) h

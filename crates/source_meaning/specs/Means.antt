-- The expression over variables that a written expression stands for, and the values of parameters.
use Rattle.std.specs.Prelude.{◌≡◌, ℕ, ℤ, Bool, true, false, List, [], ◌∷◌, Some, None, Box, Vec}
use Rattle.std.specs.Global.{Global}
use Rattle.ar_base.specs.Lists.{Stands}
use Rattle.ar_syntax.specs.declared.expressions.RawExpr.{RawExpr}
use Rattle.ar_syntax.specs.declared.expressions.RawForm.TheOpen as raw
use Rattle.ar_syntax.specs.declared.expressions.RawRelation.{RawRelation}
use Rattle.ar_syntax.specs.declared.paths.Path.{Path}
use Rattle.ar_syntax.specs.declared.paths.PathStart.TheVariants.{Here}
use Rattle.domains.specs.declared.Value.{Value}
use Rattle.domains.specs.declared.Value.TheVariants.{Truth, Whole, Symbol}
use Rattle.typed_expr.specs.Yields.{Level, Yields}
use Rattle.typed_expr.specs.declared.expr.Expr.{Expr, out-Expr}
use Rattle.typed_expr.specs.declared.expr.Expr.TheOpen.{Constant, Variable, Not, All, Any, Compare, Sum, Product, Least, Greatest, Count, Choose}
use Rattle.written_forms.specs.Operands.{RawLevel, level_of}
use Rattle.written_forms.specs.Relations.{relation_of}
use Rattle.class_table.specs.Members.{MemberKind}
use Rattle.class_table.specs.Members as given
use Rattle.hierarchy.specs.Models.{RootedModel}
use Rattle.hierarchy.specs.Units.{UnitPath, Thing, kind_at, numbers}
use Rattle.hierarchy.specs.Walks.{Finds, is_variable}
use Rattle.hierarchy.specs.Settings.{Attribute, in_force}

-- a parameter with a value, which a parameter Real has not
abbrev pub is_valued : MemberKind → Bool
is_valued (given.Parameter t e) = true
is_valued _ = false

-- the path is one name that the unit gives nothing, and is the symbol of this number
pub record IsSymbol (m : RootedModel) (u : UnitPath) (p : Path) (k : ℕ) : Type 0 where
  pub name : ℕ
  pub here : p.start ≡ Here
  pub single : numbers p.names.items ≡ name ∷ []
  pub not_given : kind_at m u name ≡ None
  pub stands : Stands m.declared.symbols k name

-- nothing is known of the values of variables
abbrev pub no_facts : Thing → Value → Type 0
no_facts x v = ⊥

mutual
  -- the expression, read in the unit, is this one over variables: a parameter stands for its value, a symbol for itself
  pub data Means (m : RootedModel) : UnitPath → RawLevel → Level Thing → Type 0 where
    truth : {u : UnitPath} {b : Bool} → Means m u (raw.Truth b) (Constant (Truth b))
    whole : {u : UnitPath} {n : ℤ} → Means m u (raw.Whole n) (Constant (Whole n))
    variable : {u : UnitPath} {p : Path} {t : Thing} → Finds m is_variable u p t → Means m u (raw.Path p) (Variable t)
    parameter : {u : UnitPath} {p : Path} {v : Value} (t : Thing) → Finds m is_valued u p t → ValueOf m t v
        → Means m u (raw.Path p) (Constant v)
    symbol : {u : UnitPath} {p : Path} {k : ℕ} → IsSymbol m u p k → Means m u (raw.Path p) (Constant (Symbol k))
    opposite : {u : UnitPath} {a : Box RawExpr Global} {b : Box (Expr Thing) Global}
        → Means m u (level_of a.value) (out-Expr Thing b.value) → Means m u (raw.Not a) (Not b)
    negative : {u : UnitPath} {a : Box RawExpr Global} {parts : Vec (Bool × Expr Thing) Global} (e : Expr Thing)
        → Means m u (level_of a.value) (out-Expr Thing e)
        → parts.items ≡ (false, e) ∷ [] → Means m u (raw.Minus a) (Sum parts)
    all : {u : UnitPath} {rs : Vec RawExpr Global} {es : Vec (Expr Thing) Global} → All_mean m u rs.items es.items
        → Means m u (raw.All rs) (All es)
    any : {u : UnitPath} {rs : Vec RawExpr Global} {es : Vec (Expr Thing) Global} → All_mean m u rs.items es.items
        → Means m u (raw.Any rs) (Any es)
    compared : {u : UnitPath} {r : RawRelation} {a b : Box RawExpr Global} {d e : Box (Expr Thing) Global}
        → Means m u (level_of a.value) (out-Expr Thing d.value)
        → Means m u (level_of b.value) (out-Expr Thing e.value)
        → Means m u (raw.Compare r a b) (Compare (relation_of r) d e)
    sum : {u : UnitPath} {rs : Vec (Bool × RawExpr) Global} {es : Vec (Bool × Expr Thing) Global}
        → Parts_mean m u rs.items es.items → Means m u (raw.Sum rs) (Sum es)
    product : {u : UnitPath} {rs : Vec RawExpr Global} {es : Vec (Expr Thing) Global} → All_mean m u rs.items es.items
        → Means m u (raw.Product rs) (Product es)
    least : {u : UnitPath} {rs : Vec RawExpr Global} {es : Vec (Expr Thing) Global} → All_mean m u rs.items es.items
        → Means m u (raw.Least rs) (Least es)
    greatest : {u : UnitPath} {rs : Vec RawExpr Global} {es : Vec (Expr Thing) Global} → All_mean m u rs.items es.items
        → Means m u (raw.Greatest rs) (Greatest es)
    count : {u : UnitPath} {rs : Vec RawExpr Global} {es : Vec (Expr Thing) Global} → All_mean m u rs.items es.items
        → Means m u (raw.Count rs) (Count es)
    choice : {u : UnitPath} {rs : Vec (RawExpr × RawExpr) Global} {es : Vec (Expr Thing × Expr Thing) Global}
        {a : Box RawExpr Global} {b : Box (Expr Thing) Global}
        → Cases_mean m u rs.items es.items → Means m u (level_of a.value) (out-Expr Thing b.value)
        → Means m u (raw.Choose rs a) (Choose es b)

  -- the same of operands
  pub data All_mean (m : RootedModel) : UnitPath → List RawExpr → List (Expr Thing) → Type 0 where
    none : {u : UnitPath} → All_mean m u [] []
    one_and : {u : UnitPath} {r : RawExpr} {rs : List RawExpr} {e : Expr Thing} {es : List (Expr Thing)}
        → Means m u (level_of r) (out-Expr Thing e) → All_mean m u rs es
        → All_mean m u (r ∷ rs) (e ∷ es)

  -- the same of the parts of a sum
  pub data Parts_mean (m : RootedModel) : UnitPath → List (Bool × RawExpr) → List (Bool × Expr Thing) → Type 0 where
    no_part : {u : UnitPath} → Parts_mean m u [] []
    part : {u : UnitPath} {plus : Bool} {r : RawExpr} {rs : List (Bool × RawExpr)} {e : Expr Thing}
        {es : List (Bool × Expr Thing)} → Means m u (level_of r) (out-Expr Thing e)
        → Parts_mean m u rs es → Parts_mean m u ((plus, r) ∷ rs) ((plus, e) ∷ es)

  -- the same of the cases of a choice
  pub data Cases_mean (m : RootedModel) : UnitPath → List (RawExpr × RawExpr) → List (Expr Thing × Expr Thing)
      → Type 0 where
    no_case : {u : UnitPath} → Cases_mean m u [] []
    case_and : {u : UnitPath} {q r : RawExpr} {rs : List (RawExpr × RawExpr)} {d e : Expr Thing}
        {es : List (Expr Thing × Expr Thing)} → Means m u (level_of q) (out-Expr Thing d)
        → Means m u (level_of r) (out-Expr Thing e) → Cases_mean m u rs es → Cases_mean m u ((q, r) ∷ rs) ((d, e) ∷ es)

  -- the value of a parameter, or of the init or reset of a variable: what its expression in force yields where nothing
  -- is known of variables
  pub data ValueOf (m : RootedModel) : Thing → Value → Type 0 where
    value : {t : Thing} {v : Value} (a : Attribute) (e : Expr Thing) → in_force m t ≡ Some a
        → Means m a.unit (level_of a.value) (out-Expr Thing e)
        → Yields no_facts (out-Expr Thing e) v → ValueOf m t v

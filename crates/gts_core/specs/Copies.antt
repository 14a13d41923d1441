-- Copies of expressions and domains, item by item.
use Rattle.std.specs.Prelude.{◌≡◌, Bool, List}
use Rattle.typed_expr.specs.Renames.{Renames, All_rename, Parts_rename, Cases_rename}
use Rattle.typed_expr.specs.declared.expr.Expr.{Expr, out-Expr}
use Rattle.ar_base.specs.Numbers.{VarId}

-- one variable at one place
abbrev pub IsSame : VarId → VarId → Type 0
IsSame x y = x ≡ y

-- the expressions are the same form for form
abbrev pub IsCopy : Expr VarId → Expr VarId → Type 0
IsCopy e f = Renames IsSame (out-Expr VarId e) (out-Expr VarId f)

-- the same of expressions, of parts of a sum, and of cases of a choice
abbrev pub AreCopies : List (Expr VarId) → List (Expr VarId) → Type 0
AreCopies = All_rename IsSame

abbrev pub AreTermCopies : List (Bool × Expr VarId) → List (Bool × Expr VarId) → Type 0
AreTermCopies = Parts_rename IsSame

abbrev pub AreCaseCopies : List (Expr VarId × Expr VarId) → List (Expr VarId × Expr VarId) → Type 0
AreCaseCopies = Cases_rename IsSame

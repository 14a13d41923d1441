-- The kinds of written expressions by their forms.
use Rattle.std.specs.Prelude.{◌≡◌, Option, Some, None, Box, Vec}
use Rattle.std.specs.Global.{Global}
use Rattle.ar_syntax.specs.declared.expressions.RawExpr.{RawExpr}
use Rattle.ar_syntax.specs.declared.expressions.RawForm.TheOpen as raw
use Rattle.ar_syntax.specs.declared.paths.Path.{Path}
use Rattle.typed_expr.specs.declared.expr.ValueKind.{ValueKind}
use Rattle.typed_expr.specs.declared.expr.ValueKind.TheVariants.{Truth, Whole}
use Rattle.written_forms.specs.Operands.{RawLevel, level_of, first_branch}

-- the kind that a form has whatever stands in it; a real counts as a whole number
abbrev pub own_kind : RawLevel → Option ValueKind
own_kind (raw.Truth b) = Some Truth
own_kind (raw.Whole n) = Some Whole
own_kind raw.Real = Some Whole
own_kind (raw.Path p) = None
own_kind (raw.Not a) = Some Truth
own_kind (raw.Minus a) = Some Whole
own_kind (raw.All es) = Some Truth
own_kind (raw.Any es) = Some Truth
own_kind (raw.Compare r a b) = Some Truth
own_kind (raw.Sum parts) = Some Whole
own_kind (raw.Product es) = Some Whole
own_kind (raw.Least es) = Some Whole
own_kind (raw.Greatest es) = Some Whole
own_kind (raw.Count es) = Some Whole
own_kind (raw.Choose cases other) = None

-- the kind of an expression by its form, where paths name things of these kinds; a choice has the kind of its first
-- branch
pub data HasForm (names : Path → ValueKind → Type 0) : RawLevel → ValueKind → Type 0 where
  own : {l : RawLevel} {k : ValueKind} → own_kind l ≡ Some k → HasForm names l k
  path : {p : Path} {k : ValueKind} → names p k → HasForm names (raw.Path p) k
  choice : {cases : Vec (RawExpr × RawExpr) Global} {other : Box RawExpr Global} {k : ValueKind}
      → HasForm names (level_of (first_branch cases.items other.value)) k → HasForm names (raw.Choose cases other) k

-- Definitions beside those of Forms, of which clauses inside the program speak: what the whole program promises does
-- not rest on them.
use Rattle.std.specs.Prelude.{Option, Some, None}
use Rattle.ar_syntax.specs.declared.paths.Path.{Path}
use Rattle.typed_expr.specs.declared.expr.ValueKind.{ValueKind}
use Rattle.written_forms.specs.Operands.{RawLevel}
use Rattle.written_forms.specs.Forms.{HasForm}

-- the answer is the kind of the expression, or it has none
abbrev pub IsFormOf : (Path → ValueKind → Type 0) → RawLevel → Option ValueKind → Type 0
IsFormOf names l None = (k : ValueKind) → HasForm names l k → ⊥
IsFormOf names l (Some k) = HasForm names l k

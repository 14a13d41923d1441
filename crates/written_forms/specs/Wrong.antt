-- Where written expressions name nothing, and where they have a wrong kind.
use Rattle.std.specs.Prelude.{◌≡◌}
use Rattle.ar_base.specs.Lists.{IsOneOf}
use Rattle.ar_base.specs.declared.places.Place.{Place}
use Rattle.ar_syntax.specs.declared.expressions.RawExpr.{RawExpr}
use Rattle.ar_syntax.specs.declared.expressions.RawForm.TheOpen as raw
use Rattle.ar_syntax.specs.declared.paths.Path.{Path}
use Rattle.typed_expr.specs.declared.expr.ValueKind.{ValueKind}
use Rattle.written_forms.specs.Operands.{RawLevel, level_of, Demand, OfKind, Like, OperandOfKind, operands_of, HasOperands, PathIn}
use Rattle.written_forms.specs.Forms.{HasForm}

-- Names

-- a path in the expression, which stands here, names nothing that it may name
pub record IsMisnamed (may : Path → Type 0) (l : RawLevel) (at : Place) : Type 0 where
  pub path : Path
  pub is_in : PathIn path l
  pub not : may path → ⊥
  pub place : at ≡ path.at

-- Kinds

-- the kind that is wanted
pub data IsWantedKind (names : Path → ValueKind → Type 0) : Demand → ValueKind → Type 0 where
  this : {k : ValueKind} → IsWantedKind names (OfKind k) k
  that_of : {e : RawExpr} {k : ValueKind} → HasForm names (level_of e) k → IsWantedKind names (Like e) k

-- the expression, of which this is wanted, has another kind, or it is a real, or its list of operands is empty, which
-- no text has, or one in it has a wrong kind; that one stands here
pub data IsMistyped (names : Path → ValueKind → Type 0) : Demand → RawExpr → Place → Type 0 where
  itself : {d : Demand} {e : RawExpr} (k want : ValueKind) → HasForm names (level_of e) k → IsWantedKind names d want
      → (k ≡ want → ⊥)
      → IsMistyped names d e e.at
  real : {d : Demand} {e : RawExpr} → level_of e ≡ raw.Real → IsMistyped names d e e.at
  empty : {d : Demand} {e : RawExpr} → (HasOperands (level_of e) → ⊥) → IsMistyped names d e e.at
  inside : {d : Demand} {e : RawExpr} {at : Place} (o : OperandOfKind) → IsOneOf (operands_of (level_of e)) o
      → IsMistyped names o.demand o.written at → IsMistyped names d e at

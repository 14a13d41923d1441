-- Definitions beside those of Wrong, of which clauses inside the program speak: what the whole program promises does
-- not rest on them.
use Rattle.std.specs.Prelude.{◌≡◌, Bool, true, false, List, Option, Some, None}
use Rattle.ar_base.specs.Lists.{IsOneOf}
use Rattle.ar_base.specs.declared.places.Place.{Place}
use Rattle.ar_syntax.specs.declared.expressions.RawExpr.{RawExpr}
use Rattle.ar_syntax.specs.declared.expressions.RawForm.TheOpen as raw
use Rattle.ar_syntax.specs.declared.paths.Path.{Path}
use Rattle.typed_expr.specs.declared.expr.ValueKind.{ValueKind}
use Rattle.written_forms.specs.Operands.{RawLevel, level_of, Demand, AnyKind, OfKind, OperandOfKind, HasOperands}
use Rattle.typed_expr.specs.declared.expr.ValueKind.TheVariants.{Whole}
use Rattle.written_forms.specs.Forms.{HasForm}
use Rattle.written_forms.specs.FormsInside.{IsFormOf}
use Rattle.written_forms.specs.Wrong.{IsMisnamed, IsWantedKind, IsMistyped}

-- Kinds

-- the kinds that a table gives to paths, as a relation
abbrev pub NamesKind : (Path → Option ValueKind) → Path → ValueKind → Type 0
NamesKind kinds p k = kinds p ≡ Some k

-- the table gives the path a kind
abbrev pub IsNamedPath : (Path → Option ValueKind) → Path → Type 0
IsNamedPath kinds p = (k : ValueKind) × NamesKind kinds p k

-- what is wanted, as far as a kind is told
abbrev pub demanding : Option ValueKind → Demand
demanding None = AnyKind
demanding (Some k) = OfKind k

-- both kinds are told, and they differ
pub data AreTwoKinds : Option ValueKind → Option ValueKind → Type 0 where
  two : {j k : ValueKind} → (j ≡ k → ⊥) → AreTwoKinds (Some j) (Some k)

-- the kinds that are wanted of the sides of a comparison: any and then that of the first side, or whole numbers
abbrev pub AreWanted : (Path → ValueKind → Type 0) → Bool → RawLevel → Option ValueKind × Option ValueKind → Type 0
AreWanted names true a kinds = (kinds.0 ≡ None) × IsFormOf names a kinds.1
AreWanted names false a kinds = (kinds.0 ≡ Some Whole) × (kinds.1 ≡ Some Whole)

-- the expression itself has another kind than is wanted of it, or it is a real, or its list of operands is empty
pub data IsWrongItself (names : Path → ValueKind → Type 0) (d : Demand) (e : RawExpr) (at : Place) : Type 0 where
  another : (k want : ValueKind) → HasForm names (level_of e) k → IsWantedKind names d want → (k ≡ want → ⊥) → at ≡ e.at
      → IsWrongItself names d e at
  real : level_of e ≡ raw.Real → at ≡ e.at → IsWrongItself names d e at
  empty : (HasOperands (level_of e) → ⊥) → at ≡ e.at → IsWrongItself names d e at

-- Operands

-- one of the operands has P at the place
pub record Among (P : OperandOfKind → Place → Type 0) (os : List OperandOfKind) (at : Place) : Type 0 where
  pub operand : OperandOfKind
  pub is_operand : IsOneOf os operand
  pub has : P operand at

-- the operand has a path that names nothing that it may name
abbrev pub MisnamedOperand : (Path → Type 0) → OperandOfKind → Place → Type 0
MisnamedOperand may o at = IsMisnamed may (level_of o.written) at

-- the operand has a wrong kind
abbrev pub MistypedOperand : (Path → ValueKind → Type 0) → OperandOfKind → Place → Type 0
MistypedOperand names o at = IsMistyped names o.demand o.written at

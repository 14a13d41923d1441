-- What an instruction breaks by itself, apart from the instructions in it.
use Rattle.std.specs.Prelude.{◌≡◌, Option, Box}
use Rattle.std.specs.Global.{Global}
use Rattle.ar_base.specs.declared.places.Place.{Place}
use Rattle.ar_syntax.specs.declared.expressions.RawExpr.{RawExpr}
use Rattle.ar_syntax.specs.declared.instructions.Instr.{Instr}
use Rattle.ar_syntax.specs.declared.instructions.Instr.TheOpen as instr
use Rattle.ar_syntax.specs.declared.paths.Path.{Path}
use Rattle.typed_expr.specs.declared.expr.ValueKind.{ValueKind}
use Rattle.typed_expr.specs.declared.expr.ValueKind.TheVariants.{Truth}
use Rattle.written_forms.specs.Operands.{level_of, OfKind}
use Rattle.written_forms.specs.Wrong.{IsMisnamed, IsMistyped}
use Rattle.written_forms.specs.Parts.{InstrForm}

-- a path in its expression names nothing that it may name, or a path that is assigned or tied names no variable
pub data MisnamesItself (may : Path → Type 0) (is_variable : Path → Type 0) : InstrForm → Place → Type 0 where
  test : {e : RawExpr} {a : Box Instr Global} {b : Option (Box Instr Global)} {at : Place}
      → IsMisnamed may (level_of e) at
      → MisnamesItself may is_variable (instr.If e a b) at
  value : {p : Path} {e : RawExpr} {at : Place}
      → IsMisnamed may (level_of e) at → MisnamesItself may is_variable (instr.Assign p e) at
  target : {p : Path} {e : RawExpr} → (is_variable p → ⊥) → MisnamesItself may is_variable (instr.Assign p e) p.at
  left : {p q : Path} → (is_variable p → ⊥) → MisnamesItself may is_variable (instr.Tie p q) p.at
  right : {p q : Path} → (is_variable q → ⊥) → MisnamesItself may is_variable (instr.Tie p q) q.at

-- its test is no truth value, its value is not of its target's kind, or its right path is not of the kind of its left
-- one
pub data MistypesItself (names : Path → ValueKind → Type 0) : InstrForm → Place → Type 0 where
  test : {e : RawExpr} {a : Box Instr Global} {b : Option (Box Instr Global)} {at : Place}
      → IsMistyped names (OfKind Truth) e at
      → MistypesItself names (instr.If e a b) at
  value : {p : Path} {e : RawExpr} {at : Place} (k : ValueKind) → names p k
      → IsMistyped names (OfKind k) e at → MistypesItself names (instr.Assign p e) at
  tied : {p q : Path} (j k : ValueKind) → names p j → names q k → (k ≡ j → ⊥)
      → MistypesItself names (instr.Tie p q) q.at

-- in an action: it assigns a variable that is no state variable, or it is a `:=:`
pub data MisplacedInAction (no_state : Path → Type 0) : InstrForm → Place → Type 0 where
  assigns : {p : Path} {e : RawExpr} → no_state p → MisplacedInAction no_state (instr.Assign p e) p.at
  ties : {p q : Path} → MisplacedInAction no_state (instr.Tie p q) p.at

-- in an assertion: it assigns a variable that is no flow, or ties one; of two such paths the first counts
pub data MisplacedInAssertion (no_flow flow : Path → Type 0) : InstrForm → Place → Type 0 where
  assigns : {p : Path} {e : RawExpr} → no_flow p → MisplacedInAssertion no_flow flow (instr.Assign p e) p.at
  left : {p q : Path} → no_flow p → MisplacedInAssertion no_flow flow (instr.Tie p q) p.at
  right : {p q : Path} → flow p → no_flow q → MisplacedInAssertion no_flow flow (instr.Tie p q) q.at

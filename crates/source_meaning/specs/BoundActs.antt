-- What it is that a bound instruction is a written one.
use Rattle.std.specs.Prelude.{◌≡◌, ℕ, List, [], Option, Box}
use Rattle.std.specs.Global.{Global}
use Rattle.ar_base.specs.Lists.{Stands, Along}
use Rattle.ar_base.specs.declared.places.Place.{Place}
use Rattle.ar_syntax.specs.declared.expressions.RawExpr.{RawExpr}
use Rattle.ar_syntax.specs.declared.instructions.Instr.{Instr}
use Rattle.ar_syntax.specs.declared.instructions.Instr.TheOpen as instr
use Rattle.ar_syntax.specs.declared.paths.Path.{Path}
use Rattle.ar_meaning.specs.Image.{Assign_renames}
use Rattle.gts_core.specs.Bound.{assigns_of_act, places_of_act}
use Rattle.gts_core.specs.declared.bound.Act.{Act}
use Rattle.written_forms.specs.Operands.{level_of, AnyKind, PathIn}
use Rattle.written_forms.specs.Wrong.{IsMistyped}
use Rattle.written_forms.specs.declared.naming.Leaf.{Leaf}
use Rattle.written_forms.specs.Parts.{InstrForm, IsPartOf}
use Rattle.hierarchy.specs.Models.{RootedModel}
use Rattle.hierarchy.specs.Units.{UnitPath, Thing}
use Rattle.hierarchy.specs.Listing.{variables}
use Rattle.source_meaning.specs.Acts.{Placed, Sets, assigns_of, places_of}
use Rattle.source_meaning.specs.Kinds.{HasKindAt}
use Rattle.source_meaning.specs.Tested.{NamesVariable}
use Rattle.source_meaning.specs.BoundExpressions.{IsLeafFor}

-- the expression is that of the instruction itself
pub data IsExpressionOf (e : RawExpr) : InstrForm → Type 0 where
  test : {a : Box Instr Global} {b : Option (Box Instr Global)} → IsExpressionOf e (instr.If e a b)
  value : {p : Path} → IsExpressionOf e (instr.Assign p e)

-- the instruction itself assigns or ties the path
pub data IsAssignedPath (p : Path) : InstrForm → Type 0 where
  assigned : {e : RawExpr} → IsAssignedPath p (instr.Assign p e)
  left : {q : Path} → IsAssignedPath p (instr.Tie p q)
  right : {q : Path} → IsAssignedPath p (instr.Tie q p)

-- of the instruction and of those in it: their targets are variables, what stands for their paths is what these name,
-- and nothing in their expressions has a wrong kind
pub record AreLeaves (m : RootedModel) (units : List UnitPath) (u : UnitPath) (leaves : Path → Leaf)
    (whole : InstrForm) : Type 0 where
  pub targets : (i : InstrForm) (p : Path) → IsPartOf i whole → IsAssignedPath p i → NamesVariable m u p
  pub of_targets : (i : InstrForm) (p : Path) → IsPartOf i whole → IsAssignedPath p i → IsLeafFor m units u p (leaves p)
  pub of_expressions : (i : InstrForm) (e : RawExpr) (p : Path) → IsPartOf i whole → IsExpressionOf e i
      → PathIn p (level_of e) → IsLeafFor m units u p (leaves p)
  pub right : (i : InstrForm) (e : RawExpr) (at : Place) → IsPartOf i whole → IsExpressionOf e i
      → IsMistyped (HasKindAt m u) AnyKind e at → ⊥

-- the bound instruction has the assignments of the written one in the unit u, with numbers for variables, at the same
-- places
pub record IsBoundInstruction (m : RootedModel) (units : List UnitPath) (u : UnitPath) (i : InstrForm) (a : Act) : Type
    0 where
  pub placed : List Placed
  pub sets : Sets m u [] i placed
  pub numbers : Along (Assign_renames (λ (t : Thing) (n : ℕ). Stands (variables m units) n t)) (assigns_of placed)
      (assigns_of_act a)
  pub places : places_of placed ≡ places_of_act a

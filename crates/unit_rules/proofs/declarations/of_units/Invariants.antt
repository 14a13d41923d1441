use Rattle.std.proofs.Common.{ℕ, List, [], unwrap_or, slice_get}
use Rattle.ar_base.specs.Lists.{Along}
use Rattle.ar_base.specs.declared.places.Place.{Place}
use Rattle.class_table.specs.Earliest.{IsEarliest, Until}
use Rattle.class_table.specs.declared.tables.Classes.{Classes}
use Rattle.class_table.proofs.Looping.{AtItem}
use Rattle.hierarchy.specs.Models.{RootedModel}
use Rattle.hierarchy.specs.Units.{UnitPath}
use Rattle.hierarchy.specs.declared.outline.Outline.{Outline}
use Rattle.hierarchy.specs.Tie.{AreOutlines}
use Rattle.unit_rules.specs.Searched.{BreaksOne, forms_of, IsFirstIn}
use Rattle.unit_rules.proofs.declarations.of_units.Given as goal

abbrev pub invariant-loop-outline : goal.invariant-loop-outline
invariant-loop-outline l = (m : RootedModel) (units : List UnitPath) (classes : Classes)
    → AreOutlines m units classes l.outlines → Along (IsFirstIn m.declared) classes.bodies.items l.firsts
    → IsEarliest (Until (AtItem l.outlines
    (λ (j : ℕ) (o : Outline) (q : Place). BreaksOne m.declared
    (forms_of m.declared (unwrap_or (slice_get m.members o.body.n) [])) q)) l.outline-index) l.found

use Rattle.std.proofs.Common.{List}
use Rattle.class_table.specs.Earliest.{IsEarliest, Until}
use Rattle.class_table.proofs.Looping.{AtItem}
use Rattle.hierarchy.specs.Models.{RootedModel}
use Rattle.hierarchy.specs.Units.{UnitPath}
use Rattle.hierarchy.specs.Tie.{AreOutlines}
use Rattle.unit_walks.specs.Settling.{AreOutcomes}
use Rattle.unit_rules.specs.Naming.{broken_so}
use Rattle.unit_rules.proofs.Ending.{UnitEnds}
use Rattle.unit_rules.proofs.statements.first_broken.Given as goal

-- the earliest place of the units up to here
abbrev pub invariant-loop-place : goal.invariant-loop-place
invariant-loop-place l = (m : RootedModel) (units : List UnitPath) → AreOutlines m units l.classes l.outlines
    → AreOutcomes m units l.walks
    → IsEarliest (Until (AtItem l.outlines (UnitEnds m units (broken_so l.looping))) l.place) l.found

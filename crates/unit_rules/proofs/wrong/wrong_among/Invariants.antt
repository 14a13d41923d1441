use Rattle.std.proofs.Common.{List}
use Rattle.ar_base.specs.Lists.{Stands}
use Rattle.class_table.specs.Earliest.{IsEarliest, Until}
use Rattle.class_table.specs.declared.tables.Classes.{Classes}
use Rattle.class_table.proofs.Looping.{AtItem}
use Rattle.hierarchy.specs.Models.{RootedModel}
use Rattle.hierarchy.specs.Units.{UnitPath}
use Rattle.hierarchy.specs.Tie.{AreOutlines}
use Rattle.unit_walks.specs.Settling.{AreOutcomes}
use Rattle.unit_rules.specs.Repeats.{HaveMet}
use Rattle.unit_rules.specs.Settables.{AreSettables}
use Rattle.unit_rules.specs.Wrong.{BreaksAt}
use Rattle.unit_rules.proofs.wrong.wrong_among.Given as goal

-- the targets of the settings up to here were met, and the earliest place of these settings was found
abbrev pub invariant-loop-place : goal.invariant-loop-place
invariant-loop-place l = HaveMet l.settings l.place l.targets
    × ((m : RootedModel) (units : List UnitPath) (classes : Classes) (u : UnitPath)
    → AreOutlines m units classes l.outlines → AreOutcomes m units l.walks
    → AreSettables m units l.settables → Stands units l.unit.n u
    → IsEarliest (Until (AtItem l.settings (BreaksAt m u l.settings)) l.place) l.first)

use Rattle.std.proofs.Common.{List}
use Rattle.class_table.specs.Earliest.{IsEarliest, Until}
use Rattle.class_table.proofs.Looping.{AtItem}
use Rattle.hierarchy.specs.Models.{RootedModel}
use Rattle.hierarchy.specs.Units.{UnitPath}
use Rattle.hierarchy.specs.Tie.{AreOutlines}
use Rattle.unit_walks.specs.Settling.{AreOutcomes}
use Rattle.unit_rules.specs.ToTest.{KnowsLeft}
use Rattle.unit_rules.proofs.Searched.{BreaksNumber}
use Rattle.unit_rules.proofs.wrong.first_wrong_setting.Given as goal

-- the earliest place of the units up to here
abbrev pub invariant-loop-place : goal.invariant-loop-place
invariant-loop-place l = (m : RootedModel) (units : List UnitPath) → AreOutlines m units l.classes l.outlines
    → AreOutcomes m units l.walks → KnowsLeft m l.search
    × IsEarliest (Until (AtItem l.outlines (BreaksNumber m units)) l.place) l.search.found

use Rattle.std.proofs.Common.{List}
use Rattle.ar_base.specs.Lists.{Stands, Along}
use Rattle.class_table.specs.Earliest.{IsEarliest, Until}
use Rattle.class_table.specs.TablesInside.{IsBodyOf}
use Rattle.class_table.proofs.Looping.{AtItem}
use Rattle.hierarchy.specs.Models.{RootedModel}
use Rattle.hierarchy.specs.Units.{UnitPath}
use Rattle.unit_walks.specs.Settling.{AreOutcomes}
use Rattle.unit_rules.specs.Naming.{broken_so}
use Rattle.unit_rules.proofs.Ending.{SiteEnds}
use Rattle.unit_rules.proofs.statements.broken_among.Given as goal

-- the earliest place of the members up to here
abbrev pub invariant-loop-site : goal.invariant-loop-site
invariant-loop-site l = (m : RootedModel) (units : List UnitPath) (u : UnitPath)
    → Along IsBodyOf l.bodies m.declared.bodies → AreOutcomes m units l.walks → Stands units l.unit.n u
    → IsEarliest (Until (AtItem l.all (SiteEnds m u (broken_so l.looping))) l.site-index) l.found

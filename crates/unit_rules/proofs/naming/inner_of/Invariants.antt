use Rattle.std.proofs.Common.{List, [], map, take}
use Rattle.ar_base.specs.Lists.{Stands, Along}
use Rattle.class_table.specs.Declaring.{Declared}
use Rattle.class_table.specs.TablesInside.{IsBodyOf, site_of}
use Rattle.hierarchy.specs.Models.{RootedModel}
use Rattle.hierarchy.specs.Units.{UnitPath}
use Rattle.unit_walks.specs.Settling.{AreOutcomes}
use Rattle.unit_rules.specs.Naming.{AddsNames, inner_names, names_at_sites}
use Rattle.unit_rules.proofs.naming.inner_of.Given as goal

-- the members up to here were looked at
abbrev pub invariant-loop-site : goal.invariant-loop-site
invariant-loop-site l = (d : Declared) (m : RootedModel) (units : List UnitPath) (u : UnitPath)
    → Along IsBodyOf l.bodies d.bodies → AreOutcomes m units l.walks → Stands units l.unit.n u
    → AddsNames m units u [] (names_at_sites inner_names d (map site_of (take l.site-index l.all))) l.inner.items

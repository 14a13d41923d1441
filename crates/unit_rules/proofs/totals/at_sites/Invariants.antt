use Rattle.std.proofs.Common.{List, map, take}
use Rattle.ar_base.specs.Lists.{Along}
use Rattle.class_table.specs.Declaring.{Declared}
use Rattle.class_table.specs.TablesInside.{IsBodyOf, site_of}
use Rattle.class_table.specs.declared.tables.Body.{Body}
use Rattle.unit_rules.specs.Counting.{AreOwn, AreAt}
use Rattle.unit_rules.proofs.totals.at_sites.Given as goal

abbrev pub invariant-loop-site : goal.invariant-loop-site
invariant-loop-site l = (d : Declared) (bodies : List Body) → Along IsBodyOf bodies d.bodies
    → Along (AreOwn d) bodies l.rows → AreAt d (map site_of (take l.site-index l.sites)) l.counts

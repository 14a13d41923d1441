use Rattle.std.proofs.Common.{map, take}
use Rattle.class_table.specs.Declaring.{Declared}
use Rattle.class_table.specs.Retested.{AddsGiven}
use Rattle.class_table.specs.Shown.{Shows}
use Rattle.class_table.specs.TablesInside.{site_of}
use Rattle.class_table.proofs.given.Given.add_sites.Given as goal

abbrev pub invariant-loop-site : goal.invariant-loop-site
invariant-loop-site l = (d : Declared) → Shows d l.bodies l.types
    → AddsGiven d (map site_of (take l.site-index l.sites)) l.initial.self l.self

use Rattle.std.proofs.Common.{map, take}
use Rattle.class_table.specs.Declaring.{Declared}
use Rattle.class_table.specs.Repeating.{IsNamed}
use Rattle.class_table.specs.Retested.{KnowsGiven, member_names_at}
use Rattle.class_table.specs.TablesInside.{site_of}
use Rattle.class_table.proofs.given.Given.has.Given as goal

abbrev pub invariant-loop-site : goal.invariant-loop-site
invariant-loop-site l = (d : Declared) → KnowsGiven d l.self
    → IsNamed (member_names_at d (map site_of (take l.site-index l.sites))) l.name.n → ⊥

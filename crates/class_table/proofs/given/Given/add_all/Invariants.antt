use Rattle.std.proofs.Common.{map, take}
use Rattle.class_table.specs.Names.{name_and_place}
use Rattle.class_table.specs.TablesInside.{site_of}
use Rattle.class_table.proofs.GivenNames.{AddsAt}
use Rattle.class_table.proofs.given.Given.add_all.Given as goal

abbrev pub invariant-loop-name : goal.invariant-loop-name
invariant-loop-name l = AddsAt (site_of l.site) (map name_and_place (take l.name-index l.list)) l.initial.self l.self

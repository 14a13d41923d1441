use Rattle.std.proofs.Common.{map, take}
use Rattle.class_table.specs.Declaring.{Declared}
use Rattle.class_table.specs.Earliest.{IsEarliest}
use Rattle.class_table.specs.Names.{name_and_place}
use Rattle.class_table.specs.Retested.{KnowsGiven, IsNameTaken, member_names_at}
use Rattle.class_table.specs.TablesInside.{site_of}
use Rattle.class_table.proofs.given.Given.first_taken.Given as goal

abbrev pub invariant-loop-name : goal.invariant-loop-name
invariant-loop-name l = (d : Declared) → KnowsGiven d l.self
    → IsEarliest (IsNameTaken (member_names_at d (map site_of l.sites)) (map name_and_place (take l.name-index l.list))) l.found

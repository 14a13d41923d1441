use Rattle.std.proofs.Common.{◌++◌, List, ℕ, map, take}
use Rattle.ar_base.specs.declared.places.Place.{Place}
use Rattle.class_table.specs.Repeating.{HasMet}
use Rattle.class_table.specs.Names.{name_and_place}
use Rattle.class_table.proofs.repeats.Repeats.add_all.Given as goal

abbrev pub invariant-loop-name : goal.invariant-loop-name
invariant-loop-name l = (names : List (ℕ × Place)) → HasMet l.initial.self names
    → HasMet l.self (names ++ map name_and_place (take l.name-index l.list))

use Rattle.std.proofs.Common.{take}
use Rattle.ar_base.specs.Lists.{Along}
use Rattle.class_table.specs.Declaring.{Declared}
use Rattle.class_table.specs.TablesInside.{HoldsDeclared}
use Rattle.unit_rules.specs.TypingInside.{KnowsPlaces}
use Rattle.unit_rules.specs.Searched.{IsFirstIn}
use Rattle.unit_rules.proofs.declarations.of_bodies.Given as goal

abbrev pub invariant-loop-body : goal.invariant-loop-body
invariant-loop-body l = (d : Declared) → HoldsDeclared d l.classes → KnowsPlaces l.classes.types.items l.places
    → Along (IsFirstIn d) (take l.body-index l.classes.bodies.items) l.firsts.items

use Rattle.std.proofs.Common.{take}
use Rattle.ar_base.specs.Lists.{Along}
use Rattle.class_table.specs.Declaring.{Declared}
use Rattle.class_table.specs.TablesInside.{IsNamedType}
use Rattle.unit_rules.specs.Counting.{AreOwn}
use Rattle.unit_rules.specs.TypingInside.{KnowsPlaces}
use Rattle.unit_rules.proofs.totals.all_own.Given as goal

abbrev pub invariant-loop-body : goal.invariant-loop-body
invariant-loop-body l = (d : Declared) → Along (IsNamedType d.symbols) l.types d.types → KnowsPlaces l.types l.places
    → Along (AreOwn d) (take l.body-index l.bodies) l.rows.items

use Rattle.std.proofs.Common.{take}
use Rattle.ar_base.specs.Lists.{Along}
use Rattle.class_table.specs.Declaring.{Declared}
use Rattle.class_table.specs.TablesInside.{IsBodyOf}
use Rattle.unit_rules.specs.Counting.{AreOwn, AreOfBody}
use Rattle.unit_rules.proofs.totals.of_bodies.Given as goal

abbrev pub invariant-loop-body : goal.invariant-loop-body
invariant-loop-body l = (d : Declared) → Along IsBodyOf l.bodies d.bodies → Along (AreOwn d) l.bodies l.rows
    → Along (AreOfBody d) (take l.body-index l.bodies) l.counts.items

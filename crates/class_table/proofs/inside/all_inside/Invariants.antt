use Rattle.std.proofs.Common.{◌≡◌, length}
use Rattle.class_table.specs.Declaring.{Declared}
use Rattle.class_table.specs.Shown.{Shows}
use Rattle.class_table.proofs.Rowed.{AreRowsOf}
use Rattle.class_table.proofs.inside.all_inside.Given as goal

abbrev pub invariant-loop-body : goal.invariant-loop-body
invariant-loop-body l = record {
  long : length l.rows.items ≡ l.body-index;
  each : (d : Declared) → Shows d l.bodies l.types → AreRowsOf d l.bodies l.rows.items;
}

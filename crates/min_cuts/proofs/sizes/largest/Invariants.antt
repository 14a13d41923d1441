use Rattle.std.proofs.Common.{◌≡◌, length}
use Rattle.min_cuts.specs.Sizes.{largest}
use Rattle.min_cuts.specs.Kept.{AreMeasured, AreWithinPlaces}
use Rattle.min_cuts.proofs.sizes.largest.Given as goal

abbrev pub invariant-loop-number : goal.invariant-loop-number
invariant-loop-number l = record {
  long : length l.table.items ≡ l.number;
  table : AreMeasured largest l.store l.table.items;
  small : AreWithinPlaces l.table.items;
}

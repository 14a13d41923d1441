use Rattle.std.proofs.Common.{◌≡◌, length}
use Rattle.min_cuts.specs.Sizes.{count}
use Rattle.min_cuts.specs.Kept.{AreMeasured}
use Rattle.min_cuts.proofs.sizes.counts.Given as goal

abbrev pub invariant-loop-number : goal.invariant-loop-number
invariant-loop-number l = record {
  long : length l.table.items ≡ l.number;
  table : AreMeasured count l.fn.family.store l.table.items;
}

use Rattle.std.proofs.Common.{◌≡◌, ◌-◌, ◌≤◌, length}
use Rattle.lane_rows.specs.Rows.{TellsDifference, IsOrBetween}
use Rattle.lane_rows.proofs.or_into.Given as goal

abbrev pub invariant-loop-at : goal.invariant-loop-at
invariant-loop-at l = record {
  within : l.at ≤ length l.fn.row;
  long : length l.row ≡ length l.fn.row;
  or : IsOrBetween l.fn.row l.with l.row 0 l.at;
  tells : TellsDifference l.fn.row l.with 0 l.at l.changed;
}

abbrev pub decreases-loop-at : goal.decreases-loop-at
decreases-loop-at l = length l.fn.row - l.at

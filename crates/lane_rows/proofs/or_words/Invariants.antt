use Rattle.std.proofs.Common.{◌≡◌, length}
use Rattle.lane_rows.specs.Rows.{TellsDifference, IsOrBetween}
use Rattle.lane_rows.proofs.or_words.Given as goal

abbrev pub invariant-loop-i : goal.invariant-loop-i
invariant-loop-i l = record {
  long : length l.row ≡ length l.fn.row;
  or : IsOrBetween l.fn.row l.with l.row l.at l.i;
  tells : TellsDifference l.fn.row l.with l.at l.i l.changed;
}

use Rattle.std.proofs.Common.{◌-◌, ◌≤◌, length, true}
use Rattle.lane_rows.specs.Rows.{CoversBetween}
use Rattle.lane_rows.proofs.covers.Given as goal

abbrev pub invariant-loop-at : goal.invariant-loop-at
invariant-loop-at l = record { within : l.at ≤ length l.big; covered : CoversBetween l.big l.small 0 l.at true }

abbrev pub decreases-loop-at : goal.decreases-loop-at
decreases-loop-at l = length l.big - l.at

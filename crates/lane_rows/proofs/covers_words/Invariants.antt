use Rattle.std.proofs.Common.{true}
use Rattle.lane_rows.specs.Rows.{CoversBetween}
use Rattle.lane_rows.proofs.covers_words.Given as goal

abbrev pub invariant-loop-i : goal.invariant-loop-i
invariant-loop-i l = CoversBetween l.big l.small l.at l.i true

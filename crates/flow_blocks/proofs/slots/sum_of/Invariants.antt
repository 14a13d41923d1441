-- The sum of the words so far, and the rest of the row.
use Rattle.std.proofs.Common.{◌≡◌, drop}
use Rattle.flow_blocks.specs.Slots.{row_sum}
use Rattle.flow_blocks.proofs.slots.sum_of.Given as goal

abbrev pub invariant-loop-word : goal.invariant-loop-word
invariant-loop-word l = row_sum l.sum (drop l.word-index l.row) ≡ row_sum 0 l.row

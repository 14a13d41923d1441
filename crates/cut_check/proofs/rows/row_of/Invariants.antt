use Rattle.std.proofs.Common.{◌≡◌, ℕ, List, take, length}
use Rattle.flow_blocks.specs.Bits.{words_for}
use Rattle.job_inputs.specs.Chains.{chain_labels}
use Rattle.cut_check.specs.Rows.{AreOpenEvents, IsRow}
use Rattle.cut_check.proofs.rows.row_of.Given as goal

-- the row of the labels so far
abbrev pub invariant-loop-way : goal.invariant-loop-way
invariant-loop-way l = record {
  long : length l.row.words.items ≡ words_for (length l.parts.events.items);
  row : (dropped : List ℕ) → AreOpenEvents l.parts dropped l.allowed
      → IsRow l.parts dropped (chain_labels l.parts (take l.way-index l.ways)) l.row;
}

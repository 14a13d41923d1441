use Rattle.std.proofs.Common.{ℕ, List, take}
use Rattle.cut_check.specs.Rows.{AreOpenEvents, AreLineRows}
use Rattle.cut_check.proofs.rows.rows_of.Given as goal

-- the rows of the lines so far
abbrev pub invariant-loop-chain : goal.invariant-loop-chain
invariant-loop-chain l = (dropped : List ℕ) → AreOpenEvents l.parts dropped l.allowed
    → AreLineRows l.parts dropped (take l.chain-index l.chains) l.rows.items

-- The bits of the uses so far.
use Rattle.std.proofs.Common.{ℕ, ◌↔◌, take}
use Rattle.ar_base.specs.Lists.{IsOneOf}
use Rattle.flow_blocks.specs.Bits.{HasBit, AreRows}
use Rattle.flow_blocks.proofs.closing.direct_rows.Given as goal

abbrev pub invariant-loop-from : goal.invariant-loop-from
invariant-loop-from l = record {
  rows : AreRows l.count l.rows.items;
  bits : (a n : ℕ) → HasBit l.rows.items a n ↔ IsOneOf (take l.from-index l.uses) (a, n);
}

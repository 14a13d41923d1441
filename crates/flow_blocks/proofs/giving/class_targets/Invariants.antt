-- The uses so far.
use Rattle.std.proofs.Common.{◌≡◌, ℕ, ◌↔◌, take, length}
use Rattle.ar_base.specs.Lists.{IsOneOf}
use Rattle.flow_blocks.specs.Bits.{row_of}
use Rattle.flow_blocks.specs.Waits.{Crosses}
use Rattle.flow_blocks.proofs.giving.class_targets.Given as goal

abbrev pub invariant-loop-from : goal.invariant-loop-from
invariant-loop-from l = record {
  long : length l.lists.items ≡ l.count;
  targets : (e d : ℕ) → IsOneOf (row_of l.lists.items e) d ↔ Crosses (take l.from-index l.uses) l.class_of e d;
}

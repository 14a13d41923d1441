-- The classes found so far.
use Rattle.std.proofs.Common.{◌≡◌, ℕ, ◌≤◌, List, length}
use Rattle.flow_blocks.specs.Bits.{AreAllDependences}
use Rattle.flow_blocks.specs.Table.{members_of, IsPartTable}
use Rattle.flow_blocks.proofs.classing.classes.Given as goal

abbrev pub invariant-loop-number : goal.invariant-loop-number
invariant-loop-number l = record {
  long : length l.table.class_of.items ≡ l.count;
  few : length l.table.blocks.items ≤ l.number;
  table : (uses : List (ℕ × ℕ)) → AreAllDependences l.count uses l.rows
      → IsPartTable l.count 4294967295 uses l.number (members_of l.table.blocks.items) l.table.class_of.items;
}

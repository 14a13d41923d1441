-- The classes given so far, and what waits.
use Rattle.std.proofs.Common.{ℕ, List, [], ◌++◌, length}
use Rattle.flow_blocks.specs.Blocks.{Follow}
use Rattle.flow_blocks.specs.Table.{members_of}
use Rattle.flow_blocks.specs.Waits.{IsWaiting, AreGivenTogether, left_to_give}
use Rattle.flow_blocks.proofs.giving.in_order.Given as goal

abbrev pub invariant-loop-class : goal.invariant-loop-class
invariant-loop-class l = record {
  waits : IsWaiting (length (members_of l.table.blocks.items)) l.uses l.table.class_of.items l.waiting [];
  together : AreGivenTogether l.table.class_of.items l.waiting.given.items (members_of l.ordered.items);
  follow : (rest : List (List ℕ)) → Follow l.count l.uses (members_of l.ordered.items) rest
      → Follow l.count l.uses [] (members_of l.ordered.items ++ rest);
}

abbrev pub decreases-loop-class : goal.decreases-loop-class
decreases-loop-class l = left_to_give l.waiting.given.items

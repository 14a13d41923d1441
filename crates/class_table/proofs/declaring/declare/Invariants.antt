use Rattle.std.proofs.Common.{◌≤◌, length}
use Rattle.class_table.proofs.PartsLaid.{PartsOn}
use Rattle.class_table.proofs.declaring.declare.Given as goal

abbrev pub invariant-loop-item : goal.invariant-loop-item
invariant-loop-item l = record {
  parts : PartsOn l.fn.items.items l.item-iterator.rest.items l.item-iterator.rest.len l.bodies.items l.types.items
      l.symbols l.blocks.items;
  few : length l.bodies.items ≤ 16777216;
}

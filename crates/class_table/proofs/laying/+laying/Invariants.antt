use Rattle.std.proofs.Common.{◌≤◌, length}
use Rattle.class_table.proofs.Laid.{LayingOn}
use Rattle.class_table.proofs.laying.+laying.Given as goal

abbrev pub invariant-lay_unit-loop-member : goal.invariant-lay_unit-loop-member
invariant-lay_unit-loop-member l = record {
  laying : LayingOn l.fn.unit l.member-iterator.rest.items l.member-iterator.rest.len l.own.items l.fn.bodies.items
      l.bodies.items;
  few : length l.bodies.items ≤ 16777216;
}

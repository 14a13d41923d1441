use Rattle.std.proofs.Common.{◌≡◌, take, length}
use Rattle.flow_propagate.specs.Marks.{AreMarked}
use Rattle.flow_changes.specs.Gathering.{Sees, IsTargetOf}
use Rattle.flow_changes.proofs.cone.see_targets.Given as goal

abbrev pub invariant-loop-assign : goal.invariant-loop-assign
invariant-loop-assign l = record {
  long : length l.marks.items ≡ length l.initial.marks.items;
  marking : AreMarked l.marks.items l.found.items;
  sees : Sees (IsTargetOf l.parts (take l.assign-index l.pairs)) l.initial.marks.items l.initial.found.items
      l.marks.items l.found.items;
}

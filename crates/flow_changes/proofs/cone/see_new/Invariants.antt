use Rattle.std.proofs.Common.{◌≡◌, take, length}
use Rattle.flow_propagate.specs.NewValues.{IsRenewed}
use Rattle.flow_propagate.specs.Marks.{AreMarked}
use Rattle.flow_changes.specs.Gathering.{Sees}
use Rattle.flow_changes.proofs.cone.see_new.Given as goal

abbrev pub invariant-loop-variable : goal.invariant-loop-variable
invariant-loop-variable l = record {
  long : length l.marks.items ≡ length l.initial.marks.items;
  marking : AreMarked l.marks.items l.found.items;
  sees : Sees (IsRenewed (take l.variable-index l.new)) l.initial.marks.items l.initial.found.items l.marks.items
      l.found.items;
}

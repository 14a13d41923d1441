use Rattle.std.proofs.Common.{length}
use Rattle.flow_propagate.specs.Closing.{AddsWork}
use Rattle.flow_propagate.proofs.Worklists.{IsAmong}
use Rattle.flow_propagate.proofs.worklist.add_all.Given as goal

abbrev pub invariant-loop-assign : goal.invariant-loop-assign
invariant-loop-assign l = AddsWork (length l.initial.work.places.now) l.assign-index (IsAmong l.readers l.assign-index)
    l.initial.work l.work

use Rattle.std.proofs.Common.{take}
use Rattle.flow_changes.specs.Queue.{AddsPlaces, IsPairPlace}
use Rattle.flow_changes.proofs.queue.add_all.Given as goal

abbrev pub invariant-loop-assign : goal.invariant-loop-assign
invariant-loop-assign l = AddsPlaces l.assign-index (IsPairPlace l.places (take l.assign-index l.pairs)) l.initial.work
    l.work

use Rattle.std.proofs.Common.{◌≡◌, min, take}
use Rattle.gts_core.specs.Bound.{declared_from}
use Rattle.gts_flatten.specs.Bounds.{declared_nodes}
use Rattle.gts_flatten.proofs.fitting.events_nodes.Given as goal

abbrev pub invariant-loop-event : goal.invariant-loop-event
invariant-loop-event l = l.total ≡ min 1000001 (declared_nodes (take l.event-index (declared_from 0 l.events)))

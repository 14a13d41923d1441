use Rattle.std.proofs.Common.{◌≡◌, min, take}
use Rattle.gts_flatten.specs.Bounds.{observers_nodes}
use Rattle.gts_flatten.proofs.fitting.observer_nodes.Given as goal

abbrev pub invariant-loop-observer : goal.invariant-loop-observer
invariant-loop-observer l = l.total ≡ min 1000001 (observers_nodes (take l.observer-index l.observers))

use Rattle.std.proofs.Common.{◌≡◌, min, take, map}
use Rattle.gts_core.specs.Bound.{member_of}
use Rattle.gts_flatten.specs.Bounds.{members_nodes}
use Rattle.gts_flatten.proofs.fitting.ways_nodes.Given as goal

abbrev pub invariant-loop-way : goal.invariant-loop-way
invariant-loop-way l = l.total ≡ min 1000001 (members_nodes (map member_of (take l.way-index l.ways)))

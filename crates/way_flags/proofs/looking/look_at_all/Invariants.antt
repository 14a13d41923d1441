use Rattle.std.proofs.Common.{length}
use Rattle.way_flags.specs.Renewing.{AreFlagsSettled, AreTurned, AreLooked}
use Rattle.way_flags.proofs.Settling.{looks_left}
use Rattle.way_flags.proofs.looking.look_at_all.Given as goal

abbrev pub invariant-loop-place : goal.invariant-loop-place
invariant-loop-place l = AreFlagsSettled l.parts l.index.places.items l.values l.waiting l.can.items
    × AreTurned l.initial.can.items l.can.items l.ways.items
    × AreLooked l.parts l.index.places.items l.waiting l.ways.items

abbrev pub decreases-loop-place : goal.decreases-loop-place
decreases-loop-place l = looks_left (length l.index.order.items) l.waiting

use Rattle.std.proofs.Common.{◌+◌, ◌*◌}
use Rattle.way_flags.specs.Ways.{IsPlacing, KeepsMarks, ArePartsPlaced}
use Rattle.way_flags.proofs.order.+place.Given as goal

abbrev pub decreases-place : goal.decreases-place
decreases-place l = 2 * l.left

abbrev pub decreases-place_parts : goal.decreases-place_parts
decreases-place_parts l = 2 * l.left + 1

abbrev pub invariant-place_parts-loop-way : goal.invariant-place_parts-loop-way
invariant-place_parts-loop-way l =
    IsPlacing l.parts l.placing.order.items l.placing.placed.items
    × KeepsMarks l.initial.placing.placed.items l.placing.placed.items
    × ArePartsPlaced l.placing.placed.items l.ways l.way-index

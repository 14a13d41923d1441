use Rattle.way_flags.specs.Ways.{IsPlacing}
use Rattle.way_flags.proofs.order.place_each.Given as goal

abbrev pub invariant-loop-way : goal.invariant-loop-way
invariant-loop-way l = IsPlacing l.parts l.placing.order.items l.placing.placed.items

use Rattle.mode_search.specs.Events.{AreMoving}
use Rattle.mode_search.proofs.events.moving_units.Given as goal

abbrev pub invariant-loop-n : goal.invariant-loop-n
invariant-loop-n l = AreMoving l.parts l.marks l.n l.moving.items

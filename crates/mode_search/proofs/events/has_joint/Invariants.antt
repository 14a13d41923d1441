use Rattle.std.proofs.Common.{take}
use Rattle.ar_base.specs.Lists.{IsOneOf}
use Rattle.ar_base.specs.Numbers.{WayId}
use Rattle.mode_search.specs.Events.{IsJoint}
use Rattle.mode_search.proofs.events.has_joint.Given as goal

abbrev pub invariant-loop-way : goal.invariant-loop-way
invariant-loop-way l = (x : WayId) → IsOneOf (take l.way-index l.ways) x → IsJoint l.parts x.n → ⊥

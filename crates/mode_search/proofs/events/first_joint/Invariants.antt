use Rattle.std.proofs.Common.{◌<◌, ℕ}
use Rattle.ar_base.specs.Lists.{Stands}
use Rattle.gts_core.specs.declared.system.Event.{Event}
use Rattle.mode_search.specs.Events.{HasJoint}
use Rattle.mode_search.proofs.events.first_joint.Given as goal

abbrev pub invariant-loop-n : goal.invariant-loop-n
invariant-loop-n l = (k : ℕ) (x : Event) → k < l.n → Stands l.parts.events.items k x → HasJoint l.parts x.ways.items → ⊥

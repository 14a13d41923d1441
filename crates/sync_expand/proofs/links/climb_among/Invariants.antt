use Rattle.std.proofs.Common.{ℕ, ◌<◌, Bool}
use Rattle.ar_base.specs.Lists.{Stands}
use Rattle.ar_base.specs.NumbersInside.{EventId}
use Rattle.sync_expand.specs.Links.{Climbs}
use Rattle.sync_expand.proofs.links.climb_among.Given as goal

abbrev pub invariant-loop-part : goal.invariant-loop-part
invariant-loop-part l = (k : ℕ) (p : Bool × EventId) → k < l.part-index → Stands l.parts k p
    → Climbs l.ranks l.gap l.event.n p.1.n → ⊥

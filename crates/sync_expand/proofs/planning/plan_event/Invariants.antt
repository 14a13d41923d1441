use Rattle.std.proofs.Common.{length}
use Rattle.sync_expand.proofs.Adding.{EventSoFar}
use Rattle.sync_expand.proofs.planning.plan_event.Given as goal

abbrev pub invariant-loop-place : goal.invariant-loop-place
invariant-loop-place l = EventSoFar l.numbering.counts.items l.ways l.event.n (length l.initial.plan.items) l.place
    l.initial.plan.items l.plan.items

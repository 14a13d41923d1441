use Rattle.sync_expand.specs.Reached.{OpensEvents}
use Rattle.sync_expand.proofs.Walking.{IsBefore}
use Rattle.sync_expand.proofs.reach.meet_all.Given as goal

abbrev pub invariant-loop-event : goal.invariant-loop-event
invariant-loop-event l = OpensEvents (IsBefore l.parts l.event-index) l.initial.walk l.walk

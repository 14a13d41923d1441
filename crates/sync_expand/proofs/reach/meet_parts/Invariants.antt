use Rattle.sync_expand.specs.Reached.{OpensEvents}
use Rattle.sync_expand.proofs.Walking.{IsPartBefore}
use Rattle.sync_expand.proofs.reach.meet_parts.Given as goal

abbrev pub invariant-loop-way : goal.invariant-loop-way
invariant-loop-way l = OpensEvents (IsPartBefore l.ways l.way-index) l.initial.walk l.walk

use Rattle.flow_changes.specs.Following.{work_left}
use Rattle.flow_changes.proofs.Closings.{Closing}
use Rattle.flow_changes.proofs.closing.close.Given as goal

abbrev pub invariant-loop-place : goal.invariant-loop-place
invariant-loop-place l = Closing l.parts l.plan l.members l.initial.values.items l.initial.known.items l.values.items
    l.known.items l.work

abbrev pub decreases-loop-place : goal.decreases-loop-place
decreases-loop-place l = work_left l.plan l.known.items l.work

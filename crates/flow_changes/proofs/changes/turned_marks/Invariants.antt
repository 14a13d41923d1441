use Rattle.flow_changes.proofs.Found.{AreTurned}
use Rattle.flow_changes.proofs.changes.turned_marks.Given as goal

abbrev pub invariant-loop-place : goal.invariant-loop-place
invariant-loop-place l = AreTurned l.members l.place l.old_known l.known l.variables.items

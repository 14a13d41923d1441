use Rattle.flow_changes.proofs.Found.{AreFound}
use Rattle.flow_changes.proofs.changes.changed_values.Given as goal

abbrev pub invariant-loop-place : goal.invariant-loop-place
invariant-loop-place l = AreFound l.parts l.members l.place l.old l.values l.variables.items l.codes.items

use Rattle.flow_propagate.specs.Totals.{Completed}
use Rattle.flow_propagate.proofs.totals.completed.Given as goal

abbrev pub invariant-loop-place : goal.invariant-loop-place
invariant-loop-place l = Completed l.parts.variables.items l.values l.table.rows.items l.place l.total.items

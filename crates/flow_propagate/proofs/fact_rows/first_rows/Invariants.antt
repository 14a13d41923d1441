use Rattle.flow_propagate.specs.Rows.{Starts}
use Rattle.flow_propagate.proofs.fact_rows.first_rows.Given as goal

abbrev pub invariant-loop-place : goal.invariant-loop-place
invariant-loop-place l = Starts l.variables l.values l.place l.rows.items

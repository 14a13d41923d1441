use Rattle.flow_propagate.specs.Totals.{MarkKnownRows}
use Rattle.flow_propagate.proofs.totals.marks.Given as goal

abbrev pub invariant-loop-row : goal.invariant-loop-row
invariant-loop-row l = MarkKnownRows l.table.rows.items l.row-index l.marks.items

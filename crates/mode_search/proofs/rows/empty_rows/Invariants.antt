use Rattle.std.proofs.Common.{[]}
use Rattle.mode_search.specs.Rows.{AreVariableRows}
use Rattle.mode_search.proofs.rows.empty_rows.Given as goal

abbrev pub invariant-loop : goal.invariant-loop
invariant-loop l = AreVariableRows l.counter [] l.rows.items

use Rattle.std.proofs.Common.{take}
use Rattle.mode_search.specs.Rows.{AreVariableRows}
use Rattle.mode_search.proofs.rows.rows.Given as goal

abbrev pub invariant-loop-way : goal.invariant-loop-way
invariant-loop-way l = AreVariableRows l.count (take l.way-index l.kept) l.rows.items

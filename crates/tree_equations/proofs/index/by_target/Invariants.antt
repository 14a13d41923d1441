use Rattle.std.proofs.Common.{take}
use Rattle.tree_equations.specs.Index.{AreByTarget}
use Rattle.tree_equations.proofs.index.by_target.Given as goal

abbrev pub invariant-loop-k : goal.invariant-loop-k
invariant-loop-k l = AreByTarget l.count l.assigns (take l.k l.assigns) l.rows.items

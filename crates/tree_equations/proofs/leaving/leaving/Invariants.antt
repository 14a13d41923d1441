use Rattle.tree_equations.proofs.LeavingLemmas.{AllSoFar}
use Rattle.tree_equations.proofs.leaving.leaving.Given as goal

abbrev pub invariant-loop-n : goal.invariant-loop-n
invariant-loop-n l = AllSoFar l.parts l.n l.leaving.items

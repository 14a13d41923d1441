use Rattle.tree_equations.proofs.IndexLemmas.{FlowsSoFar}
use Rattle.tree_equations.proofs.index.flow_numbers.Given as goal

abbrev pub invariant-loop-n : goal.invariant-loop-n
invariant-loop-n l = FlowsSoFar l.variables l.n l.flows.items

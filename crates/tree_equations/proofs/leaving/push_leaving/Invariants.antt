use Rattle.ar_base.specs.Lists.{Stands}
use Rattle.gts_core.specs.declared.system.Variable.{Variable}
use Rattle.tree_equations.proofs.LeavingLemmas.{OneSoFar}
use Rattle.tree_equations.proofs.leaving.push_leaving.Given as goal

abbrev pub invariant-loop-k : goal.invariant-loop-k
invariant-loop-k l = (x : Variable) (at : Stands l.parts.variables.items l.flow x)
    → OneSoFar l.parts l.flow x at l.initial.leaving.items l.k-index l.leaving.items

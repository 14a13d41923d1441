use Rattle.std.proofs.Common.{take}
use Rattle.hierarchy.specs.declared.tree.VarNode.{VarNode}
use Rattle.bind_scopes.specs.Indexed.{TellsNodes}
use Rattle.bind_scopes.proofs.index.places_of_variables.Given as goal

abbrev pub invariant-loop-place : goal.invariant-loop-place
invariant-loop-place l = TellsNodes (λ (d : VarNode). d.node) (take l.place l.nodes) l.places

use Rattle.std.proofs.Common.{take}
use Rattle.hierarchy.specs.declared.tree.ParNode.{ParNode}
use Rattle.bind_scopes.specs.Indexed.{TellsNodes}
use Rattle.bind_scopes.proofs.index.places_of_parameters.Given as goal

abbrev pub invariant-loop-place : goal.invariant-loop-place
invariant-loop-place l = TellsNodes (λ (d : ParNode). d.node) (take l.place l.nodes) l.places

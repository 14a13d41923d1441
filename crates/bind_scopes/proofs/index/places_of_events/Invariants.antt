use Rattle.std.proofs.Common.{take}
use Rattle.hierarchy.specs.declared.tree.MemNode.{MemNode}
use Rattle.bind_scopes.specs.Indexed.{TellsNodes}
use Rattle.bind_scopes.proofs.index.places_of_events.Given as goal

abbrev pub invariant-loop-place : goal.invariant-loop-place
invariant-loop-place l = TellsNodes (λ (d : MemNode). d) (take l.place l.nodes) l.places

use Rattle.std.proofs.Common.{◌≡◌, false, nat_eq, take}
use Rattle.std.specs.List.{list_any}
use Rattle.zdd_nodes.specs.Nodes.{NodeId}
use Rattle.gate_diagrams.proofs.states.is_dead.Given as goal

-- none of the numbers so far is 0
abbrev pub invariant-loop-tree : goal.invariant-loop-tree
invariant-loop-tree l = list_any (λ (n : NodeId). nat_eq n.n 0) (take l.tree-index l.left) ≡ false

use Rattle.std.proofs.Common.{◌≡◌, map, take}
use Rattle.unit_walks.specs.declared.growing.Node.{Node}
use Rattle.unit_walks.proofs.growing.outlines_of.Given as goal

abbrev pub invariant-loop-node : goal.invariant-loop-node
invariant-loop-node l = l.outlines.items ≡ map (λ (n : Node). n.outline) (take l.node-index l.nodes)

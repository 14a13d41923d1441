use Rattle.std.proofs.Common.{map, ap, ◌∙◌, take_all}
use Rattle.unit_walks.specs.declared.growing.Node.{Node}
use Rattle.unit_walks.proofs.growing.outlines_of.Goals as goal

pub returns : goal.returns
returns c = c.loop-node.invariant ∙ ap (map (λ (n : Node). n.outline))
    (take_all c.loop-node.node-index c.args.nodes.now c.loop-node-test.false)

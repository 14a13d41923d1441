use Rattle.zdd_ops.proofs.Held.{IsSound-grow}
use Rattle.zdd_ops.proofs.ops.Ops.node.Goals as goal

pub invariant_of-self : goal.invariant_of-self
invariant_of-self c = (
  IsSound-grow _ c.self.inside.store c.node.new.self c.self.inside.memo c.node.ensures.drawn.grows
      c.self.invariant.0,
  c.node.ensures.sound,
)

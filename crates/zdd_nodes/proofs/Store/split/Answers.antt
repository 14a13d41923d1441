use Rattle.std.proofs.Common.{arith, ap, length}
use Rattle.zdd_nodes.proofs.Calls.{long_seen, sound_seen, split_at}
use Rattle.zdd_nodes.proofs.Store.split.Goals as goal

pub bounds-nodes-node : goal.bounds-nodes-node
bounds-nodes-node c = omega (
  arith,
  ap length c.as_slice-nodes.ensures.value,
  long_seen c.self.inside.nodes.items
      c.self.inside.limit c.args.self.now c.self.view_is,
  c.requires,
  c.if-node-lt2.false,
)

pub returns-clause-halves : goal.returns-clause-halves
returns-clause-halves c = split_at _ _ _ _ c.args.self.now c.args.node.n _ c.as_slice-nodes.ensures.value c.self.view_is
    c.self.invariant c.requires c.if-node-lt2.false

pub returns-clause-sound : goal.returns-clause-sound
returns-clause-sound c = sound_seen _ _ _ c.args.self.now c.self.view_is c.self.invariant

pub returns-then-node-lt2-clause-sound : goal.returns-then-node-lt2-clause-sound
returns-then-node-lt2-clause-sound c = sound_seen _ _ _ c.args.self.now c.self.view_is c.self.invariant

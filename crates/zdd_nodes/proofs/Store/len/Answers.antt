use Rattle.std.proofs.Common.{arith}
use Rattle.zdd_nodes.proofs.Calls.{long_seen, sound_seen}
use Rattle.zdd_nodes.proofs.Store.len.Goals as goal

pub returns-clause-len : goal.returns-clause-len
returns-clause-len c = omega (
  arith,
  long_seen c.self.inside.nodes.items c.self.inside.limit c.args.self.now
      c.self.view_is,
)

pub returns-clause-sound : goal.returns-clause-sound
returns-clause-sound c = sound_seen _ _ _ c.args.self.now c.self.view_is c.self.invariant

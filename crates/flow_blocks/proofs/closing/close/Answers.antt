-- Each turn keeps what holds.
use Rattle.flow_blocks.proofs.closing.close.Goals as goal

pub loop-alloc-preserved : goal.loop-alloc-preserved
loop-alloc-preserved c = record {
  rows = c.pass.ensures.rows;
  grows = λ a n h. c.pass.ensures.grows a n (c.join_at_all.ensures.grows a n (c.loop-alloc.invariant.grows a n h));
  sound = λ old. c.pass.ensures.sound (c.join_at_all.ensures.sound (c.loop-alloc.invariant.sound old));
}

pub returns-clause-sound : goal.returns-clause-sound
returns-clause-sound c = λ old. c.pass.ensures.sound (c.join_at_all.ensures.sound (c.loop-alloc.invariant.sound old))

use Rattle.std.proofs.Common.{arith}
use Rattle.module_text.proofs.Reaching.{longer}
use Rattle.module_text.proofs.spans.with_event.Goals as goal

pub returns : goal.returns
returns c = longer c.args.event c.args.range c.requires.next (let h = c.if-range.false in omega (arith, h))

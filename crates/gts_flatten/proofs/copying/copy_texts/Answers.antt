use Rattle.std.proofs.Common.{arith}
use Rattle.gts_flatten.proofs.Rows.{same_next, same_end}
use Rattle.gts_flatten.proofs.copying.copy_texts.Goals as goal

pub loop-text-preserved : goal.loop-text-preserved
loop-text-preserved c =
    same_next c.args.texts.now c.loop-text.text-index c.text-item.result c.in_ok-copy.copy c.loop-text.copies.items
    c.push.new.self.items c.loop-text-test.true c.text-item.is
    c.loop-text.invariant c.in_ok-copy.ensures c.in_ok-push.ensures.items

pub returns : goal.returns
returns c = same_end c.args.texts.now c.loop-text.text-index c.loop-text.copies.items
    (omega (arith, c.loop-text-test.false)) c.loop-text.invariant

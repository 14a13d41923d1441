use Rattle.aralia_text.proofs.Interning.{interned}
use Rattle.aralia_text.proofs.reading.names_of.Goals as goal

pub loop-text-preserved : goal.loop-text-preserved
loop-text-preserved c =
    interned c.args.events.now _ _ _ c.text-item.result c.loop-text.text-index c.requires.different
    c.loop-text-test.true c.text-item.is c.as_str.ensures c.loop-text.invariant
    c.in_ok-intern.ensures.texts

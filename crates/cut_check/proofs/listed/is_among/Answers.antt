use Rattle.ar_base.specs.NumbersInside.{EventId}
use Rattle.cut_check.proofs.ListedLemmas.{numbers_more, not_more}
use Rattle.cut_check.proofs.listed.is_among.Goals as goal

-- what is read past the end
abbrev none : EventId
none = record { n = 0; of = record {} }

pub loop-other-preserved : goal.loop-other-preserved
loop-other-preserved c = not_more _ _ _ c.args.event
    (numbers_more c.args.cut.now c.loop-other.other-index none c.loop-other-test.true) c.if-other-event.false
    c.loop-other.invariant

use Rattle.ar_base.specs.NumbersInside.{EventId}
use Rattle.cut_check.proofs.ListedLemmas.{numbers_more, within_more}
use Rattle.cut_check.proofs.listed.has_all.Goals as goal

-- what is read past the end
abbrev none : EventId
none = record { n = 0; of = record {} }

pub loop-event-preserved : goal.loop-event-preserved
loop-event-preserved c = within_more _ _ _ _
    (numbers_more c.args.cut.now c.loop-event.event-index none c.loop-event-test.true) c.if-not-has_event.ensures
    c.loop-event.invariant

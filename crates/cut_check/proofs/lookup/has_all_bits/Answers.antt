use Rattle.std.proofs.Common.{refl}
use Rattle.ar_base.specs.NumbersInside.{EventId}
use Rattle.cut_check.proofs.LookupLemmas.{bits_more}
use Rattle.cut_check.proofs.lookup.has_all_bits.Goals as goal

-- what is read past the end
abbrev none : EventId
none = record { n = 0; of = record {} }

pub loop-event-preserved : goal.loop-event-preserved
loop-event-preserved c = bits_more c.args.row.now c.args.events.now c.loop-event.event-index none
    c.loop-event-test.true (c.if-not-has.ensures.0 refl) c.loop-event.invariant

use Rattle.mode_search.proofs.Marking.{marks_more}
use Rattle.mode_search.proofs.events.marked.Goals as goal

pub loop-event-preserved : goal.loop-event-preserved
loop-event-preserved c = marks_more c.args.count c.args.dropped.now c.loop-event.event-index _ c.loop-event.marks.items
    c.mark.new.marks.items c.loop-event-test.true c.loop-event.invariant c.mark.ensures

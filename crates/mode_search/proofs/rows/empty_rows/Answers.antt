use Rattle.mode_search.proofs.Sorting.{rows_none, rows_push}
use Rattle.mode_search.proofs.rows.empty_rows.Goals as goal

pub loop-init : goal.loop-init
loop-init c = rows_none c.new-rows.result.items c.new-rows.ensures.items

pub loop-preserved : goal.loop-preserved
loop-preserved c = rows_push c.loop.counter c.loop.rows.items c.new.result c.push.new.self.items c.loop.invariant
    c.new.ensures.items c.in_ok-push.ensures.items

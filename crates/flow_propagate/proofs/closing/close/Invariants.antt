use Rattle.std.proofs.Common.{length}
use Rattle.gts_core.specs.View.{net_of}
use Rattle.flow_propagate.specs.Table.{Moves}
use Rattle.flow_propagate.specs.Closing.{IsWorklist, IsWorkSettled, IsFounded, IsHeard, closing_work_left}
use Rattle.flow_propagate.proofs.closing.close.Given as goal

abbrev pub invariant-loop-n : goal.invariant-loop-n
invariant-loop-n l = Moves (net_of l.parts) l.initial.table.rows.items l.table.rows.items
    × IsWorklist (length l.parts.assigns.items) l.work × IsWorkSettled l.parts l.table.rows.items l.work
    × IsFounded l.parts l.table.rows.items l.outside × IsHeard l.parts l.table.rows.items l.outside l.work

abbrev pub decreases-loop-n : goal.decreases-loop-n
decreases-loop-n l = closing_work_left l.parts (length l.readers.pairs.items) l.table.rows.items l.work

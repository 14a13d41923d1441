use Rattle.std.proofs.Common.{take}
use Rattle.flow_changes.specs.Picking.{AreSet}
use Rattle.flow_changes.proofs.picking.set_all.Given as goal

abbrev pub invariant-loop-n : goal.invariant-loop-n
invariant-loop-n l = AreSet l.mark (take l.n-index l.numbers) l.initial.marks.items l.marks.items

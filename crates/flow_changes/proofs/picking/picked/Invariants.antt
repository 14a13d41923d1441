use Rattle.std.proofs.Common.{take}
use Rattle.flow_changes.specs.Picking.{ArePicked}
use Rattle.flow_changes.proofs.picking.picked.Given as goal

abbrev pub invariant-loop-n : goal.invariant-loop-n
invariant-loop-n g l = ArePicked (take l.n-index l.numbers) l.all l.items.items

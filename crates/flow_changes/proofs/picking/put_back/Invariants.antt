use Rattle.std.proofs.Common.{◌≡◌, List, drop, length}
use Rattle.flow_changes.specs.Picking.{KeepsOthers, ArePicked}
use Rattle.flow_changes.proofs.picking.put_back.Given as goal

abbrev pub invariant-loop-place : goal.invariant-loop-place
invariant-loop-place g l = (length l.all.items ≡ length l.initial.all.items)
    × ((was : List g.row.T.Denot) → ArePicked l.numbers was l.items → KeepsOthers l.numbers was l.initial.all.items
    → KeepsOthers (drop l.place l.numbers) was l.all.items)

use Rattle.std.proofs.Common.{◌≡◌, ◌+◌, ◌≤◌, drop}
use Rattle.sync_expand.specs.Reached.{marked}
use Rattle.sync_expand.proofs.reach.number_marked.Given as goal

abbrev pub invariant-loop-mark : goal.invariant-loop-mark
invariant-loop-mark l = (l.number ≤ l.mark-index) × (l.number + marked (drop l.mark-index l.marks) ≡ marked l.marks)

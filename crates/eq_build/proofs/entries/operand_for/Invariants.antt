use Rattle.std.proofs.Common.{◌≡◌, drop}
use Rattle.eq_build.specs.Entries.{operand_for}
use Rattle.eq_build.specs.Views.{entries_in}
use Rattle.eq_build.proofs.entries.operand_for.Given as goal

abbrev pub invariant-loop-entry : goal.invariant-loop-entry
invariant-loop-entry l =
    operand_for (entries_in (drop l.entry-index l.entries)) l.value ≡ operand_for (entries_in l.entries) l.value

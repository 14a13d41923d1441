use Rattle.std.proofs.Common.{◌≡◌, ◌++◌, drop}
use Rattle.eq_build.specs.Entries.{each_for}
use Rattle.eq_build.specs.Views.{operands_in, lists_in}
use Rattle.eq_build.proofs.forms.each_for.Given as goal

abbrev pub invariant-loop-entries : goal.invariant-loop-entries
invariant-loop-entries l =
    operands_in l.each.items ++ each_for l.value (lists_in (drop l.entries-index l.operands))
    ≡ each_for l.value (lists_in l.operands)

use Rattle.std.proofs.Common.{◌≡◌, drop}
use Rattle.eq_core.specs.Views.{operand_of}
use Rattle.eq_build.specs.Entries.{with_terms, behind}
use Rattle.eq_build.specs.Views.{entries_in}
use Rattle.eq_build.proofs.forms.put_behind.Given as goal

abbrev pub invariant-loop-entry : goal.invariant-loop-entry
invariant-loop-entry l =
    with_terms (behind (operand_of l.operand) (entries_in (drop l.entry-index l.entries))) l.groups
    ≡ with_terms (behind (operand_of l.operand) (entries_in l.entries)) l.initial.groups

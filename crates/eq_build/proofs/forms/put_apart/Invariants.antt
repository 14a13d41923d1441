use Rattle.std.proofs.Common.{◌≡◌, drop}
use Rattle.eq_build.specs.Entries.{with_terms, apart, each_for}
use Rattle.eq_build.specs.Views.{lists_in}
use Rattle.eq_build.proofs.forms.put_apart.Given as goal

abbrev pub invariant-loop-entries : goal.invariant-loop-entries
invariant-loop-entries l =
    with_terms (apart l.value (each_for l.value (lists_in (drop l.entries-index l.operands)))) l.groups
    ≡ with_terms (apart l.value (each_for l.value (lists_in l.operands))) l.initial.groups

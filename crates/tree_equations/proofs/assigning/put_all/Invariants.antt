use Rattle.std.proofs.Common.{◌≡◌, drop}
use Rattle.eq_build.specs.Entries.{with_terms}
use Rattle.eq_build.specs.Views.{entries_in}
use Rattle.eq_build.specs.Steps.{as_terms}
use Rattle.tree_equations.proofs.assigning.put_all.Given as goal

abbrev pub invariant-loop-entry : goal.invariant-loop-entry
invariant-loop-entry l =
    with_terms (as_terms (entries_in (drop l.entry-index l.entries))) l.groups
    ≡ with_terms (as_terms (entries_in l.entries)) l.initial.groups

use Rattle.std.proofs.Common.{◌≡◌, drop, []}
use Rattle.domains.specs.Domains.{values_of}
use Rattle.eq_build.specs.Entries.{with_terms}
use Rattle.eq_build.specs.Views.{entries_in}
use Rattle.eq_build.specs.Steps.{given_terms}
use Rattle.tree_equations.specs.Answers.{signs_in, row_in}
use Rattle.tree_equations.proofs.assigning.given_groups.Given as goal

abbrev pub invariant-loop-entry : goal.invariant-loop-entry
invariant-loop-entry l =
    with_terms (given_terms (values_of l.domain) (signs_in l.assigned.conditions)
    (entries_in (drop l.entry-index l.assigned.entries.items))) l.groups
    ≡ with_terms (given_terms (values_of l.domain) (signs_in l.assigned.conditions) (row_in l.assigned.entries)) []

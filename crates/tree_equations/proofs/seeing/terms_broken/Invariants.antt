use Rattle.std.proofs.Common.{◌≡◌, ◌++◌, drop}
use Rattle.eq_build.specs.Views.{entries_in, terms_in}
use Rattle.eq_build.specs.Steps.{broken_terms}
use Rattle.tree_equations.specs.Answers.{signs_in, row_in}
use Rattle.tree_equations.proofs.seeing.terms_broken.Given as goal

abbrev pub invariant-loop-entry : goal.invariant-loop-entry
invariant-loop-entry l =
    broken_terms (signs_in l.assigned.conditions) (row_in l.assigned.entries) (entries_in l.row)
    ≡ terms_in l.terms.items ++ broken_terms (signs_in l.assigned.conditions)
    (entries_in (drop l.entry-index l.assigned.entries.items)) (entries_in l.row)

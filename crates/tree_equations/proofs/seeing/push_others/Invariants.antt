use Rattle.std.proofs.Common.{◌≡◌, ◌++◌, drop}
use Rattle.eq_build.specs.Views.{entry_of, entries_in, operands_in, terms_in}
use Rattle.eq_build.specs.Steps.{others_with}
use Rattle.tree_equations.proofs.seeing.push_others.Given as goal

abbrev pub invariant-loop-other : goal.invariant-loop-other
invariant-loop-other l =
    terms_in l.terms.items ++ others_with (operands_in l.conditions) (entry_of l.entry)
    (entries_in (drop l.other-index l.others))
    ≡ terms_in l.initial.terms.items ++ others_with (operands_in l.conditions) (entry_of l.entry) (entries_in l.others)

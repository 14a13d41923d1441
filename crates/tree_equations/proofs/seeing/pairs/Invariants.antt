use Rattle.std.proofs.Common.{◌≡◌, ◌++◌, drop}
use Rattle.eq_build.specs.Views.{entries_in, terms_in}
use Rattle.eq_build.specs.Steps.{pairs_in}
use Rattle.tree_equations.proofs.seeing.pairs.Given as goal

abbrev pub invariant-loop-n : goal.invariant-loop-n
invariant-loop-n l =
    pairs_in (entries_in l.entries) ≡ terms_in l.terms.items ++ pairs_in (entries_in (drop l.n l.entries))

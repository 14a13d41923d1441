use Rattle.std.proofs.Common.{◌≡◌, drop, []}
use Rattle.eq_build.specs.Entries.{with_terms}
use Rattle.eq_build.specs.Views.{lists_in}
use Rattle.eq_build.specs.Steps.{together}
use Rattle.tree_equations.proofs.assigning.together.Given as goal

abbrev pub invariant-loop-list : goal.invariant-loop-list
invariant-loop-list l =
    with_terms (together (lists_in (drop l.list-index l.lists))) l.groups ≡ with_terms (together (lists_in l.lists)) []

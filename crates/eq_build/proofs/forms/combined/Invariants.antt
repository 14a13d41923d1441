use Rattle.std.proofs.Common.{◌≡◌, drop}
use Rattle.eq_build.specs.Entries.{with_terms, pairs_of}
use Rattle.eq_build.specs.Views.{entries_in}
use Rattle.eq_build.proofs.forms.combined.Given as goal

abbrev pub invariant-loop-a : goal.invariant-loop-a
invariant-loop-a l =
    with_terms (pairs_of l.step (entries_in (drop l.a-index l.left)) (entries_in l.right)) l.groups
    ≡ with_terms (pairs_of l.step (entries_in l.left) (entries_in l.right)) l.initial.groups

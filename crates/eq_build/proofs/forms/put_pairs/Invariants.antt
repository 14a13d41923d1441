use Rattle.std.proofs.Common.{◌≡◌, map, drop}
use Rattle.eq_build.specs.Entries.{with_terms, pair_term}
use Rattle.eq_build.specs.Views.{entry_of, entries_in}
use Rattle.eq_build.proofs.forms.put_pairs.Given as goal

abbrev pub invariant-loop-b : goal.invariant-loop-b
invariant-loop-b l =
    with_terms (map (pair_term l.step (entry_of l.a)) (entries_in (drop l.b-index l.right))) l.groups
    ≡ with_terms (map (pair_term l.step (entry_of l.a)) (entries_in l.right)) l.initial.groups

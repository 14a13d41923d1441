use Rattle.typed_expr.specs.Sets.{HasExactly}
use Rattle.typed_expr.proofs.Gathering.{ResultsTo}
use Rattle.typed_expr.proofs.sets.add_results.Given as goal

abbrev pub invariant-loop-n : goal.invariant-loop-n
invariant-loop-n l = HasExactly l.all.items (ResultsTo l.step l.first l.numbers l.v l.initial.all.items l.n-index)

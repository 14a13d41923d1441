use Rattle.std.proofs.Common.{take}
use Rattle.typed_expr.specs.Evaluating.{IsNextOperand}
use Rattle.typed_expr.specs.Sets.{HasExactly}
use Rattle.typed_expr.proofs.sets.results.Given as goal

abbrev pub invariant-loop-v : goal.invariant-loop-v
invariant-loop-v l = HasExactly l.all.items (IsNextOperand l.step l.first l.numbers (take l.v-index l.values))

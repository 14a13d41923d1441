use Rattle.std.proofs.Common.{◌≡◌, take, map}
use Rattle.ar_base.specs.Numbers.{VarId}
use Rattle.way_flags.proofs.waiting.numbers_of.Given as goal

abbrev pub invariant-loop-variable : goal.invariant-loop-variable
invariant-loop-variable l = l.numbers.items ≡ map (λ (x : VarId). x.n) (take l.variable-index l.variables)

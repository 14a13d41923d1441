use Rattle.std.proofs.Common.{◌<◌, ℕ}
use Rattle.ar_base.specs.Lists.{Stands}
use Rattle.job_inputs.proofs.values.symbol.Given as goal

-- no symbol up to here has the name
abbrev pub invariant-loop-place : goal.invariant-loop-place
invariant-loop-place l = (n : ℕ) → n < l.place → Stands l.symbols n l.word → ⊥

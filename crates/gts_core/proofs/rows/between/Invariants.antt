use Rattle.std.proofs.Common.{◌≡◌, map, pos, ◌+ℤ◌}
use Rattle.std.specs.List.{range_with_len}
use Rattle.domains.specs.declared.Value.TheVariants.{Whole}
use Rattle.gts_core.proofs.rows.between.Given as goal

abbrev pub invariant-loop-k : goal.invariant-loop-k
invariant-loop-k l = l.found.items ≡ map (λ k. Whole (l.low +ℤ pos k)) (range_with_len 0 l.k)

use Rattle.std.proofs.Common.{ℕ, ◌<◌}
use Rattle.ar_base.specs.Lists.{Stands}
use Rattle.ar_base.specs.Numbers.{BodyId}
use Rattle.class_table.specs.Main.{IsNamedBlock}
use Rattle.class_table.proofs.main_block.block_named.Given as goal

abbrev pub invariant-loop-block : goal.invariant-loop-block
invariant-loop-block l = (k : ℕ) (b : BodyId) → k < l.block-index → Stands l.blocks k b
    → IsNamedBlock l.bodies l.name.n b → ⊥

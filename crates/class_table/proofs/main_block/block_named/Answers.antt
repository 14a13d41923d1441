use Rattle.std.proofs.Common.{arith, ◌<◌, length}
use Rattle.ar_base.specs.Numbers.{BodyId}
use Rattle.ar_base.proofs.Standing.{stands_get, stands_within, one_here}
use Rattle.class_table.specs.Main.{IsNamedBlock}
use Rattle.class_table.proofs.Taken.{below_next}
use Rattle.class_table.proofs.main_block.block_named.Goals as goal

pub returns-then-is_named-clause-some : goal.returns-then-is_named-clause-some
returns-then-is_named-clause-some c =
    let l : c.loop-block.block-index < length c.args.blocks.now = omega arith in (
      one_here c.args.blocks.now c.loop-block.block-index _ (stands_get c.args.blocks.now c.loop-block.block-index _ l),
      c.is_named.ensures.0 c.if-is_named.true,
    )

pub loop-block-preserved : goal.loop-block-preserved
loop-block-preserved c =
    let l : c.loop-block.block-index < length c.args.blocks.now = omega arith in
    below_next c.args.blocks.now (λ (b : BodyId). IsNamedBlock c.args.bodies.now c.args.name.n b → ⊥) _ _
    (stands_get c.args.blocks.now c.loop-block.block-index _ l) c.loop-block.invariant
    (λ h. let e = c.is_named.ensures.1 h in let f = c.if-is_named.false in cc)

pub returns-clause-none : goal.returns-clause-none
returns-clause-none c = record { has_not = λ k b s h. let l = stands_within _ k b s in c.loop-block.invariant k b (omega arith) s h }

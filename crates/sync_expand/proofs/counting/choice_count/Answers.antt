use Rattle.std.proofs.Common.{arith, sym, ◌∙◌, ap, min, ℕ}
use Rattle.ar_base.proofs.Standing.{stands_get}
use Rattle.sync_expand.proofs.Capping.{choice_step}
use Rattle.sync_expand.proofs.counting.choice_count.Goals as goal

pub loop-event-preserved : goal.loop-event-preserved
loop-event-preserved c = (
  omega arith,
  (let s = stands_get c.args.parts.now c.loop-event.event-index _ c.loop-event-test.true in
      choice_step c.args.counts.now c.args.parts.now c.loop-event.event-index _ c.number_at-count.result
      c.loop-event.product c.min-product.result _ s (sym c.number_at-count.ensures)
      (c.min-product.ensures ∙ ap (λ (n : ℕ). min n 257) c.saturating_mul.ensures) c.loop-event.invariant.1),
)

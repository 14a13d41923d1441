use Rattle.std.proofs.Common.{arith}
use Rattle.ar_base.specs.Stages.{fits, passes_it}
use Rattle.ar_base.proofs.Standing.{one_here}
use Rattle.sync_expand.proofs.Placed.{item_stands}
use Rattle.sync_expand.proofs.DeclaredLemmas.{declared_stands}
use Rattle.sync_expand.proofs.Totals.{all_next, all_end}
use Rattle.sync_expand.proofs.counting.fit_parts.Goals as goal

pub loop-declared-preserved : goal.loop-declared-preserved
loop-declared-preserved c = (
  omega arith,
  λ few.
      let s = item_stands c.args.events.now c.loop-declared.declared-index c.declared-item.result (omega arith)
      c.declared-item.is in
      let d = declared_stands 0 c.args.events.now c.loop-declared.declared-index c.declared-item.result s in
      let n = (rw c.deref.ensures.value at c.part_count-more.ensures)
      (few.few _ (one_here _ c.loop-declared.declared-index _ d)) in
      let a = all_next c.args.counts.now c.args.events.now c.loop-declared.declared-index c.declared-item.result s in
      let i = c.loop-declared.invariant.1 few in
      omega (arith, a, i, n),
)

pub returns-then-total-ge-TOO_MANY_PARTS : goal.returns-then-total-ge-TOO_MANY_PARTS
returns-then-total-ge-TOO_MANY_PARTS c = λ few.
    let i = c.loop-declared.invariant.1 few in
    let e = all_end c.args.counts.now c.args.events.now c.loop-declared.declared-index (omega arith) in
    passes_it (omega (arith, i, e, c.if-total-ge-TOO_MANY_PARTS.true))

pub returns : goal.returns
returns c = λ few.
    let i = c.loop-declared.invariant.1 few in
    let e = all_end c.args.counts.now c.args.events.now c.loop-declared.declared-index (omega arith) in
    (c.args.counts.now, fits (omega (arith, i, e, c.if-total-ge-TOO_MANY_PARTS.false)), tt)

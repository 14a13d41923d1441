use Rattle.std.proofs.Common.{◌<◌, ◌∙◌, ◌∷◌, [], Bool, List, length, ap, sym, subst, arith, length-append}
use Rattle.ar_base.specs.Lists.{Stands}
use Rattle.ar_base.proofs.Standing.{stands_one}
use Rattle.gts_core.specs.View.{numbered}
use Rattle.gts_core.specs.declared.system.GtsParts.{GtsParts}
use Rattle.gts_core.specs.declared.system.Observer.{Observer}
use Rattle.text_pieces.proofs.Ways.{read_stands}
use Rattle.cut_check.specs.Flat.{flat_event_numbers, chain_lines}
use Rattle.cut_check.specs.Rows.{AreLineRows, HaveBits, AreWide}
use Rattle.cut_check.specs.Truths.{AreTruths}
use Rattle.cut_check.specs.declared.rows.Row.{Row}
use Rattle.cut_check.proofs.HoldLemmas.{verdicts_more}
use Rattle.cut_check.proofs.RowLemmas.{have_bits, are_wide, rows_are}
use Rattle.cut_check.proofs.checking.verdicts.Goals as goal

pub true_lines-requires-clause-rows : goal.true_lines-requires-clause-rows
true_lines-requires-clause-rows c =
    let rows = rows_are c.args.gts.now c.parts-parts.result.now (flat_event_numbers c.args.dropped.now) c.args.chains.now
    c.in_ok-allowed.allowed.items c.deref.result.now c.in_ok-rows.rows.items c.parts-parts.ensures.parts
    c.deref.ensures.value c.in_ok-allowed.ensures c.in_ok-rows.ensures in
    ap length c.deref-2.ensures.value ∙ rows.long

pub verdict_of-requires-clause-rows : goal.verdict_of-requires-clause-rows
verdict_of-requires-clause-rows c =
    let rows = rows_are c.args.gts.now c.parts-parts.result.now (flat_event_numbers c.args.dropped.now) c.args.chains.now
    c.in_ok-allowed.allowed.items c.deref.result.now c.in_ok-rows.rows.items c.parts-parts.ensures.parts
    c.deref.ensures.value c.in_ok-allowed.ensures c.in_ok-rows.ensures in
    ap length c.deref-in-loop-n.ensures.value ∙ rows.long

pub verdict_of-requires-clause-wide : goal.verdict_of-requires-clause-wide
verdict_of-requires-clause-wide c =
    let p = c.args.gts.now in
    let ds = flat_event_numbers c.args.dropped.now in
    let rows = rows_are p c.parts-parts.result.now ds c.args.chains.now c.in_ok-allowed.allowed.items c.deref.result.now
    c.in_ok-rows.rows.items c.parts-parts.ensures.parts c.deref.ensures.value c.in_ok-allowed.ensures
    c.in_ok-rows.ensures in
    subst (λ (z : List Row). AreWide z) (sym c.deref-in-loop-n.ensures.value)
    (are_wide p ds c.args.chains.now c.in_ok-rows.rows.items rows)

pub loop-n-preserved : goal.loop-n-preserved
loop-n-preserved c =
    let p = c.args.gts.now in
    let q = c.parts-parts.result.now in
    let ds = flat_event_numbers c.args.dropped.now in
    let chains = c.args.chains.now in
    let lines = chain_lines p chains in
    let rows = rows_are p q ds chains c.in_ok-allowed.allowed.items c.deref.result.now c.in_ok-rows.rows.items
    c.parts-parts.ensures.parts c.deref.ensures.value c.in_ok-allowed.ensures c.in_ok-rows.ensures in
    let have = subst (λ (z : List Row). HaveBits lines z) (sym c.deref-in-loop-n.ensures.value)
    (have_bits p ds chains c.in_ok-rows.rows.items rows) in
    let own = subst (λ (z : List Row). AreLineRows p ds chains z) (sym c.deref-2.ensures.value) rows in
    record {
      long = omega (
        arith,
        ap length c.in_ok-push.ensures.items,
        length-append c.loop-n.all.items
            (c.verdict_of.result ∷ []),
        c.loop-n.invariant.long,
      );
      each = λ system views o s.
          let t = read_stands q.observers.items c.args.observer c.index-observer.result.now
          (subst (λ (z : GtsParts). c.args.observer < length z.observers.items)
          (sym c.parts-parts.ensures.parts) c.requires.observer) c.index-observer.ensures in
          let same = stands_one p.observers.items c.args.observer c.index-observer.result.now o
          (subst (λ (z : GtsParts). Stands z.observers.items c.args.observer c.index-observer.result.now)
          c.parts-parts.ensures.parts t) s in
          let truth = subst (λ (z : Observer). AreTruths system ds (numbered z.value) c.args.wanted lines
          c.in_ok-truths.truths.items) same (c.in_ok-truths.ensures.truths system views ds own) in
          let its = subst (λ (z : List Bool). AreTruths system ds (numbered o.value) c.args.wanted lines z)
          (sym c.deref-in-loop-n-2.ensures.value) truth in
          verdicts_more system ds (numbered o.value) c.args.wanted lines chains c.loop-n.all.items _ c.verdict_of.result
          c.loop-n.n c.in_ok-push.ensures.items c.loop-n.invariant.long
          (c.verdict_of.ensures system ds (numbered o.value) c.args.wanted lines have its)
          (c.loop-n.invariant.each system views o s);
    }

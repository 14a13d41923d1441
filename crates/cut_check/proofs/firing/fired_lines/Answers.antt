use Rattle.std.proofs.Common.{◌∙◌, ◌∷◌, [], List, get_or, length, ap, sym, subst, arith, length-append}
use Rattle.ar_base.specs.Numbers.{WayId}
use Rattle.ar_base.proofs.Standing.{stands_get, stands_item}
use Rattle.gts_core.specs.View.{numbered}
use Rattle.job_inputs.specs.Chains.{chain_labels}
use Rattle.job_inputs.specs.CutReads.{AreKnownWays}
use Rattle.cut_check.specs.Flat.{chain_lines}
use Rattle.cut_check.proofs.RowLemmas.{chain_known}
use Rattle.cut_check.proofs.TruthLemmas.{fired_at_start, truths_none, truths_more, line_stands, row_fit}
use Rattle.cut_check.proofs.firing.fired_lines.Goals as goal

pub loop-n-init : goal.loop-n-init
loop-n-init c = record {
  system = c.requires.same;
  long = ap length c.new-truths.ensures.items;
  fired = λ system views dropped rows. fired_at_start c.args.gts.now system dropped views _ c.args.stepper
      c.new-fired.ensures.items c.requires.starts c.requires.no_step;
  truths = λ system views dropped rows. truths_none system dropped (numbered c.args.observer.now.value) c.args.wanted
      (chain_lines c.args.gts.now c.args.chains.now) _ c.new-truths.ensures.items;
}

pub is_true-requires-clause-known : goal.is_true-requires-clause-known
is_true-requires-clause-known c =
    let p = c.args.gts.now in
    let chains = c.args.chains.now in
    let n = c.loop-n.n in
    let d = c.index-chains-n.result in
    subst (λ (z : List WayId). AreKnownWays p z) (sym c.deref.ensures.value)
    (chain_known p chains n d c.requires.known (stands_item chains n d c.loop-n-test.true c.index-chains-n.is))

pub loop-n-preserved : goal.loop-n-preserved
loop-n-preserved c =
    let p = c.args.gts.now in
    let chains = c.args.chains.now in
    let rows = c.args.rows.now in
    let n = c.loop-n.n in
    let d = c.index-chains-n.result in
    let r = get_or rows n c.index-rows-n.result in
    let at_d = stands_item chains n d c.loop-n-test.true c.index-chains-n.is in
    let at_r = stands_get rows n c.index-rows-n.result (omega (arith, c.loop-n-test.true, c.requires.rows)) in
    record {
      system = c.in_ok-is.ensures.system ∙ c.loop-n.invariant.system;
      long = omega (
        arith,
        ap length c.in_ok-push.ensures.items,
        length-append c.loop-n.truths.items
            (c.in_ok-is.is' ∷ []),
        c.loop-n.invariant.long,
      );
      fired = λ system views dropped are.
          c.in_ok-is.ensures.fired system views dropped
          (row_fit p dropped chains rows n d r c.deref.result.now are at_d at_r c.deref.ensures.value)
          (c.loop-n.invariant.fired system views dropped are);
      truths = λ system views dropped are.
          truths_more system dropped (numbered c.args.observer.now.value) c.args.wanted (chain_lines p chains)
          c.loop-n.truths.items _ c.in_ok-is.is' (chain_labels p c.deref.result.now) c.in_ok-push.ensures.items
          (line_stands p chains n (length c.loop-n.truths.items) d c.deref.result.now at_d c.deref.ensures.value
          c.loop-n.invariant.long)
          (c.in_ok-is.ensures.answer system views dropped
          (row_fit p dropped chains rows n d r c.deref.result.now are at_d at_r c.deref.ensures.value)
          (c.loop-n.invariant.fired system views dropped are))
          (c.loop-n.invariant.truths system views dropped are);
    }

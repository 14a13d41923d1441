use Rattle.std.proofs.Common.{◌<◌, ◌-◌, get_or, length, sym, subst, arith}
use Rattle.ar_base.proofs.Truths.{not_both}
use Rattle.ar_base.proofs.Standing.{stands_get}
use Rattle.unit_rules.specs.ToTest.{NoneBeforeFrom}
use Rattle.unit_rules.proofs.ToTest.{none_behind, behind_next}
use Rattle.unit_rules.proofs.left.count_before.Goals as goal

pub loop-count-init : goal.loop-count-init
loop-count-init c = (omega arith, none_behind c.args.settings.now _)

pub loop-count-preserved : goal.loop-count-preserved
loop-count-preserved c =
    let l : c.loop-count.count - 1 < length c.args.settings.now = omega (arith, c.loop-count.invariant.0, c.loop-count-test.true) in
    let x = get_or c.args.settings.now (c.loop-count.count - 1) c.index-settings-count.result in
    let s = stands_get c.args.settings.now (c.loop-count.count - 1) c.index-settings-count.result l in (
      omega (arith, c.loop-count.invariant.0),
      behind_next c.args.settings.now c.loop-count.count x c.in-Some.place c.loop-count-test.true s
          (λ e. not_both _ c.if-not-is_before.true (c.is_before.ensures.1 e)) c.loop-count.invariant.1,
    )

pub returns-else-not-is_before : goal.returns-else-not-is_before
returns-else-not-is_before c = subst (NoneBeforeFrom c.args.settings.now c.loop-count.count) (sym c.in-Some.is) c.loop-count.invariant.1

pub returns-after-loop-count : goal.returns-after-loop-count
returns-after-loop-count c = subst (NoneBeforeFrom c.args.settings.now c.loop-count.count) (sym c.in-Some.is) c.loop-count.invariant.1

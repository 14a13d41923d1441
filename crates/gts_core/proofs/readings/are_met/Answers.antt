use Rattle.std.proofs.Common.{sym, ap, ◌∙◌}
use Rattle.std.proofs.lemmas.List.Folds.{list_all_at, list_all_more}
use Rattle.gts_core.specs.Readings.{is_met}
use Rattle.std.proofs.lemmas.Bool.{and_from}
use Rattle.gts_core.proofs.readings.are_met.Goals as goal

pub returns-then-not-is_met : goal.returns-then-not-is_met
returns-then-not-is_met c =
    let test = is_met c.args.values.now in
    sym (list_all_at test c.args.conditions.now c.loop-test.test-index c.loop-test-item.result c.loop-test-test.true
    (ap test (sym c.loop-test-item.is) ∙ sym c.is_met.ensures ∙ c.if-not-is_met.true))

pub loop-test-preserved : goal.loop-test-preserved
loop-test-preserved c =
    let test = is_met c.args.values.now in
    list_all_more test c.args.conditions.now c.loop-test.test-index c.loop-test-item.result c.loop-test-test.true
    ∙ and_from _ _ c.loop-test.invariant
    (ap test (sym c.loop-test-item.is) ∙ sym c.is_met.ensures ∙ c.if-not-is_met.false)

use Rattle.std.proofs.Common.{refl, sym, ap, ◌∙◌, unwrap_or, Option, w64, SFits, rules}
use Rattle.std.proofs.lemmas.Int.{to_z-of_z}
use borrow.Author.Count.{falls}
use Rattle.domains.specs.Values.{truth_of}
use Rattle.domains.specs.declared.Value.{Value}
use Rattle.domains.specs.declared.Value.TheVariants.{Whole}
use Rattle.typed_expr.specs.Total.{value_of}
use Rattle.typed_expr.proofs.Folding.{value_of-chosen, chosen-true, chosen-false, chosen-over, fold_of-step, is_nil-more}
use Rattle.typed_expr.proofs.Shrinking as smaller
use Rattle.typed_expr.proofs.Totalled as by
use Rattle.typed_expr.proofs.total.+total.Goals as goal

pub eval_total-returns-in-Some : goal.eval_total-returns-in-Some
eval_total-returns-in-Some g t c =
    let value = value_of (g.E.Env.value_at c.args.env.now) in
    ap (λ (o : Option Value). unwrap_or o (value c.in-Choose.other.value)) (sym c.in-Some.is)
    ∙ value_of-chosen
    (g.E.Env.value_at c.args.env.now) c.in-Choose.cases c.in-Choose.other c.args.expr.now c.deref-in-Choose.result.now
    c.chosen.result c.in-Choose.is c.deref-in-Choose.ensures.value c.chosen.ensures

pub eval_total-returns-in-None : goal.eval_total-returns-in-None
eval_total-returns-in-None g t c =
    let value = value_of (g.E.Env.value_at c.args.env.now) in
    c.eval_total-in-None.ensures ∙ ap value c.deref-in-None.ensures
    ∙ ap (λ (o : Option Value). unwrap_or o (value c.in-Choose.other.value)) (sym c.in-None.is)
    ∙ value_of-chosen
    (g.E.Env.value_at c.args.env.now) c.in-Choose.cases c.in-Choose.other c.args.expr.now c.deref-in-Choose.result.now
    c.chosen.result c.in-Choose.is c.deref-in-Choose.ensures.value c.chosen.ensures

pub chosen-returns-then-truth : goal.chosen-returns-then-truth
chosen-returns-then-truth g t c = λ other.
    let value = value_of (g.E.Env.value_at c.args.env.now) in
    chosen-true value c.args.cases.now c.loop-test.test-index c.loop-test-item.result c.loop-test-test.true
    c.loop-test-item.is c.loop-test.invariant
    (ap truth_of (sym c.eval_total.ensures) ∙ sym c.if-truth.ensures) other
    ∙ sym c.eval_total-then-truth.ensures

pub chosen-loop-test-preserved : goal.chosen-loop-test-preserved
chosen-loop-test-preserved g t c =
    let value = value_of (g.E.Env.value_at c.args.env.now) in
    chosen-false value c.args.cases.now c.loop-test.test-index c.loop-test-item.result c.loop-test-test.true
    c.loop-test-item.is c.loop-test.invariant
    (ap truth_of (sym c.eval_total.ensures) ∙ sym c.if-truth.ensures)

pub chosen-returns : goal.chosen-returns
chosen-returns g t c =
    chosen-over
    (value_of (g.E.Env.value_at c.args.env.now)) c.args.cases.now c.loop-test.test-index c.loop-test-test.false
    c.loop-test.invariant

pub fold_total-loop-e-preserved : goal.fold_total-loop-e-preserved
fold_total-loop-e-preserved g t c =
    let value = value_of (g.E.Env.value_at c.args.env.now) in
    let fits : SFits w64 c.next-so_far.result = search rules in (
      simp to_z-of_z
          (fold_of-step c.args.step value c.args.es.now c.loop-e.e-index c.e-item.result c.loop-e.first _
          c.eval_total.result c.next-so_far.result c.loop-e-test.true c.e-item.is
          c.next-so_far.ensures c.loop-e.invariant.0 c.loop-e.invariant.1 c.eval_total.ensures),
      is_nil-more value c.args.es.now c.loop-e.e-index c.e-item.result c.loop-e-test.true c.e-item.is,
    )

pub all_total-loop-e-init : goal.all_total-loop-e-init
all_total-loop-e-init g t c =
    refl

pub all_total-offset_bounds-es-e-index : goal.all_total-offset_bounds-es-e-index
all_total-offset_bounds-es-e-index g t c =
    c.loop-e.auto.e-index-end

pub all_total-eval_total-requires : goal.all_total-eval_total-requires
all_total-eval_total-requires g t c =
    λ κs within. (
      smaller.item_falls _ _ t
          (smaller.up-item c.args.es.now c.loop-e.e-index c.e-item.result c.loop-e-test.true c.e-item.is) c.decreases,
      within,
    )

pub all_total-returns-then-not-truth : goal.all_total-returns-then-not-truth
all_total-returns-then-not-truth g t c =
    let value = value_of (g.E.Env.value_at c.args.env.now) in
    by.all-fails value c.args.es.now c.loop-e.e-index c.e-item.result c.loop-e-test.true c.e-item.is
    c.loop-e.invariant (c.if-not-truth.ensures ∙ ap truth_of c.eval_total.ensures)

pub all_total-loop-e-smaller : goal.all_total-loop-e-smaller
all_total-loop-e-smaller g t c =
    falls _ c.loop-e.e-index c.loop-e-test.true

pub all_total-loop-e-preserved : goal.all_total-loop-e-preserved
all_total-loop-e-preserved g t c =
    let value = value_of (g.E.Env.value_at c.args.env.now) in
    by.all-goes-on value c.args.es.now c.loop-e.e-index c.e-item.result c.loop-e-test.true c.e-item.is
    c.loop-e.invariant (c.if-not-truth.ensures ∙ ap truth_of c.eval_total.ensures)

pub all_total-returns : goal.all_total-returns
all_total-returns g t c =
    let value = value_of (g.E.Env.value_at c.args.env.now) in
    by.all-ends value c.args.es.now c.loop-e.e-index c.loop-e-test.false c.loop-e.invariant

pub any_total-loop-e-init : goal.any_total-loop-e-init
any_total-loop-e-init g t c =
    refl

pub any_total-offset_bounds-es-e-index : goal.any_total-offset_bounds-es-e-index
any_total-offset_bounds-es-e-index g t c =
    c.loop-e.auto.e-index-end

pub any_total-eval_total-requires : goal.any_total-eval_total-requires
any_total-eval_total-requires g t c =
    λ κs within. (
      smaller.item_falls _ _ t
          (smaller.up-item c.args.es.now c.loop-e.e-index c.e-item.result c.loop-e-test.true c.e-item.is) c.decreases,
      within,
    )

pub any_total-returns-then-truth : goal.any_total-returns-then-truth
any_total-returns-then-truth g t c =
    let value = value_of (g.E.Env.value_at c.args.env.now) in
    by.any-found value c.args.es.now c.loop-e.e-index c.e-item.result c.loop-e-test.true c.e-item.is
    c.loop-e.invariant (c.if-truth.ensures ∙ ap truth_of c.eval_total.ensures)

pub any_total-loop-e-smaller : goal.any_total-loop-e-smaller
any_total-loop-e-smaller g t c =
    falls _ c.loop-e.e-index c.loop-e-test.true

pub any_total-loop-e-preserved : goal.any_total-loop-e-preserved
any_total-loop-e-preserved g t c =
    let value = value_of (g.E.Env.value_at c.args.env.now) in
    by.any-goes-on value c.args.es.now c.loop-e.e-index c.e-item.result c.loop-e-test.true c.e-item.is
    c.loop-e.invariant (c.if-truth.ensures ∙ ap truth_of c.eval_total.ensures)

pub any_total-returns : goal.any_total-returns
any_total-returns g t c =
    let value = value_of (g.E.Env.value_at c.args.env.now) in
    by.any-ends value c.args.es.now c.loop-e.e-index c.loop-e-test.false c.loop-e.invariant

pub chosen-loop-test-init : goal.chosen-loop-test-init
chosen-loop-test-init g t c =
    λ other. refl

pub chosen-offset_bounds-cases-test-index : goal.chosen-offset_bounds-cases-test-index
chosen-offset_bounds-cases-test-index g t c =
    c.loop-test.auto.test-index-end

pub chosen-eval_total-requires : goal.chosen-eval_total-requires
chosen-eval_total-requires g t c =
    λ κs within. (
      smaller.item_falls _ _ t
          (smaller.up-test c.args.cases.now c.loop-test.test-index c.loop-test-item.result c.loop-test-test.true
          c.loop-test-item.is) c.decreases,
      within,
    )

pub chosen-eval_total-requires-then-truth : goal.chosen-eval_total-requires-then-truth
chosen-eval_total-requires-then-truth g t c =
    λ κs within. (
      smaller.item_falls _ _ t
          (smaller.up-value c.args.cases.now c.loop-test.test-index c.loop-test-item.result c.loop-test-test.true
          c.loop-test-item.is) c.decreases,
      within,
    )

pub chosen-loop-test-smaller : goal.chosen-loop-test-smaller
chosen-loop-test-smaller g t c =
    falls _ c.loop-test.test-index c.loop-test-test.true

pub eval_total-eval_total-requires : goal.eval_total-eval_total-requires
eval_total-eval_total-requires g t c =
    λ κs within. (
      smaller.one_falls _ _ t
          (smaller.less-not c.args.expr.now c.deref.result.now c.in-Not.a c.in-Not.is c.deref.ensures) c.decreases,
      within,
    )

pub eval_total-all_total-requires : goal.eval_total-all_total-requires
eval_total-all_total-requires g t c =
    λ κs within. (
      smaller.list_falls _ _ t
          (smaller.less-all c.args.expr.now c.in-All.es c.deref-in-All.result.now c.in-All.is
          c.deref-in-All.ensures.value) c.decreases,
      within,
    )

pub eval_total-any_total-requires : goal.eval_total-any_total-requires
eval_total-any_total-requires g t c =
    λ κs within. (
      smaller.list_falls _ _ t
          (smaller.less-any c.args.expr.now c.in-Any.es c.deref-in-Any.result.now c.in-Any.is
          c.deref-in-Any.ensures.value) c.decreases,
      within,
    )

pub eval_total-fold_total-requires : goal.eval_total-fold_total-requires
eval_total-fold_total-requires g t c =
    λ κs within. (
      smaller.list_falls _ _ t
          (smaller.less-product c.args.expr.now c.in-Product.es c.deref-in-Product.result.now c.in-Product.is
          c.deref-in-Product.ensures.value) c.decreases,
      within,
    )

pub eval_total-fold_total-requires-in-Least : goal.eval_total-fold_total-requires-in-Least
eval_total-fold_total-requires-in-Least g t c =
    λ κs within. (
      smaller.list_falls _ _ t
          (smaller.less-least c.args.expr.now c.in-Least.es c.deref-in-Least.result.now c.in-Least.is
          c.deref-in-Least.ensures.value) c.decreases,
      within,
    )

pub eval_total-fold_total-requires-in-Greatest : goal.eval_total-fold_total-requires-in-Greatest
eval_total-fold_total-requires-in-Greatest g t c =
    λ κs within. (
      smaller.list_falls _ _ t
          (smaller.less-greatest c.args.expr.now c.in-Greatest.es c.deref-in-Greatest.result.now c.in-Greatest.is
          c.deref-in-Greatest.ensures.value) c.decreases,
      within,
    )

pub eval_total-fold_total-requires-in-Count : goal.eval_total-fold_total-requires-in-Count
eval_total-fold_total-requires-in-Count g t c =
    λ κs within. (
      smaller.list_falls _ _ t
          (smaller.less-count c.args.expr.now c.in-Count.es c.deref-in-Count.result.now c.in-Count.is
          c.deref-in-Count.ensures.value) c.decreases,
      within,
    )

pub eval_total-eval_total-left-requires : goal.eval_total-eval_total-left-requires
eval_total-eval_total-left-requires g t c =
    λ κs within. (
      smaller.one_falls _ _ t
          (smaller.less-left c.args.expr.now c.deref-in-Compare.result.now c.in-Compare.relation c.in-Compare.a
          c.in-Compare.b c.in-Compare.is c.deref-in-Compare.ensures) c.decreases,
      within,
    )

pub eval_total-eval_total-right-requires : goal.eval_total-eval_total-right-requires
eval_total-eval_total-right-requires g t c =
    λ κs within. (
      smaller.one_falls _ _ t
          (smaller.less-right c.args.expr.now c.deref-in-Compare-2.result.now c.in-Compare.relation c.in-Compare.a
          c.in-Compare.b c.in-Compare.is c.deref-in-Compare-2.ensures) c.decreases,
      within,
    )

pub eval_total-sum_total-requires : goal.eval_total-sum_total-requires
eval_total-sum_total-requires g t c =
    λ κs within. (
      smaller.list_falls _ _ t
          (smaller.less-parts c.args.expr.now c.in-Sum.parts c.deref-in-Sum.result.now c.in-Sum.is
          c.deref-in-Sum.ensures.value) c.decreases,
      within,
    )

pub eval_total-chosen-requires : goal.eval_total-chosen-requires
eval_total-chosen-requires g t c =
    λ κs within. (
      smaller.list_falls _ _ t
          (smaller.less-cases c.args.expr.now c.in-Choose.cases c.in-Choose.other c.deref-in-Choose.result.now
          c.in-Choose.is c.deref-in-Choose.ensures.value) c.decreases,
      within,
    )

pub eval_total-eval_total-requires-in-None : goal.eval_total-eval_total-requires-in-None
eval_total-eval_total-requires-in-None g t c =
    λ κs within. (
      smaller.one_falls _ _ t
          (smaller.less-other c.args.expr.now c.deref-in-None.result.now c.in-Choose.cases c.in-Choose.other
          c.in-Choose.is c.deref-in-None.ensures) c.decreases,
      within,
    )

pub eval_total-returns-in-Constant : goal.eval_total-returns-in-Constant
eval_total-returns-in-Constant g t c =
    let at = g.E.Env.value_at c.args.env.now in
    by.value_of-constant at c.args.expr.now c.in-Constant.v c.in-Constant.is

pub eval_total-returns-in-Variable : goal.eval_total-returns-in-Variable
eval_total-returns-in-Variable g t c =
    let at = g.E.Env.value_at c.args.env.now in
    by.value_of-variable at c.args.expr.now c.in-Variable.x c.value.result c.in-Variable.is c.value.ensures

pub eval_total-returns-in-Not : goal.eval_total-returns-in-Not
eval_total-returns-in-Not g t c =
    let at = g.E.Env.value_at c.args.env.now in
    by.value_of-not at c.args.expr.now c.in-Not.a c.deref.result.now c.eval_total.result c.truth.result
    c.in-Not.is c.deref.ensures c.eval_total.ensures c.truth.ensures

pub eval_total-returns-in-All : goal.eval_total-returns-in-All
eval_total-returns-in-All g t c =
    let at = g.E.Env.value_at c.args.env.now in
    by.value_of-all at c.args.expr.now c.in-All.es c.deref-in-All.result.now c.all_total.result
    c.in-All.is c.deref-in-All.ensures.value c.all_total.ensures

pub eval_total-returns-in-Any : goal.eval_total-returns-in-Any
eval_total-returns-in-Any g t c =
    let at = g.E.Env.value_at c.args.env.now in
    by.value_of-any at c.args.expr.now c.in-Any.es c.deref-in-Any.result.now c.any_total.result
    c.in-Any.is c.deref-in-Any.ensures.value c.any_total.ensures

pub eval_total-returns-in-Compare : goal.eval_total-returns-in-Compare
eval_total-returns-in-Compare g t c =
    let at = g.E.Env.value_at c.args.env.now in
    by.value_of-compare at c.args.expr.now c.in-Compare.relation c.in-Compare.a c.in-Compare.b
    c.deref-in-Compare.result.now c.deref-in-Compare-2.result.now c.eval_total-left.result c.eval_total-right.result
    c.related.result c.in-Compare.is c.deref-in-Compare.ensures c.deref-in-Compare-2.ensures
    c.eval_total-left.ensures c.eval_total-right.ensures c.related.ensures

pub eval_total-returns-in-Sum : goal.eval_total-returns-in-Sum
eval_total-returns-in-Sum g t c =
    let at = g.E.Env.value_at c.args.env.now in
    let fits : SFits w64 c.sum_total.result = search rules in
    ap Whole (to_z-of_z w64 _ fits)
    ∙ by.value_of-sum at c.args.expr.now c.in-Sum.parts c.deref-in-Sum.result.now c.sum_total.result c.in-Sum.is
    c.deref-in-Sum.ensures.value c.sum_total.ensures

pub eval_total-returns-in-Product : goal.eval_total-returns-in-Product
eval_total-returns-in-Product g t c =
    let at = g.E.Env.value_at c.args.env.now in
    let fits : SFits w64 c.fold_total.result = search rules in
    ap Whole (to_z-of_z w64 _ fits)
    ∙ by.value_of-product at c.args.expr.now c.in-Product.es c.deref-in-Product.result.now
    c.fold_total.result c.in-Product.is
    c.deref-in-Product.ensures.value c.fold_total.ensures

pub eval_total-returns-in-Least : goal.eval_total-returns-in-Least
eval_total-returns-in-Least g t c =
    let at = g.E.Env.value_at c.args.env.now in
    let fits : SFits w64 c.fold_total-in-Least.result = search rules in
    ap Whole (to_z-of_z w64 _ fits)
    ∙ by.value_of-least at c.args.expr.now c.in-Least.es c.deref-in-Least.result.now
    c.fold_total-in-Least.result c.in-Least.is
    c.deref-in-Least.ensures.value c.fold_total-in-Least.ensures

pub eval_total-returns-in-Greatest : goal.eval_total-returns-in-Greatest
eval_total-returns-in-Greatest g t c =
    let at = g.E.Env.value_at c.args.env.now in
    let fits : SFits w64 c.fold_total-in-Greatest.result = search rules in
    ap Whole (to_z-of_z w64 _ fits)
    ∙ by.value_of-greatest at c.args.expr.now c.in-Greatest.es c.deref-in-Greatest.result.now
    c.fold_total-in-Greatest.result c.in-Greatest.is
    c.deref-in-Greatest.ensures.value c.fold_total-in-Greatest.ensures

pub eval_total-returns-in-Count : goal.eval_total-returns-in-Count
eval_total-returns-in-Count g t c =
    let at = g.E.Env.value_at c.args.env.now in
    let fits : SFits w64 c.fold_total-in-Count.result = search rules in
    ap Whole (to_z-of_z w64 _ fits)
    ∙ by.value_of-count at c.args.expr.now c.in-Count.es c.deref-in-Count.result.now
    c.fold_total-in-Count.result c.in-Count.is
    c.deref-in-Count.ensures.value c.fold_total-in-Count.ensures

pub fold_total-loop-e-init : goal.fold_total-loop-e-init
fold_total-loop-e-init g t c =
    let fits : SFits w64 c.start-so_far.result = search rules in (to_z-of_z w64 _ fits ∙ c.start-so_far.ensures, refl)

pub fold_total-offset_bounds-es-e-index : goal.fold_total-offset_bounds-es-e-index
fold_total-offset_bounds-es-e-index g t c =
    c.loop-e.auto.e-index-end

pub fold_total-eval_total-requires : goal.fold_total-eval_total-requires
fold_total-eval_total-requires g t c =
    λ κs within. (
      smaller.item_falls _ _ t
          (smaller.up-item c.args.es.now c.loop-e.e-index c.e-item.result c.loop-e-test.true c.e-item.is) c.decreases,
      within,
    )

pub fold_total-loop-e-smaller : goal.fold_total-loop-e-smaller
fold_total-loop-e-smaller g t c =
    falls _ c.loop-e.e-index c.loop-e-test.true

pub fold_total-returns : goal.fold_total-returns
fold_total-returns g t c =
    let value = value_of (g.E.Env.value_at c.args.env.now) in
    by.fold_of-ends value c.args.es.now c.loop-e.e-index c.args.step _ c.loop-e-test.false c.loop-e.invariant.0

pub sum_total-loop-plus-init : goal.sum_total-loop-plus-init
sum_total-loop-plus-init g t c =
    refl

pub sum_total-offset_bounds-parts-plus-index : goal.sum_total-offset_bounds-parts-plus-index
sum_total-offset_bounds-parts-plus-index g t c =
    c.loop-plus.auto.plus-index-end

pub sum_total-eval_total-requires : goal.sum_total-eval_total-requires
sum_total-eval_total-requires g t c =
    λ κs within. (
      smaller.item_falls _ _ t
          (smaller.up-part c.args.parts.now c.loop-plus.plus-index c.loop-plus-item.result c.loop-plus-test.true
          c.loop-plus-item.is) c.decreases,
      within,
    )

pub sum_total-loop-plus-smaller : goal.sum_total-loop-plus-smaller
sum_total-loop-plus-smaller g t c =
    falls _ c.loop-plus.plus-index c.loop-plus-test.true

pub sum_total-loop-plus-preserved : goal.sum_total-loop-plus-preserved
sum_total-loop-plus-preserved g t c =
    let value = value_of (g.E.Env.value_at c.args.env.now) in
    let fits : SFits w64 c.next-sum.result = search rules in
    to_z-of_z w64 _ fits
    ∙ by.sum_of-step value c.args.parts.now c.loop-plus.plus-index c.loop-plus-item.result _
    c.eval_total.result c.next-sum.result
    c.loop-plus-test.true c.loop-plus-item.is c.next-sum.ensures c.loop-plus.invariant c.eval_total.ensures

pub sum_total-returns : goal.sum_total-returns
sum_total-returns g t c =
    let value = value_of (g.E.Env.value_at c.args.env.now) in
    by.sum_of-ends value c.args.parts.now c.loop-plus.plus-index _ c.loop-plus-test.false c.loop-plus.invariant

use Rattle.std.proofs.Common.{◌++◌, ◌∷◌, [], List, Bool, false, ap, ◌∙◌, subst, rules, w64, SFits}
use Rattle.std.proofs.lemmas.Int.{to_z-of_z}
use Rattle.ar_syntax.specs.declared.expressions.RawExpr.{RawExpr}
use Rattle.typed_expr.specs.declared.expr.Expr.TheViews as view
use Rattle.written_forms.specs.Translating.{BecomesBy, All_become_by, Parts_become_by, Cases_become_by}
use Rattle.written_forms.proofs.Becoming as becoming
use Rattle.typed_expr.proofs.Shrinking as falls
use Rattle.written_forms.proofs.Shrinking as smaller
use borrow.Author.Count as count
use Rattle.written_forms.proofs.translating.+translated.Goals as goal

pub translated-returns-in-Truth : goal.translated-returns-in-Truth
translated-returns-in-Truth g t c =
    let leaves = (g.L.Leaves.leaf_at c.args.leaves.now) in
    becoming.truth_becomes leaves c.args.expr.now c.in-Truth.b c.in-Truth.is

pub translated-returns-in-Whole : goal.translated-returns-in-Whole
translated-returns-in-Whole g t c =
    let leaves = (g.L.Leaves.leaf_at c.args.leaves.now) in
    let f : SFits w64 c.in-Whole.n = search rules in
    simp to_z-of_z (becoming.whole_becomes leaves c.args.expr.now c.in-Whole.n c.in-Whole.is)

pub translated-returns-in-Real : goal.translated-returns-in-Real
translated-returns-in-Real g t c =
    let leaves = (g.L.Leaves.leaf_at c.args.leaves.now) in
    becoming.real_becomes leaves c.args.expr.now c.in-Real.is

pub translated-returns-in-Path : goal.translated-returns-in-Path
translated-returns-in-Path g t c =
    let leaves = (g.L.Leaves.leaf_at c.args.leaves.now) in
    becoming.path_becomes leaves c.args.expr.now c.in-Path.path c.leaf.result c.leaf_expression.result c.in-Path.is
    c.leaf.ensures c.leaf_expression.ensures

pub translated-returns-in_ok-boxed-in-Not : goal.translated-returns-in_ok-boxed-in-Not
translated-returns-in_ok-boxed-in-Not g t c =
    let leaves = (g.L.Leaves.leaf_at c.args.leaves.now) in
    let k : BecomesBy leaves c.in-Not.a.value c.in_ok-operand-in-Not.operand =
    subst (λ z. BecomesBy leaves z c.in_ok-operand-in-Not.operand) c.deref.ensures
    c.in_ok-operand-in-Not.ensures in
    becoming.not_becomes leaves c.args.expr.now c.in-Not.a c.in_ok-operand-in-Not.operand _ c.in-Not.is k (record {
      operand = c.in_ok-boxed-in-Not.boxed;
      is = view.outs-Not c.in_ok-boxed-in-Not.boxed;
      is_operand = c.in_ok-boxed-in-Not.ensures.ok;
    })

pub translated-returns-in_ok-push-in-Minus : goal.translated-returns-in_ok-push-in-Minus
translated-returns-in_ok-push-in-Minus g t c =
    let leaves = (g.L.Leaves.leaf_at c.args.leaves.now) in
    let k : BecomesBy leaves c.in-Minus.a.value c.in_ok-operand-in-Minus.operand =
    subst (λ z. BecomesBy leaves z c.in_ok-operand-in-Minus.operand) c.deref-in-Minus.ensures
    c.in_ok-operand-in-Minus.ensures in
    becoming.minus_becomes leaves c.args.expr.now c.in-Minus.a c.in_ok-operand-in-Minus.operand _ c.in-Minus.is k (record {
      parts = c.push.new.self;
      is = view.outs-Sum c.push.new.self;
      are = c.in_ok-push-in-Minus.ensures.items
          ∙ ap (λ l. l ++ (false, c.in_ok-operand-in-Minus.operand) ∷ []) c.new-parts.ensures.items;
    })

pub translated-returns-in_ok-right-in-Compare : goal.translated-returns-in_ok-right-in-Compare
translated-returns-in_ok-right-in-Compare g t c =
    let leaves = (g.L.Leaves.leaf_at c.args.leaves.now) in
    let k : BecomesBy leaves c.in-Compare.a.value c.in_ok-first-in-Compare.first =
    subst (λ z. BecomesBy leaves z c.in_ok-first-in-Compare.first) c.deref-in-Compare.ensures
    c.in_ok-first-in-Compare.ensures in
    let l : BecomesBy leaves c.in-Compare.b.value c.in_ok-second-in-Compare.second =
    subst (λ z. BecomesBy leaves z c.in_ok-second-in-Compare.second) c.deref-in-Compare-2.ensures
    c.in_ok-second-in-Compare.ensures in
    becoming.compare_becomes leaves c.args.expr.now c.in-Compare.relation c.relation_by.result c.in-Compare.a
    c.in-Compare.b c.in_ok-first-in-Compare.first c.in_ok-second-in-Compare.second _ c.in-Compare.is
    c.relation_by.ensures k l (record {
      left = c.in_ok-left-in-Compare.left;
      right = c.in_ok-right-in-Compare.right;
      is = view.outs-Compare c.relation_by.result c.in_ok-left-in-Compare.left c.in_ok-right-in-Compare.right;
      is_left = c.in_ok-left-in-Compare.ensures.ok;
      is_right = c.in_ok-right-in-Compare.ensures.ok;
    })

pub translated-returns-in_ok-terms_translated-in-Sum : goal.translated-returns-in_ok-terms_translated-in-Sum
translated-returns-in_ok-terms_translated-in-Sum g t c =
    let leaves = (g.L.Leaves.leaf_at c.args.leaves.now) in
    becoming.sum_becomes leaves c.args.expr.now c.in-Sum.parts c.in_ok-terms_translated-in-Sum.field-0
    (subst (λ (z : List (Bool × RawExpr)). Parts_become_by leaves z c.in_ok-terms_translated-in-Sum.field-0.items)
    c.deref-in-Sum.ensures.value c.in_ok-terms_translated-in-Sum.ensures) c.in-Sum.is

pub translated-returns-in_ok-boxed-in-Choose : goal.translated-returns-in_ok-boxed-in-Choose
translated-returns-in_ok-boxed-in-Choose g t c =
    let leaves = (g.L.Leaves.leaf_at c.args.leaves.now) in
    let k : BecomesBy leaves c.in-Choose.other.value c.in_ok-last-in-Choose.last =
    subst (λ z. BecomesBy leaves z c.in_ok-last-in-Choose.last) c.deref-in-Choose-2.ensures
    c.in_ok-last-in-Choose.ensures in
    let cases =
    subst (λ (z : List (RawExpr × RawExpr)). Cases_become_by leaves z c.in_ok-cases-in-Choose.cases.items)
    c.deref-in-Choose.ensures.value c.in_ok-cases-in-Choose.ensures in
    becoming.choice_becomes leaves c.args.expr.now c.in-Choose.choices c.in-Choose.other
    c.in_ok-cases-in-Choose.cases c.in_ok-last-in-Choose.last _ cases k c.in-Choose.is (record {
      other = c.in_ok-boxed-in-Choose.boxed;
      is = view.outs-Choose c.in_ok-cases-in-Choose.cases c.in_ok-boxed-in-Choose.boxed;
      is_other = c.in_ok-boxed-in-Choose.ensures.ok;
    })

pub translated-returns-in_ok-all_translated-in-All : goal.translated-returns-in_ok-all_translated-in-All
translated-returns-in_ok-all_translated-in-All g t c =
    let leaves = (g.L.Leaves.leaf_at c.args.leaves.now) in
    becoming.all_becomes leaves c.args.expr.now c.in-All.es c.in_ok-all_translated-in-All.field-0
    (subst (λ (z : List RawExpr). All_become_by leaves z c.in_ok-all_translated-in-All.field-0.items)
    c.deref-in-All.ensures.value c.in_ok-all_translated-in-All.ensures) c.in-All.is

pub translated-returns-in_ok-all_translated-in-Any : goal.translated-returns-in_ok-all_translated-in-Any
translated-returns-in_ok-all_translated-in-Any g t c =
    let leaves = (g.L.Leaves.leaf_at c.args.leaves.now) in
    becoming.any_becomes leaves c.args.expr.now c.in-Any.es c.in_ok-all_translated-in-Any.field-0
    (subst (λ (z : List RawExpr). All_become_by leaves z c.in_ok-all_translated-in-Any.field-0.items)
    c.deref-in-Any.ensures.value c.in_ok-all_translated-in-Any.ensures) c.in-Any.is

pub translated-returns-in_ok-all_translated-in-Product : goal.translated-returns-in_ok-all_translated-in-Product
translated-returns-in_ok-all_translated-in-Product g t c =
    let leaves = (g.L.Leaves.leaf_at c.args.leaves.now) in
    becoming.product_becomes leaves c.args.expr.now c.in-Product.es c.in_ok-all_translated-in-Product.field-0
    (subst (λ (z : List RawExpr). All_become_by leaves z c.in_ok-all_translated-in-Product.field-0.items)
    c.deref-in-Product.ensures.value c.in_ok-all_translated-in-Product.ensures) c.in-Product.is

pub translated-returns-in_ok-all_translated-in-Least : goal.translated-returns-in_ok-all_translated-in-Least
translated-returns-in_ok-all_translated-in-Least g t c =
    let leaves = (g.L.Leaves.leaf_at c.args.leaves.now) in
    becoming.least_becomes leaves c.args.expr.now c.in-Least.es c.in_ok-all_translated-in-Least.field-0
    (subst (λ (z : List RawExpr). All_become_by leaves z c.in_ok-all_translated-in-Least.field-0.items)
    c.deref-in-Least.ensures.value c.in_ok-all_translated-in-Least.ensures) c.in-Least.is

pub translated-returns-in_ok-all_translated-in-Greatest : goal.translated-returns-in_ok-all_translated-in-Greatest
translated-returns-in_ok-all_translated-in-Greatest g t c =
    let leaves = (g.L.Leaves.leaf_at c.args.leaves.now) in
    becoming.greatest_becomes leaves c.args.expr.now c.in-Greatest.es c.in_ok-all_translated-in-Greatest.field-0
    (subst (λ (z : List RawExpr). All_become_by leaves z c.in_ok-all_translated-in-Greatest.field-0.items)
    c.deref-in-Greatest.ensures.value c.in_ok-all_translated-in-Greatest.ensures) c.in-Greatest.is

pub translated-returns-in_ok-all_translated-in-Count : goal.translated-returns-in_ok-all_translated-in-Count
translated-returns-in_ok-all_translated-in-Count g t c =
    let leaves = (g.L.Leaves.leaf_at c.args.leaves.now) in
    becoming.count_becomes leaves c.args.expr.now c.in-Count.es c.in_ok-all_translated-in-Count.field-0
    (subst (λ (z : List RawExpr). All_become_by leaves z c.in_ok-all_translated-in-Count.field-0.items)
    c.deref-in-Count.ensures.value c.in_ok-all_translated-in-Count.ensures) c.in-Count.is

pub all_translated-loop-e-init : goal.all_translated-loop-e-init
all_translated-loop-e-init g t c =
    let leaves = (g.L.Leaves.leaf_at c.args.leaves.now) in
    becoming.all_start leaves c.new-out.result.items c.new-out.ensures.items

pub all_translated-loop-e-preserved : goal.all_translated-loop-e-preserved
all_translated-loop-e-preserved g t c =
    let leaves = (g.L.Leaves.leaf_at c.args.leaves.now) in
    becoming.all_next leaves c.args.es.now c.loop-e.e-index c.e-item.result c.in_ok-next.next c.loop-e.out.items
    c.push.new.self.items c.loop-e-test.true c.e-item.is c.loop-e.invariant c.in_ok-next.ensures
    c.in_ok-push.ensures.items

pub all_translated-returns : goal.all_translated-returns
all_translated-returns g t c =
    let leaves = (g.L.Leaves.leaf_at c.args.leaves.now) in
    becoming.all_read leaves (All_become_by leaves) c.args.es.now c.loop-e.e-index c.loop-e.out.items
    c.loop-e-test.false c.loop-e.invariant

pub terms_translated-loop-plus-init : goal.terms_translated-loop-plus-init
terms_translated-loop-plus-init g t c =
    let leaves = (g.L.Leaves.leaf_at c.args.leaves.now) in
    becoming.parts_start leaves c.new-out.result.items c.new-out.ensures.items

pub terms_translated-loop-plus-preserved : goal.terms_translated-loop-plus-preserved
terms_translated-loop-plus-preserved g t c =
    let leaves = (g.L.Leaves.leaf_at c.args.leaves.now) in
    becoming.parts_next leaves c.args.parts.now c.loop-plus.plus-index c.loop-plus-item.result c.in_ok-next.next
    c.loop-plus.out.items c.push.new.self.items c.loop-plus-test.true c.loop-plus-item.is c.loop-plus.invariant
    c.in_ok-next.ensures c.in_ok-push.ensures.items

pub terms_translated-returns : goal.terms_translated-returns
terms_translated-returns g t c =
    let leaves = (g.L.Leaves.leaf_at c.args.leaves.now) in
    becoming.all_read leaves (Parts_become_by leaves) c.args.parts.now c.loop-plus.plus-index c.loop-plus.out.items
    c.loop-plus-test.false c.loop-plus.invariant

pub cases_translated-loop-test-init : goal.cases_translated-loop-test-init
cases_translated-loop-test-init g t c =
    let leaves = (g.L.Leaves.leaf_at c.args.leaves.now) in
    becoming.cases_start leaves c.new-out.result.items c.new-out.ensures.items

pub cases_translated-loop-test-preserved : goal.cases_translated-loop-test-preserved
cases_translated-loop-test-preserved g t c =
    let leaves = (g.L.Leaves.leaf_at c.args.leaves.now) in
    becoming.cases_next leaves c.args.choices.now c.loop-test.test-index c.loop-test-item.result c.in_ok-test.test
    c.in_ok-value.value c.loop-test.out.items c.push.new.self.items c.loop-test-test.true c.loop-test-item.is
    c.loop-test.invariant
    c.in_ok-test.ensures c.in_ok-value.ensures c.in_ok-push.ensures.items

pub cases_translated-returns : goal.cases_translated-returns
cases_translated-returns g t c =
    let leaves = (g.L.Leaves.leaf_at c.args.leaves.now) in
    becoming.all_read leaves (Cases_become_by leaves) c.args.choices.now c.loop-test.test-index c.loop-test.out.items
    c.loop-test-test.false c.loop-test.invariant

-- each call is of something smaller
pub translated-translated-requires : goal.translated-translated-requires
translated-translated-requires g t c =
    λ κs within. (
      falls.one_falls _ _ t
          (smaller.less-not c.args.expr.now c.deref.result.now c.in-Not.a c.in-Not.is
          c.deref.ensures) c.decreases,
      (within, c.requires),
    )

pub translated-translated-requires-in-Minus : goal.translated-translated-requires-in-Minus
translated-translated-requires-in-Minus g t c =
    λ κs within. (
      falls.one_falls _ _ t
          (smaller.less-minus c.args.expr.now c.deref-in-Minus.result.now c.in-Minus.a c.in-Minus.is
          c.deref-in-Minus.ensures) c.decreases,
      (within, c.requires),
    )

pub translated-all_translated-requires : goal.translated-all_translated-requires
translated-all_translated-requires g t c =
    λ κs within. (
      falls.list_falls _ _ t
          (smaller.less-all c.args.expr.now c.in-All.es c.deref-in-All.result.now c.in-All.is
          c.deref-in-All.ensures.value) c.decreases,
      (within, c.requires),
    )

pub translated-all_translated-requires-in-Any : goal.translated-all_translated-requires-in-Any
translated-all_translated-requires-in-Any g t c =
    λ κs within. (
      falls.list_falls _ _ t
          (smaller.less-any c.args.expr.now c.in-Any.es c.deref-in-Any.result.now c.in-Any.is
          c.deref-in-Any.ensures.value) c.decreases,
      (within, c.requires),
    )

pub translated-all_translated-requires-in-Product : goal.translated-all_translated-requires-in-Product
translated-all_translated-requires-in-Product g t c =
    λ κs within. (
      falls.list_falls _ _ t
          (smaller.less-product c.args.expr.now c.in-Product.es c.deref-in-Product.result.now c.in-Product.is
          c.deref-in-Product.ensures.value) c.decreases,
      (within, c.requires),
    )

pub translated-all_translated-requires-in-Least : goal.translated-all_translated-requires-in-Least
translated-all_translated-requires-in-Least g t c =
    λ κs within. (
      falls.list_falls _ _ t
          (smaller.less-least c.args.expr.now c.in-Least.es c.deref-in-Least.result.now c.in-Least.is
          c.deref-in-Least.ensures.value) c.decreases,
      (within, c.requires),
    )

pub translated-all_translated-requires-in-Greatest : goal.translated-all_translated-requires-in-Greatest
translated-all_translated-requires-in-Greatest g t c =
    λ κs within. (
      falls.list_falls _ _ t
          (smaller.less-greatest c.args.expr.now c.in-Greatest.es c.deref-in-Greatest.result.now c.in-Greatest.is
          c.deref-in-Greatest.ensures.value) c.decreases,
      (within, c.requires),
    )

pub translated-all_translated-requires-in-Count : goal.translated-all_translated-requires-in-Count
translated-all_translated-requires-in-Count g t c =
    λ κs within. (
      falls.list_falls _ _ t
          (smaller.less-count c.args.expr.now c.in-Count.es c.deref-in-Count.result.now c.in-Count.is
          c.deref-in-Count.ensures.value) c.decreases,
      (within, c.requires),
    )

pub translated-translated-requires-in-Compare : goal.translated-translated-requires-in-Compare
translated-translated-requires-in-Compare g t c =
    λ κs within. (
      falls.one_falls _ _ t
          (smaller.less-left c.args.expr.now c.deref-in-Compare.result.now c.in-Compare.relation c.in-Compare.a
          c.in-Compare.b c.in-Compare.is
          c.deref-in-Compare.ensures) c.decreases,
      (within, c.requires),
    )

pub translated-translated-requires-in-Compare-2 : goal.translated-translated-requires-in-Compare-2
translated-translated-requires-in-Compare-2 g t c =
    λ κs within. (
      falls.one_falls _ _ t
          (smaller.less-right c.args.expr.now c.deref-in-Compare-2.result.now c.in-Compare.relation c.in-Compare.a
          c.in-Compare.b c.in-Compare.is
          c.deref-in-Compare-2.ensures) c.decreases,
      (within, c.requires),
    )

pub translated-terms_translated-requires : goal.translated-terms_translated-requires
translated-terms_translated-requires g t c =
    λ κs within. (
      falls.list_falls _ _ t
          (smaller.less-parts c.args.expr.now c.in-Sum.parts c.deref-in-Sum.result.now c.in-Sum.is
          c.deref-in-Sum.ensures.value) c.decreases,
      (within, c.requires),
    )

pub translated-cases_translated-requires : goal.translated-cases_translated-requires
translated-cases_translated-requires g t c =
    λ κs within. (
      falls.list_falls _ _ t
          (smaller.less-cases c.args.expr.now c.in-Choose.choices c.in-Choose.other c.deref-in-Choose.result.now
          c.in-Choose.is
          c.deref-in-Choose.ensures.value) c.decreases,
      (within, c.requires),
    )

pub translated-translated-requires-in-Choose : goal.translated-translated-requires-in-Choose
translated-translated-requires-in-Choose g t c =
    λ κs within. (
      falls.one_falls _ _ t
          (smaller.less-other c.args.expr.now c.deref-in-Choose-2.result.now c.in-Choose.choices c.in-Choose.other
          c.in-Choose.is
          c.deref-in-Choose-2.ensures) c.decreases,
      (within, c.requires),
    )

pub all_translated-loop-e-smaller : goal.all_translated-loop-e-smaller
all_translated-loop-e-smaller g t c = count.falls _ c.loop-e.e-index c.loop-e-test.true

pub all_translated-translated-requires : goal.all_translated-translated-requires
all_translated-translated-requires g t c =
    λ κs within. (
      falls.item_falls _ _ t
          (smaller.up-item c.args.es.now c.loop-e.e-index c.e-item.result c.loop-e-test.true
          c.e-item.is) c.decreases,
      (within, c.requires),
    )

pub terms_translated-loop-plus-smaller : goal.terms_translated-loop-plus-smaller
terms_translated-loop-plus-smaller g t c = count.falls _ c.loop-plus.plus-index c.loop-plus-test.true

pub terms_translated-translated-requires : goal.terms_translated-translated-requires
terms_translated-translated-requires g t c =
    λ κs within. (
      falls.item_falls _ _ t
          (smaller.up-part c.args.parts.now c.loop-plus.plus-index c.loop-plus-item.result c.loop-plus-test.true
          c.loop-plus-item.is) c.decreases,
      (within, c.requires),
    )

pub cases_translated-loop-test-smaller : goal.cases_translated-loop-test-smaller
cases_translated-loop-test-smaller g t c = count.falls _ c.loop-test.test-index c.loop-test-test.true

pub cases_translated-translated-requires : goal.cases_translated-translated-requires
cases_translated-translated-requires g t c =
    λ κs within. (
      falls.item_falls _ _ t
          (smaller.up-test c.args.choices.now c.loop-test.test-index c.loop-test-item.result c.loop-test-test.true
          c.loop-test-item.is) c.decreases,
      (within, c.requires),
    )

pub cases_translated-translated-requires-in-loop-test : goal.cases_translated-translated-requires-in-loop-test
cases_translated-translated-requires-in-loop-test g t c =
    λ κs within. (
      falls.item_falls _ _ t
          (smaller.up-value c.args.choices.now c.loop-test.test-index c.loop-test-item.result c.loop-test-test.true
          c.loop-test-item.is) c.decreases,
      (within, c.requires),
    )

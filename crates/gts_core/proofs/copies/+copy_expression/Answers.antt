use Rattle.std.proofs.Common.{List, Bool, sym, subst}
use Rattle.typed_expr.specs.declared.expr.Expr.{Expr}
use Rattle.ar_base.specs.Numbers.{VarId}
use Rattle.gts_core.specs.Copies.{IsCopy, AreCopies, AreTermCopies, AreCaseCopies}
use Rattle.gts_core.proofs.Copying.{copy_constant, copy_variable, copy_not, copy_compare, copy_all, copy_any, copy_product, copy_least, copy_greatest, copy_count, copy_sum, copy_choice, copies_next, terms_next, cases_next, all_read, copies_start, terms_start, cases_start}
use borrow.Author.Count.{falls}
use Rattle.typed_expr.proofs.Shrinking as smaller
use Rattle.gts_core.proofs.copies.+copy_expression.Goals as goal

pub copy_expression-returns-in-Constant : goal.copy_expression-returns-in-Constant
copy_expression-returns-in-Constant t c = copy_constant c.args.expr.now c.in-Constant.v c.in-Constant.is

pub copy_expression-returns-in-Variable : goal.copy_expression-returns-in-Variable
copy_expression-returns-in-Variable t c = copy_variable c.args.expr.now c.in-Variable.x c.in-Variable.is

pub copy_expression-returns-in_ok-new-in-Not : goal.copy_expression-returns-in_ok-new-in-Not
copy_expression-returns-in_ok-new-in-Not t c =
    let k : IsCopy c.in-Not.a.value c.in_ok-operand-in-Not.operand =
    subst (λ z. IsCopy z c.in_ok-operand-in-Not.operand) c.deref.ensures c.in_ok-operand-in-Not.ensures in
    copy_not c.args.expr.now c.in-Not.a c.in_ok-new-in-Not.field-0 c.in-Not.is
    (subst (λ z. IsCopy c.in-Not.a.value z) (sym c.in_ok-new-in-Not.ensures.ok) k)

pub copy_expression-returns-in_ok-right-in-Compare : goal.copy_expression-returns-in_ok-right-in-Compare
copy_expression-returns-in_ok-right-in-Compare t c =
    let k : IsCopy c.in-Compare.a.value c.in_ok-first-in-Compare.first =
    subst (λ z. IsCopy z c.in_ok-first-in-Compare.first) c.deref-in-Compare.ensures
    c.in_ok-first-in-Compare.ensures in
    let l : IsCopy c.in-Compare.b.value c.in_ok-second-in-Compare.second =
    subst (λ z. IsCopy z c.in_ok-second-in-Compare.second) c.deref-in-Compare-2.ensures
    c.in_ok-second-in-Compare.ensures in
    copy_compare c.args.expr.now c.in-Compare.relation c.in-Compare.a c.in-Compare.b c.in_ok-left-in-Compare.left
    c.in_ok-right-in-Compare.right c.in-Compare.is
    (subst (λ z. IsCopy c.in-Compare.a.value z) (sym c.in_ok-left-in-Compare.ensures.ok) k)
    (subst (λ z. IsCopy c.in-Compare.b.value z) (sym c.in_ok-right-in-Compare.ensures.ok) l)

pub copy_expression-returns-in_ok-summed-in-Sum : goal.copy_expression-returns-in_ok-summed-in-Sum
copy_expression-returns-in_ok-summed-in-Sum t c =
    copy_sum c.args.expr.now c.in-Sum.terms c.in_ok-summed-in-Sum.field-0
    (subst (λ (z : List (Bool × Expr VarId)). AreTermCopies z c.in_ok-summed-in-Sum.field-0.items)
    c.deref-in-Sum.ensures.value c.in_ok-summed-in-Sum.ensures) c.in-Sum.is

pub copy_expression-returns-in_ok-new-in-Choose : goal.copy_expression-returns-in_ok-new-in-Choose
copy_expression-returns-in_ok-new-in-Choose t c =
    let k : IsCopy c.in-Choose.other.value c.in_ok-last-in-Choose.last =
    subst (λ z. IsCopy z c.in_ok-last-in-Choose.last) c.deref-in-Choose-2.ensures
    c.in_ok-last-in-Choose.ensures in
    copy_choice c.args.expr.now c.in-Choose.choices c.in_ok-cases-in-Choose.cases c.in-Choose.other
    c.in_ok-new-in-Choose.field-0
    (subst (λ (z : List (Expr VarId × Expr VarId)). AreCaseCopies z c.in_ok-cases-in-Choose.cases.items)
    c.deref-in-Choose.ensures.value c.in_ok-cases-in-Choose.ensures)
    (subst (λ z. IsCopy c.in-Choose.other.value z) (sym c.in_ok-new-in-Choose.ensures.ok) k) c.in-Choose.is

pub listed-loop-e-init : goal.listed-loop-e-init
listed-loop-e-init t c = copies_start c.new-out.result.items c.new-out.ensures.items

pub listed-loop-e-preserved : goal.listed-loop-e-preserved
listed-loop-e-preserved t c =
    copies_next c.args.es.now c.loop-e.e-index c.e-item.result c.in_ok-copy.copy c.loop-e.out.items
    c.push.new.self.items c.loop-e-test.true c.e-item.is c.loop-e.invariant c.in_ok-copy.ensures
    c.in_ok-push.ensures.items

pub listed-returns : goal.listed-returns
listed-returns t c = all_read AreCopies c.args.es.now c.loop-e.e-index c.loop-e.out.items c.loop-e-test.false
    c.loop-e.invariant

pub summed-loop-plus-init : goal.summed-loop-plus-init
summed-loop-plus-init t c = terms_start c.new-out.result.items c.new-out.ensures.items

pub summed-loop-plus-preserved : goal.summed-loop-plus-preserved
summed-loop-plus-preserved t c =
    terms_next c.args.terms.now c.loop-plus.plus-index c.loop-plus-item.result c.in_ok-copy.copy c.loop-plus.out.items
    c.push.new.self.items c.loop-plus-test.true c.loop-plus-item.is c.loop-plus.invariant c.in_ok-copy.ensures
    c.in_ok-push.ensures.items

pub summed-returns : goal.summed-returns
summed-returns t c = all_read AreTermCopies c.args.terms.now c.loop-plus.plus-index c.loop-plus.out.items
    c.loop-plus-test.false c.loop-plus.invariant

pub chosen-loop-test-init : goal.chosen-loop-test-init
chosen-loop-test-init t c = cases_start c.new-out.result.items c.new-out.ensures.items

pub chosen-loop-test-preserved : goal.chosen-loop-test-preserved
chosen-loop-test-preserved t c =
    cases_next c.args.choices.now c.loop-test.test-index c.loop-test-item.result c.in_ok-test.test c.in_ok-value.value
    c.loop-test.out.items c.push.new.self.items c.loop-test-test.true c.loop-test-item.is c.loop-test.invariant
    c.in_ok-test.ensures c.in_ok-value.ensures c.in_ok-push.ensures.items

pub chosen-returns : goal.chosen-returns
chosen-returns t c = all_read AreCaseCopies c.args.choices.now c.loop-test.test-index c.loop-test.out.items
    c.loop-test-test.false c.loop-test.invariant

pub copy_expression-returns-in_ok-listed-in-All : goal.copy_expression-returns-in_ok-listed-in-All
copy_expression-returns-in_ok-listed-in-All t c =
    copy_all c.args.expr.now c.in-All.es c.in_ok-listed-in-All.field-0
    (subst (λ (z : List (Expr VarId)). AreCopies z c.in_ok-listed-in-All.field-0.items) c.deref-in-All.ensures.value
    c.in_ok-listed-in-All.ensures) c.in-All.is

pub copy_expression-returns-in_ok-listed-in-Any : goal.copy_expression-returns-in_ok-listed-in-Any
copy_expression-returns-in_ok-listed-in-Any t c =
    copy_any c.args.expr.now c.in-Any.es c.in_ok-listed-in-Any.field-0
    (subst (λ (z : List (Expr VarId)). AreCopies z c.in_ok-listed-in-Any.field-0.items) c.deref-in-Any.ensures.value
    c.in_ok-listed-in-Any.ensures) c.in-Any.is

pub copy_expression-returns-in_ok-listed-in-Product : goal.copy_expression-returns-in_ok-listed-in-Product
copy_expression-returns-in_ok-listed-in-Product t c =
    copy_product c.args.expr.now c.in-Product.es c.in_ok-listed-in-Product.field-0
    (subst (λ (z : List (Expr VarId)). AreCopies z c.in_ok-listed-in-Product.field-0.items)
    c.deref-in-Product.ensures.value c.in_ok-listed-in-Product.ensures) c.in-Product.is

pub copy_expression-returns-in_ok-listed-in-Least : goal.copy_expression-returns-in_ok-listed-in-Least
copy_expression-returns-in_ok-listed-in-Least t c =
    copy_least c.args.expr.now c.in-Least.es c.in_ok-listed-in-Least.field-0
    (subst (λ (z : List (Expr VarId)). AreCopies z c.in_ok-listed-in-Least.field-0.items)
    c.deref-in-Least.ensures.value c.in_ok-listed-in-Least.ensures) c.in-Least.is

pub copy_expression-returns-in_ok-listed-in-Greatest : goal.copy_expression-returns-in_ok-listed-in-Greatest
copy_expression-returns-in_ok-listed-in-Greatest t c =
    copy_greatest c.args.expr.now c.in-Greatest.es c.in_ok-listed-in-Greatest.field-0
    (subst (λ (z : List (Expr VarId)). AreCopies z c.in_ok-listed-in-Greatest.field-0.items)
    c.deref-in-Greatest.ensures.value c.in_ok-listed-in-Greatest.ensures) c.in-Greatest.is

pub copy_expression-returns-in_ok-listed-in-Count : goal.copy_expression-returns-in_ok-listed-in-Count
copy_expression-returns-in_ok-listed-in-Count t c =
    copy_count c.args.expr.now c.in-Count.es c.in_ok-listed-in-Count.field-0
    (subst (λ (z : List (Expr VarId)). AreCopies z c.in_ok-listed-in-Count.field-0.items)
    c.deref-in-Count.ensures.value c.in_ok-listed-in-Count.ensures) c.in-Count.is

-- each call is of something smaller
pub copy_expression-copy_expression-requires : goal.copy_expression-copy_expression-requires
copy_expression-copy_expression-requires t c = (
  smaller.one_falls _ _ t
      (smaller.less-not c.args.expr.now c.deref.result.now c.in-Not.a c.in-Not.is c.deref.ensures) c.decreases,
  tt,
)

pub copy_expression-listed-requires : goal.copy_expression-listed-requires
copy_expression-listed-requires t c = (
  smaller.list_falls _ _ t
      (smaller.less-all c.args.expr.now c.in-All.es c.deref-in-All.result.now c.in-All.is
      c.deref-in-All.ensures.value) c.decreases,
  tt,
)

pub copy_expression-listed-requires-in-Any : goal.copy_expression-listed-requires-in-Any
copy_expression-listed-requires-in-Any t c = (
  smaller.list_falls _ _ t
      (smaller.less-any c.args.expr.now c.in-Any.es c.deref-in-Any.result.now c.in-Any.is
      c.deref-in-Any.ensures.value) c.decreases,
  tt,
)

pub copy_expression-listed-requires-in-Product : goal.copy_expression-listed-requires-in-Product
copy_expression-listed-requires-in-Product t c = (
  smaller.list_falls _ _ t
      (smaller.less-product c.args.expr.now c.in-Product.es c.deref-in-Product.result.now c.in-Product.is
      c.deref-in-Product.ensures.value) c.decreases,
  tt,
)

pub copy_expression-listed-requires-in-Least : goal.copy_expression-listed-requires-in-Least
copy_expression-listed-requires-in-Least t c = (
  smaller.list_falls _ _ t
      (smaller.less-least c.args.expr.now c.in-Least.es c.deref-in-Least.result.now c.in-Least.is
      c.deref-in-Least.ensures.value) c.decreases,
  tt,
)

pub copy_expression-listed-requires-in-Greatest : goal.copy_expression-listed-requires-in-Greatest
copy_expression-listed-requires-in-Greatest t c = (
  smaller.list_falls _ _ t
      (smaller.less-greatest c.args.expr.now c.in-Greatest.es c.deref-in-Greatest.result.now c.in-Greatest.is
      c.deref-in-Greatest.ensures.value) c.decreases,
  tt,
)

pub copy_expression-listed-requires-in-Count : goal.copy_expression-listed-requires-in-Count
copy_expression-listed-requires-in-Count t c = (
  smaller.list_falls _ _ t
      (smaller.less-count c.args.expr.now c.in-Count.es c.deref-in-Count.result.now c.in-Count.is
      c.deref-in-Count.ensures.value) c.decreases,
  tt,
)

pub copy_expression-copy_expression-requires-in-Compare : goal.copy_expression-copy_expression-requires-in-Compare
copy_expression-copy_expression-requires-in-Compare t c = (
  smaller.one_falls _ _ t
      (smaller.less-left c.args.expr.now c.deref-in-Compare.result.now c.in-Compare.relation c.in-Compare.a
      c.in-Compare.b c.in-Compare.is c.deref-in-Compare.ensures) c.decreases,
  tt,
)

pub copy_expression-copy_expression-requires-in-Compare-2 : goal.copy_expression-copy_expression-requires-in-Compare-2
copy_expression-copy_expression-requires-in-Compare-2 t c = (
  smaller.one_falls _ _ t
      (smaller.less-right c.args.expr.now c.deref-in-Compare-2.result.now c.in-Compare.relation c.in-Compare.a
      c.in-Compare.b c.in-Compare.is c.deref-in-Compare-2.ensures) c.decreases,
  tt,
)

pub copy_expression-summed-requires : goal.copy_expression-summed-requires
copy_expression-summed-requires t c = (
  smaller.list_falls _ _ t
      (smaller.less-parts c.args.expr.now c.in-Sum.terms c.deref-in-Sum.result.now c.in-Sum.is
      c.deref-in-Sum.ensures.value) c.decreases,
  tt,
)

pub copy_expression-chosen-requires : goal.copy_expression-chosen-requires
copy_expression-chosen-requires t c = (
  smaller.list_falls _ _ t
      (smaller.less-cases c.args.expr.now c.in-Choose.choices c.in-Choose.other c.deref-in-Choose.result.now
      c.in-Choose.is c.deref-in-Choose.ensures.value) c.decreases,
  tt,
)

pub copy_expression-copy_expression-requires-in-Choose : goal.copy_expression-copy_expression-requires-in-Choose
copy_expression-copy_expression-requires-in-Choose t c = (
  smaller.one_falls _ _ t
      (smaller.less-other c.args.expr.now c.deref-in-Choose-2.result.now c.in-Choose.choices c.in-Choose.other
      c.in-Choose.is c.deref-in-Choose-2.ensures) c.decreases,
  tt,
)

pub listed-loop-e-smaller : goal.listed-loop-e-smaller
listed-loop-e-smaller t c =
    falls _ c.loop-e.e-index c.loop-e-test.true

pub listed-copy_expression-requires : goal.listed-copy_expression-requires
listed-copy_expression-requires t c = (
  smaller.item_falls _ _ t
      (smaller.up-item c.args.es.now c.loop-e.e-index c.e-item.result c.loop-e-test.true
      c.e-item.is) c.decreases,
  tt,
)

pub summed-loop-plus-smaller : goal.summed-loop-plus-smaller
summed-loop-plus-smaller t c =
    falls _ c.loop-plus.plus-index c.loop-plus-test.true

pub summed-copy_expression-requires : goal.summed-copy_expression-requires
summed-copy_expression-requires t c = (
  smaller.item_falls _ _ t
      (smaller.up-part c.args.terms.now c.loop-plus.plus-index c.loop-plus-item.result c.loop-plus-test.true
      c.loop-plus-item.is) c.decreases,
  tt,
)

pub chosen-loop-test-smaller : goal.chosen-loop-test-smaller
chosen-loop-test-smaller t c =
    falls _ c.loop-test.test-index c.loop-test-test.true

pub chosen-copy_expression-requires : goal.chosen-copy_expression-requires
chosen-copy_expression-requires t c = (
  smaller.item_falls _ _ t
      (smaller.up-test c.args.choices.now c.loop-test.test-index c.loop-test-item.result c.loop-test-test.true
      c.loop-test-item.is) c.decreases,
  tt,
)

pub chosen-copy_expression-requires-in-loop-test : goal.chosen-copy_expression-requires-in-loop-test
chosen-copy_expression-requires-in-loop-test t c = (
  smaller.item_falls _ _ t
      (smaller.up-value c.args.choices.now c.loop-test.test-index c.loop-test-item.result c.loop-test-test.true
      c.loop-test-item.is) c.decreases,
  tt,
)

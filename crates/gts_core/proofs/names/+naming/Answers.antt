use Rattle.std.proofs.Common.{◌≡◌, ◌⊎◌, inl, inr, List, Bool, ap, ◌∙◌, sym, subst, refl}
use Rattle.typed_expr.specs.Mentions as m
use Rattle.typed_expr.specs.Mentions.{Mentions, Some_mentions, Parts_mention, Cases_mention}
use Rattle.typed_expr.specs.declared.expr.Expr.{Expr, out-Expr}
use Rattle.typed_expr.specs.declared.expr.Expr.TheOpen.{Variable, Not, All, Any, Compare, Sum, Product, Least, Greatest, Count, Choose}
use Rattle.ar_base.specs.Numbers.{VarId}
use Rattle.ar_base.proofs.Results.{ok_as}
use Rattle.gts_core.specs.Adding.{Adds}
use Rattle.typed_expr.proofs.Opened as opened
use Rattle.gts_core.proofs.Added as added
use Rattle.gts_core.proofs.NamedVariables as named
use borrow.Author.Count.{falls}
use Rattle.typed_expr.proofs.Shrinking as smaller
use Rattle.gts_core.proofs.names.+naming.Goals as goal

pub add_named-returns-in_ok-push-in-Variable : goal.add_named-returns-in_ok-push-in-Variable
add_named-returns-in_ok-push-in-Variable t c =
    let x = c.in-Variable.x in
    named.at_level c.args.expr.now c.args.found.now.items c.push.new.self.items
    (Variable x) (λ y. y ≡ x) (ap (out-Expr VarId) c.in-Variable.is ∙ opened.opened-variable x)
    (λ y d. named.of_variable y x d) (λ y e. subst (λ (z : VarId). Mentions z (Variable x)) (sym e) m.itself)
    (added.adds_one (λ y. y ≡ x) x c.args.found.now.items c.push.new.self.items refl (λ y e. e)
    c.in_ok-push-in-Variable.ensures.items)

pub add_named-returns-in-Not : goal.add_named-returns-in-Not
add_named-returns-in-Not t c =
    let a = c.in-Not.a in
    ok_as _ _ c.add_named.result (λ h. named.at_level c.args.expr.now c.args.found.now.items c.add_named.new.found.items
    (Not a) (λ x. Mentions x (out-Expr VarId a.value)) (opened.opened-not c.args.expr.now a c.in-Not.is)
    (λ x d. named.of_not x a d) (λ x d. m.in_not d)
    (subst (λ (z : Expr VarId). Adds (λ x. Mentions x (out-Expr VarId z)) c.args.found.now.items
    c.add_named.new.found.items) c.deref.ensures h)) c.add_named.ensures

pub add_named-returns-in_ok-add_named-in-Compare : goal.add_named-returns-in_ok-add_named-in-Compare
add_named-returns-in_ok-add_named-in-Compare t c =
    let a = c.in-Compare.a in
    let b = c.in-Compare.b in
    let old = c.args.found.now.items in
    let mid = c.add_named-in-Compare.new.found.items in
    let new = c.add_named-in-Compare-2.new.found.items in
    let left : VarId → Type 0 = λ x. Mentions x (out-Expr VarId a.value) in
    let right : VarId → Type 0 = λ x. Mentions x (out-Expr VarId b.value) in
    let first = subst (λ (z : Expr VarId). Adds (λ x. Mentions x (out-Expr VarId z)) old mid) c.deref-in-Compare.ensures
    c.in_ok-add_named-in-Compare.ensures in
    ok_as _ _ c.add_named-in-Compare-2.result
    (λ h. named.at_level c.args.expr.now old new (Compare c.in-Compare.field-0 a b) (λ x. left x ⊎ right x)
    (opened.opened-compare c.args.expr.now c.in-Compare.field-0 a b c.in-Compare.is)
    (λ x d. named.of_compare x c.in-Compare.field-0 a b d)
    (λ x d. elim d [ inl l ↦ m.in_left l | inr r ↦ m.in_right r ])
    (added.adds_then left right (λ x. left x ⊎ right x) old mid new first
    (subst (λ (z : Expr VarId). Adds (λ x. Mentions x (out-Expr VarId z)) mid new) c.deref-in-Compare-2.ensures h)
    (λ x d. d) (λ x d. inl d) (λ x d. inr d))) c.add_named-in-Compare-2.ensures

pub add_named-returns-in-Sum : goal.add_named-returns-in-Sum
add_named-returns-in-Sum t c =
    let ps = c.in-Sum.parts in
    ok_as _ _ c.add_parts.result (λ h. named.at_level c.args.expr.now c.args.found.now.items c.add_parts.new.found.items
    (Sum ps) (λ x. Parts_mention x ps.items) (opened.opened-sum c.args.expr.now ps c.in-Sum.is)
    (λ x d. named.of_sum x ps d) (λ x d. m.in_sum d)
    (subst (λ (z : List (Bool × Expr VarId)). Adds (λ x. Parts_mention x z) c.args.found.now.items
    c.add_parts.new.found.items) c.deref-in-Sum.ensures.value h)) c.add_parts.ensures

pub add_named-returns-in_ok-add_cases-in-Choose : goal.add_named-returns-in_ok-add_cases-in-Choose
add_named-returns-in_ok-add_cases-in-Choose t c =
    let cs = c.in-Choose.cases in
    let other = c.in-Choose.other in
    let old = c.args.found.now.items in
    let mid = c.add_cases.new.found.items in
    let new = c.add_named-in-Choose.new.found.items in
    let left : VarId → Type 0 = λ x. Cases_mention x cs.items in
    let right : VarId → Type 0 = λ x. Mentions x (out-Expr VarId other.value) in
    let first = subst (λ (z : List (Expr VarId × Expr VarId)). Adds (λ x. Cases_mention x z) old mid)
    c.deref-in-Choose.ensures.value c.in_ok-add_cases-in-Choose.ensures in
    ok_as _ _ c.add_named-in-Choose.result
    (λ h. named.at_level c.args.expr.now old new (Choose cs other) (λ x. left x ⊎ right x)
    (opened.opened-choice c.args.expr.now cs other c.in-Choose.is)
    (λ x d. named.of_choose x cs other d) (λ x d. elim d [ inl l ↦ m.in_cases l | inr r ↦ m.in_other r ])
    (added.adds_then left right (λ x. left x ⊎ right x) old mid new first
    (subst (λ (z : Expr VarId). Adds (λ x. Mentions x (out-Expr VarId z)) mid new) c.deref-in-Choose-2.ensures h)
    (λ x d. d) (λ x d. inl d) (λ x d. inr d))) c.add_named-in-Choose.ensures

pub add_named-returns-in-All : goal.add_named-returns-in-All
add_named-returns-in-All t c =
    let es = c.in-All.es in
    ok_as _ _ c.add_some.result (λ h. named.at_level c.args.expr.now c.args.found.now.items c.add_some.new.found.items
    (All es) (λ x. Some_mentions x es.items) (opened.opened-all c.args.expr.now es c.in-All.is)
    (λ x d. named.of_all x es d) (λ x d. m.in_all d)
    (subst (λ (z : List (Expr VarId)). Adds (λ x. Some_mentions x z) c.args.found.now.items
    c.add_some.new.found.items) c.deref-in-All.ensures.value h)) c.add_some.ensures

pub add_named-returns-in-Any : goal.add_named-returns-in-Any
add_named-returns-in-Any t c =
    let es = c.in-Any.es in
    ok_as _ _ c.add_some-in-Any.result
    (λ h. named.at_level c.args.expr.now c.args.found.now.items c.add_some-in-Any.new.found.items (Any es)
    (λ x. Some_mentions x es.items) (opened.opened-any c.args.expr.now es c.in-Any.is)
    (λ x d. named.of_any x es d) (λ x d. m.in_any d)
    (subst (λ (z : List (Expr VarId)). Adds (λ x. Some_mentions x z) c.args.found.now.items
    c.add_some-in-Any.new.found.items) c.deref-in-Any.ensures.value h)) c.add_some-in-Any.ensures

pub add_named-returns-in-Product : goal.add_named-returns-in-Product
add_named-returns-in-Product t c =
    let es = c.in-Product.es in
    ok_as _ _ c.add_some-in-Product.result
    (λ h. named.at_level c.args.expr.now c.args.found.now.items c.add_some-in-Product.new.found.items (Product es)
    (λ x. Some_mentions x es.items) (opened.opened-product c.args.expr.now es c.in-Product.is)
    (λ x d. named.of_product x es d) (λ x d. m.in_product d)
    (subst (λ (z : List (Expr VarId)). Adds (λ x. Some_mentions x z) c.args.found.now.items
    c.add_some-in-Product.new.found.items) c.deref-in-Product.ensures.value h)) c.add_some-in-Product.ensures

pub add_named-returns-in-Least : goal.add_named-returns-in-Least
add_named-returns-in-Least t c =
    let es = c.in-Least.es in
    ok_as _ _ c.add_some-in-Least.result
    (λ h. named.at_level c.args.expr.now c.args.found.now.items c.add_some-in-Least.new.found.items (Least es)
    (λ x. Some_mentions x es.items) (opened.opened-least c.args.expr.now es c.in-Least.is)
    (λ x d. named.of_least x es d) (λ x d. m.in_least d)
    (subst (λ (z : List (Expr VarId)). Adds (λ x. Some_mentions x z) c.args.found.now.items
    c.add_some-in-Least.new.found.items) c.deref-in-Least.ensures.value h)) c.add_some-in-Least.ensures

pub add_named-returns-in-Greatest : goal.add_named-returns-in-Greatest
add_named-returns-in-Greatest t c =
    let es = c.in-Greatest.es in
    ok_as _ _ c.add_some-in-Greatest.result
    (λ h. named.at_level c.args.expr.now c.args.found.now.items c.add_some-in-Greatest.new.found.items (Greatest es)
    (λ x. Some_mentions x es.items) (opened.opened-greatest c.args.expr.now es c.in-Greatest.is)
    (λ x d. named.of_greatest x es d) (λ x d. m.in_greatest d)
    (subst (λ (z : List (Expr VarId)). Adds (λ x. Some_mentions x z) c.args.found.now.items
    c.add_some-in-Greatest.new.found.items) c.deref-in-Greatest.ensures.value h)) c.add_some-in-Greatest.ensures

pub add_named-returns-in-Count : goal.add_named-returns-in-Count
add_named-returns-in-Count t c =
    let es = c.in-Count.es in
    ok_as _ _ c.add_some-in-Count.result
    (λ h. named.at_level c.args.expr.now c.args.found.now.items c.add_some-in-Count.new.found.items (Count es)
    (λ x. Some_mentions x es.items) (opened.opened-count c.args.expr.now es c.in-Count.is)
    (λ x d. named.of_count x es d) (λ x d. m.in_count d)
    (subst (λ (z : List (Expr VarId)). Adds (λ x. Some_mentions x z) c.args.found.now.items
    c.add_some-in-Count.new.found.items) c.deref-in-Count.ensures.value h)) c.add_some-in-Count.ensures

pub add_some-loop-e-init : goal.add_some-loop-e-init
add_some-loop-e-init t c = added.remains_start _ _

pub add_some-loop-e-preserved : goal.add_some-loop-e-preserved
add_some-loop-e-preserved t c = named.some_on _ _ _ c.args.es.now c.loop-e.e-index c.e-item.result c.loop-e-test.true
    c.e-item.is c.loop-e.invariant c.in_ok-add_named.ensures

pub add_some-returns : goal.add_some-returns
add_some-returns t c = named.some_all _ _ c.args.es.now c.loop-e.e-index c.loop-e-test.false c.loop-e.invariant

pub add_parts-loop-e-init : goal.add_parts-loop-e-init
add_parts-loop-e-init t c = added.remains_start _ _

pub add_parts-loop-e-preserved : goal.add_parts-loop-e-preserved
add_parts-loop-e-preserved t c = named.parts_on _ _ _ c.args.parts.now c.loop-e.e-index c.loop-e-item.result
    c.loop-e-test.true c.loop-e-item.is c.loop-e.invariant c.in_ok-add_named.ensures

pub add_parts-returns : goal.add_parts-returns
add_parts-returns t c = named.parts_all _ _ c.args.parts.now c.loop-e.e-index c.loop-e-test.false c.loop-e.invariant

pub add_cases-loop-test-init : goal.add_cases-loop-test-init
add_cases-loop-test-init t c = added.remains_start _ _

pub add_cases-loop-test-preserved : goal.add_cases-loop-test-preserved
add_cases-loop-test-preserved t c =
    named.cases_on _ _ _ _ c.args.cases.now c.loop-test.test-index c.loop-test-item.result c.loop-test-test.true
    c.loop-test-item.is c.loop-test.invariant c.in_ok-add_named.ensures c.in_ok-add_named-2.ensures

pub add_cases-returns : goal.add_cases-returns
add_cases-returns t c = named.cases_all _ _ c.args.cases.now c.loop-test.test-index c.loop-test-test.false
    c.loop-test.invariant

-- each call is of something smaller
pub add_named-add_named-requires : goal.add_named-add_named-requires
add_named-add_named-requires t c = (
  smaller.one_falls _ _ t
      (smaller.less-not c.args.expr.now c.deref.result.now c.in-Not.a c.in-Not.is c.deref.ensures) c.decreases,
  tt,
)

pub add_named-add_some-requires : goal.add_named-add_some-requires
add_named-add_some-requires t c = (
  smaller.list_falls _ _ t
      (smaller.less-all c.args.expr.now c.in-All.es c.deref-in-All.result.now c.in-All.is
      c.deref-in-All.ensures.value) c.decreases,
  tt,
)

pub add_named-add_some-requires-in-Any : goal.add_named-add_some-requires-in-Any
add_named-add_some-requires-in-Any t c = (
  smaller.list_falls _ _ t
      (smaller.less-any c.args.expr.now c.in-Any.es c.deref-in-Any.result.now c.in-Any.is
      c.deref-in-Any.ensures.value) c.decreases,
  tt,
)

pub add_named-add_some-requires-in-Product : goal.add_named-add_some-requires-in-Product
add_named-add_some-requires-in-Product t c = (
  smaller.list_falls _ _ t
      (smaller.less-product c.args.expr.now c.in-Product.es c.deref-in-Product.result.now c.in-Product.is
      c.deref-in-Product.ensures.value) c.decreases,
  tt,
)

pub add_named-add_some-requires-in-Least : goal.add_named-add_some-requires-in-Least
add_named-add_some-requires-in-Least t c = (
  smaller.list_falls _ _ t
      (smaller.less-least c.args.expr.now c.in-Least.es c.deref-in-Least.result.now c.in-Least.is
      c.deref-in-Least.ensures.value) c.decreases,
  tt,
)

pub add_named-add_some-requires-in-Greatest : goal.add_named-add_some-requires-in-Greatest
add_named-add_some-requires-in-Greatest t c = (
  smaller.list_falls _ _ t
      (smaller.less-greatest c.args.expr.now c.in-Greatest.es c.deref-in-Greatest.result.now c.in-Greatest.is
      c.deref-in-Greatest.ensures.value) c.decreases,
  tt,
)

pub add_named-add_some-requires-in-Count : goal.add_named-add_some-requires-in-Count
add_named-add_some-requires-in-Count t c = (
  smaller.list_falls _ _ t
      (smaller.less-count c.args.expr.now c.in-Count.es c.deref-in-Count.result.now c.in-Count.is
      c.deref-in-Count.ensures.value) c.decreases,
  tt,
)

pub add_named-add_named-requires-in-Compare : goal.add_named-add_named-requires-in-Compare
add_named-add_named-requires-in-Compare t c = (
  smaller.one_falls _ _ t
      (smaller.less-left c.args.expr.now c.deref-in-Compare.result.now c.in-Compare.field-0 c.in-Compare.a
      c.in-Compare.b c.in-Compare.is c.deref-in-Compare.ensures) c.decreases,
  tt,
)

pub add_named-add_named-requires-in-Compare-2 : goal.add_named-add_named-requires-in-Compare-2
add_named-add_named-requires-in-Compare-2 t c = (
  smaller.one_falls _ _ t
      (smaller.less-right c.args.expr.now c.deref-in-Compare-2.result.now c.in-Compare.field-0 c.in-Compare.a
      c.in-Compare.b c.in-Compare.is c.deref-in-Compare-2.ensures) c.decreases,
  tt,
)

pub add_named-add_parts-requires : goal.add_named-add_parts-requires
add_named-add_parts-requires t c = (
  smaller.list_falls _ _ t
      (smaller.less-parts c.args.expr.now c.in-Sum.parts c.deref-in-Sum.result.now c.in-Sum.is
      c.deref-in-Sum.ensures.value) c.decreases,
  tt,
)

pub add_named-add_cases-requires : goal.add_named-add_cases-requires
add_named-add_cases-requires t c = (
  smaller.list_falls _ _ t
      (smaller.less-cases c.args.expr.now c.in-Choose.cases c.in-Choose.other c.deref-in-Choose.result.now
      c.in-Choose.is c.deref-in-Choose.ensures.value) c.decreases,
  tt,
)

pub add_named-add_named-requires-in-Choose : goal.add_named-add_named-requires-in-Choose
add_named-add_named-requires-in-Choose t c = (
  smaller.one_falls _ _ t
      (smaller.less-other c.args.expr.now c.deref-in-Choose-2.result.now c.in-Choose.cases c.in-Choose.other
      c.in-Choose.is c.deref-in-Choose-2.ensures) c.decreases,
  tt,
)

pub add_some-loop-e-smaller : goal.add_some-loop-e-smaller
add_some-loop-e-smaller t c =
    falls _ c.loop-e.e-index c.loop-e-test.true

pub add_some-add_named-requires : goal.add_some-add_named-requires
add_some-add_named-requires t c = (
  smaller.item_falls _ _ t
      (smaller.up-item c.args.es.now c.loop-e.e-index c.e-item.result c.loop-e-test.true
      c.e-item.is) c.decreases,
  tt,
)

pub add_parts-loop-e-smaller : goal.add_parts-loop-e-smaller
add_parts-loop-e-smaller t c =
    falls _ c.loop-e.e-index c.loop-e-test.true

pub add_parts-add_named-requires : goal.add_parts-add_named-requires
add_parts-add_named-requires t c = (
  smaller.item_falls _ _ t
      (smaller.up-part c.args.parts.now c.loop-e.e-index c.loop-e-item.result c.loop-e-test.true
      c.loop-e-item.is) c.decreases,
  tt,
)

pub add_cases-loop-test-smaller : goal.add_cases-loop-test-smaller
add_cases-loop-test-smaller t c =
    falls _ c.loop-test.test-index c.loop-test-test.true

pub add_cases-add_named-requires : goal.add_cases-add_named-requires
add_cases-add_named-requires t c = (
  smaller.item_falls _ _ t
      (smaller.up-test c.args.cases.now c.loop-test.test-index c.loop-test-item.result c.loop-test-test.true
      c.loop-test-item.is) c.decreases,
  tt,
)

pub add_cases-add_named-requires-in-loop-test : goal.add_cases-add_named-requires-in-loop-test
add_cases-add_named-requires-in-loop-test t c = (
  smaller.item_falls _ _ t
      (smaller.up-value c.args.cases.now c.loop-test.test-index c.loop-test-item.result c.loop-test-test.true
      c.loop-test-item.is) c.decreases,
  tt,
)

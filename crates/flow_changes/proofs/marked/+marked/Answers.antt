use Rattle.std.proofs.Common.{◌≡◌, ◌⊎◌, inl, inr, List, Bool, true, refl, ap, ◌∙◌, sym, subst}
use borrow.Author.Count.{falls}
use Rattle.ar_base.specs.Lists.{Stands}
use Rattle.ar_base.specs.Numbers.{VarId}
use Rattle.typed_expr.specs.Mentions.{Mentions, Some_mentions, Parts_mention, Cases_mention}
use Rattle.typed_expr.specs.Mentions as m
use Rattle.typed_expr.specs.declared.expr.Expr.{Expr, out-Expr}
use Rattle.typed_expr.specs.declared.expr.Expr.TheOpen.{Variable, Not, All, Any, Compare, Sum, Product, Least, Greatest, Count, Choose}
use Rattle.typed_expr.proofs.Opened as opened
use Rattle.ar_meaning.specs.Found.{IsAnswer}
use Rattle.ar_meaning.proofs.Found.{holds, fails}
use Rattle.gts_core.proofs.NamedVariables as named
use Rattle.flow_changes.specs.Known.{MarksEach}
use Rattle.flow_changes.proofs.NamedMarks.{mark_answer, answer_as, at_level, of_two, remains_start, some_on, some_not, some_all, parts_on, parts_not, parts_all, cases_on, cases_not, cases_all}
use Rattle.typed_expr.proofs.Shrinking as smaller
use Rattle.flow_changes.proofs.marked.+marked.Goals as goal

pub is_marked-returns-in-Variable : goal.is_marked-returns-in-Variable
is_marked-returns-in-Variable t c =
    let marks = c.args.marks.now in
    let x = c.in-Variable.x in
    let b = c.is_set.result in
    at_level marks c.args.expr.now (Variable x) (λ y. y ≡ x) b
    (ap (out-Expr VarId) c.in-Variable.is ∙ opened.opened-variable x) (λ y d. named.of_variable y x d)
    (λ y i. subst (λ (z : VarId). Mentions z (Variable x)) (sym i) m.itself)
    (answer_as (Stands marks x.n true) (MarksEach marks (λ y. y ≡ x)) b
    (λ s y i. subst (λ (z : VarId). Stands marks z.n true) (sym i) s) (λ all. all x refl)
    (mark_answer marks x.n b c.is_set.ensures))

pub is_marked-returns-in-Not : goal.is_marked-returns-in-Not
is_marked-returns-in-Not t c =
    let marks = c.args.marks.now in
    let a = c.in-Not.a in
    let b = c.is_marked.result in
    at_level marks c.args.expr.now (Not a) (λ x. Mentions x (out-Expr VarId a.value)) b
    (opened.opened-not c.args.expr.now a c.in-Not.is) (λ x d. named.of_not x a d) (λ x d. m.in_not d)
    (subst (λ (z : Expr VarId). IsAnswer b (MarksEach marks (λ x. Mentions x (out-Expr VarId z)))) c.deref.ensures
    c.is_marked.ensures)

pub is_marked-returns-in-Compare : goal.is_marked-returns-in-Compare
is_marked-returns-in-Compare t c =
    let marks = c.args.marks.now in
    let r = c.in-Compare.field-0 in
    let a = c.in-Compare.a in
    let b = c.in-Compare.b in
    let left = subst (λ (z : Expr VarId). IsAnswer c.is_marked-in-Compare.result
    (MarksEach marks (λ x. Mentions x (out-Expr VarId z)))) c.deref-in-Compare.ensures
    c.is_marked-in-Compare.ensures in
    let right = subst (λ (z : Expr VarId). IsAnswer c.is_marked-in-Compare-2.result
    (MarksEach marks (λ x. Mentions x (out-Expr VarId z)))) c.deref-in-Compare-2.ensures
    c.is_marked-in-Compare-2.ensures in
    at_level marks c.args.expr.now (Compare r a b)
    (λ x. Mentions x (out-Expr VarId a.value) ⊎ Mentions x (out-Expr VarId b.value)) c.both.result
    (opened.opened-compare c.args.expr.now r a b c.in-Compare.is)
    (λ x d. named.of_compare x r a b d) (λ x d. elim d [ inl h ↦ m.in_left h | inr h ↦ m.in_right h ])
    (of_two marks (λ x. Mentions x (out-Expr VarId a.value)) (λ x. Mentions x (out-Expr VarId b.value))
    c.is_marked-in-Compare.result c.is_marked-in-Compare-2.result c.both.result c.both.ensures left right)

pub is_marked-returns-in-Sum : goal.is_marked-returns-in-Sum
is_marked-returns-in-Sum t c =
    let marks = c.args.marks.now in
    let ps = c.in-Sum.parts in
    let b = c.parts_marked.result in
    at_level marks c.args.expr.now (Sum ps) (λ x. Parts_mention x ps.items) b
    (opened.opened-sum c.args.expr.now ps c.in-Sum.is) (λ x d. named.of_sum x ps d) (λ x d. m.in_sum d)
    (subst (λ (z : List (Bool × Expr VarId)). IsAnswer b (MarksEach marks (λ x. Parts_mention x z)))
    c.deref-in-Sum.ensures.value c.parts_marked.ensures)

pub is_marked-returns-in-Choose : goal.is_marked-returns-in-Choose
is_marked-returns-in-Choose t c =
    let marks = c.args.marks.now in
    let cs = c.in-Choose.cases in
    let other = c.in-Choose.other in
    let left = subst (λ (z : List (Expr VarId × Expr VarId)). IsAnswer c.cases_marked.result
    (MarksEach marks (λ x. Cases_mention x z))) c.deref-in-Choose.ensures.value c.cases_marked.ensures in
    let right = subst (λ (z : Expr VarId). IsAnswer c.is_marked-in-Choose.result
    (MarksEach marks (λ x. Mentions x (out-Expr VarId z)))) c.deref-in-Choose-2.ensures
    c.is_marked-in-Choose.ensures in
    at_level marks c.args.expr.now (Choose cs other)
    (λ x. Cases_mention x cs.items ⊎ Mentions x (out-Expr VarId other.value)) c.both-in-Choose.result
    (opened.opened-choice c.args.expr.now cs other c.in-Choose.is)
    (λ x d. named.of_choose x cs other d) (λ x d. elim d [ inl h ↦ m.in_cases h | inr h ↦ m.in_other h ])
    (of_two marks (λ x. Cases_mention x cs.items) (λ x. Mentions x (out-Expr VarId other.value)) c.cases_marked.result
    c.is_marked-in-Choose.result c.both-in-Choose.result c.both-in-Choose.ensures left right)

pub is_marked-returns-in-All : goal.is_marked-returns-in-All
is_marked-returns-in-All t c =
    let marks = c.args.marks.now in
    let es = c.in-All.es in
    let b = c.some_marked.result in
    at_level marks c.args.expr.now (All es) (λ x. Some_mentions x es.items) b
    (opened.opened-all c.args.expr.now es c.in-All.is) (λ x d. named.of_all x es d) (λ x d. m.in_all d)
    (subst (λ (z : List (Expr VarId)). IsAnswer b (MarksEach marks (λ x. Some_mentions x z)))
    c.deref-in-All.ensures.value c.some_marked.ensures)

pub is_marked-returns-in-Any : goal.is_marked-returns-in-Any
is_marked-returns-in-Any t c =
    let marks = c.args.marks.now in
    let es = c.in-Any.es in
    let b = c.some_marked-in-Any.result in
    at_level marks c.args.expr.now (Any es) (λ x. Some_mentions x es.items) b
    (opened.opened-any c.args.expr.now es c.in-Any.is) (λ x d. named.of_any x es d) (λ x d. m.in_any d)
    (subst (λ (z : List (Expr VarId)). IsAnswer b (MarksEach marks (λ x. Some_mentions x z)))
    c.deref-in-Any.ensures.value c.some_marked-in-Any.ensures)

pub is_marked-returns-in-Product : goal.is_marked-returns-in-Product
is_marked-returns-in-Product t c =
    let marks = c.args.marks.now in
    let es = c.in-Product.es in
    let b = c.some_marked-in-Product.result in
    at_level marks c.args.expr.now (Product es) (λ x. Some_mentions x es.items) b
    (opened.opened-product c.args.expr.now es c.in-Product.is) (λ x d. named.of_product x es d)
    (λ x d. m.in_product d)
    (subst (λ (z : List (Expr VarId)). IsAnswer b (MarksEach marks (λ x. Some_mentions x z)))
    c.deref-in-Product.ensures.value c.some_marked-in-Product.ensures)

pub is_marked-returns-in-Least : goal.is_marked-returns-in-Least
is_marked-returns-in-Least t c =
    let marks = c.args.marks.now in
    let es = c.in-Least.es in
    let b = c.some_marked-in-Least.result in
    at_level marks c.args.expr.now (Least es) (λ x. Some_mentions x es.items) b
    (opened.opened-least c.args.expr.now es c.in-Least.is) (λ x d. named.of_least x es d) (λ x d. m.in_least d)
    (subst (λ (z : List (Expr VarId)). IsAnswer b (MarksEach marks (λ x. Some_mentions x z)))
    c.deref-in-Least.ensures.value c.some_marked-in-Least.ensures)

pub is_marked-returns-in-Greatest : goal.is_marked-returns-in-Greatest
is_marked-returns-in-Greatest t c =
    let marks = c.args.marks.now in
    let es = c.in-Greatest.es in
    let b = c.some_marked-in-Greatest.result in
    at_level marks c.args.expr.now (Greatest es) (λ x. Some_mentions x es.items) b
    (opened.opened-greatest c.args.expr.now es c.in-Greatest.is) (λ x d. named.of_greatest x es d)
    (λ x d. m.in_greatest d)
    (subst (λ (z : List (Expr VarId)). IsAnswer b (MarksEach marks (λ x. Some_mentions x z)))
    c.deref-in-Greatest.ensures.value c.some_marked-in-Greatest.ensures)

pub is_marked-returns-in-Count : goal.is_marked-returns-in-Count
is_marked-returns-in-Count t c =
    let marks = c.args.marks.now in
    let es = c.in-Count.es in
    let b = c.some_marked-in-Count.result in
    at_level marks c.args.expr.now (Count es) (λ x. Some_mentions x es.items) b
    (opened.opened-count c.args.expr.now es c.in-Count.is) (λ x d. named.of_count x es d) (λ x d. m.in_count d)
    (subst (λ (z : List (Expr VarId)). IsAnswer b (MarksEach marks (λ x. Some_mentions x z)))
    c.deref-in-Count.ensures.value c.some_marked-in-Count.ensures)

pub some_marked-loop-e-init : goal.some_marked-loop-e-init
some_marked-loop-e-init t c = remains_start _ _

pub some_marked-loop-e-preserved : goal.some_marked-loop-e-preserved
some_marked-loop-e-preserved t c =
    some_on c.args.marks.now c.args.es.now c.loop-e.e-index c.e-item.result c.loop-e-test.true c.e-item.is
    c.loop-e.invariant
    (holds _ c.is_marked.result c.if-not-is_marked.false c.is_marked.ensures)

pub some_marked-returns : goal.some_marked-returns
some_marked-returns t c = some_all c.args.marks.now c.args.es.now c.loop-e.e-index c.loop-e-test.false
    c.loop-e.invariant

pub some_marked-returns-then-not-is_marked : goal.some_marked-returns-then-not-is_marked
some_marked-returns-then-not-is_marked t c =
    some_not c.args.marks.now c.args.es.now c.loop-e.e-index c.e-item.result c.loop-e-test.true c.e-item.is
    c.loop-e.invariant
    (fails _ c.is_marked.result c.if-not-is_marked.true c.is_marked.ensures)

pub parts_marked-loop-e-init : goal.parts_marked-loop-e-init
parts_marked-loop-e-init t c = remains_start _ _

pub parts_marked-loop-e-preserved : goal.parts_marked-loop-e-preserved
parts_marked-loop-e-preserved t c =
    parts_on c.args.marks.now c.args.parts.now c.loop-e.e-index c.loop-e-item.result c.loop-e-test.true c.loop-e-item.is
    c.loop-e.invariant
    (holds _ c.is_marked.result c.if-not-is_marked.false c.is_marked.ensures)

pub parts_marked-returns : goal.parts_marked-returns
parts_marked-returns t c = parts_all c.args.marks.now c.args.parts.now c.loop-e.e-index c.loop-e-test.false
    c.loop-e.invariant

pub parts_marked-returns-then-not-is_marked : goal.parts_marked-returns-then-not-is_marked
parts_marked-returns-then-not-is_marked t c =
    parts_not c.args.marks.now c.args.parts.now c.loop-e.e-index c.loop-e-item.result c.loop-e-test.true
    c.loop-e-item.is c.loop-e.invariant
    (fails _ c.is_marked.result c.if-not-is_marked.true c.is_marked.ensures)

pub cases_marked-loop-test-init : goal.cases_marked-loop-test-init
cases_marked-loop-test-init t c = remains_start _ _

pub cases_marked-loop-test-preserved : goal.cases_marked-loop-test-preserved
cases_marked-loop-test-preserved t c =
    let marks = c.args.marks.now in
    let o = c.loop-test-item.result in
    let two = of_two marks (λ x. Mentions x (out-Expr VarId o.0)) (λ x. Mentions x (out-Expr VarId o.1))
    c.is_marked.result c.is_marked-in-loop-test.result c.both.result c.both.ensures c.is_marked.ensures
    c.is_marked-in-loop-test.ensures in
    cases_on marks c.args.cases.now c.loop-test.test-index o c.loop-test-test.true c.loop-test-item.is
    c.loop-test.invariant (holds _ c.both.result c.if-not-both.false two)

pub cases_marked-returns : goal.cases_marked-returns
cases_marked-returns t c = cases_all c.args.marks.now c.args.cases.now c.loop-test.test-index c.loop-test-test.false
    c.loop-test.invariant

pub cases_marked-returns-then-not-both : goal.cases_marked-returns-then-not-both
cases_marked-returns-then-not-both t c =
    let marks = c.args.marks.now in
    let o = c.loop-test-item.result in
    let two = of_two marks (λ x. Mentions x (out-Expr VarId o.0)) (λ x. Mentions x (out-Expr VarId o.1))
    c.is_marked.result c.is_marked-in-loop-test.result c.both.result c.both.ensures c.is_marked.ensures
    c.is_marked-in-loop-test.ensures in
    cases_not marks c.args.cases.now c.loop-test.test-index o c.loop-test-test.true c.loop-test-item.is
    c.loop-test.invariant (fails _ c.both.result c.if-not-both.true two)

pub is_marked-is_marked-requires : goal.is_marked-is_marked-requires
is_marked-is_marked-requires t c = (
  smaller.one_falls _ _ t
      (smaller.less-not c.args.expr.now c.deref.result.now c.in-Not.a c.in-Not.is c.deref.ensures) c.decreases,
  tt,
)

pub is_marked-some_marked-requires : goal.is_marked-some_marked-requires
is_marked-some_marked-requires t c = (
  smaller.list_falls _ _ t
      (smaller.less-all c.args.expr.now c.in-All.es c.deref-in-All.result.now c.in-All.is
      c.deref-in-All.ensures.value) c.decreases,
  tt,
)

pub is_marked-some_marked-requires-in-Any : goal.is_marked-some_marked-requires-in-Any
is_marked-some_marked-requires-in-Any t c = (
  smaller.list_falls _ _ t
      (smaller.less-any c.args.expr.now c.in-Any.es c.deref-in-Any.result.now c.in-Any.is
      c.deref-in-Any.ensures.value) c.decreases,
  tt,
)

pub is_marked-some_marked-requires-in-Product : goal.is_marked-some_marked-requires-in-Product
is_marked-some_marked-requires-in-Product t c = (
  smaller.list_falls _ _ t
      (smaller.less-product c.args.expr.now c.in-Product.es c.deref-in-Product.result.now c.in-Product.is
      c.deref-in-Product.ensures.value) c.decreases,
  tt,
)

pub is_marked-some_marked-requires-in-Least : goal.is_marked-some_marked-requires-in-Least
is_marked-some_marked-requires-in-Least t c = (
  smaller.list_falls _ _ t
      (smaller.less-least c.args.expr.now c.in-Least.es c.deref-in-Least.result.now c.in-Least.is
      c.deref-in-Least.ensures.value) c.decreases,
  tt,
)

pub is_marked-some_marked-requires-in-Greatest : goal.is_marked-some_marked-requires-in-Greatest
is_marked-some_marked-requires-in-Greatest t c = (
  smaller.list_falls _ _ t
      (smaller.less-greatest c.args.expr.now c.in-Greatest.es c.deref-in-Greatest.result.now c.in-Greatest.is
      c.deref-in-Greatest.ensures.value) c.decreases,
  tt,
)

pub is_marked-some_marked-requires-in-Count : goal.is_marked-some_marked-requires-in-Count
is_marked-some_marked-requires-in-Count t c = (
  smaller.list_falls _ _ t
      (smaller.less-count c.args.expr.now c.in-Count.es c.deref-in-Count.result.now c.in-Count.is
      c.deref-in-Count.ensures.value) c.decreases,
  tt,
)

pub is_marked-is_marked-requires-in-Compare : goal.is_marked-is_marked-requires-in-Compare
is_marked-is_marked-requires-in-Compare t c = (
  smaller.one_falls _ _ t
      (smaller.less-left c.args.expr.now c.deref-in-Compare.result.now c.in-Compare.field-0 c.in-Compare.a
      c.in-Compare.b c.in-Compare.is c.deref-in-Compare.ensures) c.decreases,
  tt,
)

pub is_marked-is_marked-requires-in-Compare-2 : goal.is_marked-is_marked-requires-in-Compare-2
is_marked-is_marked-requires-in-Compare-2 t c = (
  smaller.one_falls _ _ t
      (smaller.less-right c.args.expr.now c.deref-in-Compare-2.result.now c.in-Compare.field-0 c.in-Compare.a
      c.in-Compare.b c.in-Compare.is c.deref-in-Compare-2.ensures) c.decreases,
  tt,
)

pub is_marked-parts_marked-requires : goal.is_marked-parts_marked-requires
is_marked-parts_marked-requires t c = (
  smaller.list_falls _ _ t
      (smaller.less-parts c.args.expr.now c.in-Sum.parts c.deref-in-Sum.result.now c.in-Sum.is
      c.deref-in-Sum.ensures.value) c.decreases,
  tt,
)

pub is_marked-cases_marked-requires : goal.is_marked-cases_marked-requires
is_marked-cases_marked-requires t c = (
  smaller.list_falls _ _ t
      (smaller.less-cases c.args.expr.now c.in-Choose.cases c.in-Choose.other c.deref-in-Choose.result.now
      c.in-Choose.is c.deref-in-Choose.ensures.value) c.decreases,
  tt,
)

pub is_marked-is_marked-requires-in-Choose : goal.is_marked-is_marked-requires-in-Choose
is_marked-is_marked-requires-in-Choose t c = (
  smaller.one_falls _ _ t
      (smaller.less-other c.args.expr.now c.deref-in-Choose-2.result.now c.in-Choose.cases c.in-Choose.other
      c.in-Choose.is c.deref-in-Choose-2.ensures) c.decreases,
  tt,
)

pub some_marked-is_marked-requires : goal.some_marked-is_marked-requires
some_marked-is_marked-requires t c = (
  smaller.item_falls _ _ t
      (smaller.up-item c.args.es.now c.loop-e.e-index c.e-item.result c.loop-e-test.true c.e-item.is) c.decreases,
  tt,
)

pub parts_marked-is_marked-requires : goal.parts_marked-is_marked-requires
parts_marked-is_marked-requires t c = (
  smaller.item_falls _ _ t
      (smaller.up-part c.args.parts.now c.loop-e.e-index c.loop-e-item.result c.loop-e-test.true
      c.loop-e-item.is) c.decreases,
  tt,
)

pub cases_marked-is_marked-requires : goal.cases_marked-is_marked-requires
cases_marked-is_marked-requires t c = (
  smaller.item_falls _ _ t
      (smaller.up-test c.args.cases.now c.loop-test.test-index c.loop-test-item.result c.loop-test-test.true
      c.loop-test-item.is) c.decreases,
  tt,
)

pub cases_marked-is_marked-requires-in-loop-test : goal.cases_marked-is_marked-requires-in-loop-test
cases_marked-is_marked-requires-in-loop-test t c = (
  smaller.item_falls _ _ t
      (smaller.up-value c.args.cases.now c.loop-test.test-index c.loop-test-item.result c.loop-test-test.true
      c.loop-test-item.is) c.decreases,
  tt,
)

pub some_marked-loop-e-smaller : goal.some_marked-loop-e-smaller
some_marked-loop-e-smaller t c = falls _ c.loop-e.e-index c.loop-e-test.true

pub parts_marked-loop-e-smaller : goal.parts_marked-loop-e-smaller
parts_marked-loop-e-smaller t c = falls _ c.loop-e.e-index c.loop-e-test.true

pub cases_marked-loop-test-smaller : goal.cases_marked-loop-test-smaller
cases_marked-loop-test-smaller t c = falls _ c.loop-test.test-index c.loop-test-test.true

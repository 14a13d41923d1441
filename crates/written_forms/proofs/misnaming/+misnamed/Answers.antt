use Rattle.std.proofs.Common.{◌++◌, ◌∷◌, [], List, Bool, arith, sym, ◌∙◌, subst}
use Rattle.ar_syntax.specs.declared.expressions.RawExpr.{RawExpr}
use Rattle.ar_syntax.specs.declared.expressions.RawForm.TheOpen as raw
use Rattle.ar_syntax.proofs.Opened as opened
use Rattle.class_table.specs.Earliest.{IsEarliest}
use Rattle.class_table.proofs.FirstPlaces.{earliest_both}
use Rattle.class_table.proofs.Taken.{item_stands}
use Rattle.class_table.proofs.Looping.{loop_start, loop_next, loop_end}
use Rattle.written_forms.specs.Operands.{level_of, wanting, OfKind, Like, each_wanting, terms, tests, branches, first_branch}
use Rattle.typed_expr.specs.declared.expr.ValueKind.TheVariants.{Truth, Whole}
use Rattle.written_forms.specs.Wrong.{IsMisnamed}
use Rattle.written_forms.specs.WrongInside.{IsNamedPath, Among, MisnamedOperand}
use Rattle.written_forms.proofs.Gathering.{none_among, one_among, both_among, mapped_to, mapped_back, paired_to, paired_back}
use Rattle.written_forms.proofs.MisnamedForms as misnamed
use Rattle.typed_expr.proofs.Shrinking as falls
use Rattle.written_forms.proofs.Shrinking as smaller
use borrow.Author.Count as count
use Rattle.written_forms.proofs.misnaming.+misnamed.Goals as goal

pub first_misnamed-returns-in-Truth : goal.first_misnamed-returns-in-Truth
first_misnamed-returns-in-Truth g t c =
    let may = (IsNamedPath (g.N.Naming.kind_at c.args.naming.now)) in
    misnamed.misnamed_inside may c.args.expr.now _ _ (opened.form-truth _ _ c.in-Truth.is) (λ p e. cc)
    (none_among (MisnamedOperand may))

pub first_misnamed-returns-in-Whole : goal.first_misnamed-returns-in-Whole
first_misnamed-returns-in-Whole g t c =
    let may = (IsNamedPath (g.N.Naming.kind_at c.args.naming.now)) in
    misnamed.misnamed_inside may c.args.expr.now _ _ (opened.form-whole _ _ c.in-Whole.is) (λ p e. cc)
    (none_among (MisnamedOperand may))

pub first_misnamed-returns-in-Real : goal.first_misnamed-returns-in-Real
first_misnamed-returns-in-Real g t c =
    let may = (IsNamedPath (g.N.Naming.kind_at c.args.naming.now)) in
    misnamed.misnamed_inside may c.args.expr.now raw.Real _ (opened.form-real _ c.in-Real.is) (λ p e. cc)
    (none_among (MisnamedOperand may))

pub first_misnamed-returns-in-Some : goal.first_misnamed-returns-in-Some
first_misnamed-returns-in-Some g t c =
    let may = (IsNamedPath (g.N.Naming.kind_at c.args.naming.now)) in
    misnamed.path_at may c.args.expr.now c.in-Path.path _ (opened.form-path _ _ c.in-Path.is)
    (misnamed.path_named may c.in-Path.path (c.in-Some.field-0, sym c.kind.ensures ∙ c.in-Some.is))

pub first_misnamed-returns-in-None : goal.first_misnamed-returns-in-None
first_misnamed-returns-in-None g t c =
    let may = (IsNamedPath (g.N.Naming.kind_at c.args.naming.now)) in
    misnamed.path_at may c.args.expr.now c.in-Path.path _ (opened.form-path _ _ c.in-Path.is)
    (misnamed.path_unnamed may c.in-Path.path (λ h. let e = h.1 in let d = c.kind.ensures in let i = c.in-None.is in cc))

pub first_misnamed-returns-in-Not : goal.first_misnamed-returns-in-Not
first_misnamed-returns-in-Not g t c =
    let may = (IsNamedPath (g.N.Naming.kind_at c.args.naming.now)) in
    let h = subst (λ (e : RawExpr). IsEarliest (IsMisnamed may (level_of e)) c.first_misnamed.result) c.deref.ensures
    c.first_misnamed.ensures in
    misnamed.misnamed_inside may c.args.expr.now (raw.Not c.in-Not.a) c.first_misnamed.result
    (opened.form-not _ _ c.in-Not.is) (λ p e. cc)
    (one_among (MisnamedOperand may) (wanting (OfKind Truth) c.in-Not.a.value) c.first_misnamed.result h)

pub first_misnamed-returns-in-Minus : goal.first_misnamed-returns-in-Minus
first_misnamed-returns-in-Minus g t c =
    let may = (IsNamedPath (g.N.Naming.kind_at c.args.naming.now)) in
    let h = subst (λ (e : RawExpr). IsEarliest (IsMisnamed may (level_of e)) c.first_misnamed-in-Minus.result)
    c.deref-in-Minus.ensures c.first_misnamed-in-Minus.ensures in
    misnamed.misnamed_inside may c.args.expr.now (raw.Minus c.in-Minus.a) c.first_misnamed-in-Minus.result
    (opened.form-minus _ _ c.in-Minus.is) (λ p e. cc)
    (one_among (MisnamedOperand may) (wanting (OfKind Whole) c.in-Minus.a.value) c.first_misnamed-in-Minus.result h)

pub first_misnamed-returns-in-All : goal.first_misnamed-returns-in-All
first_misnamed-returns-in-All g t c =
    let may = (IsNamedPath (g.N.Naming.kind_at c.args.naming.now)) in
    let h = subst (λ (es : List RawExpr). IsEarliest (Among (MisnamedOperand may) (each_wanting (OfKind Truth) es))
    c.misnamed_in.result) c.deref-in-All.ensures.value (c.misnamed_in.ensures (OfKind Truth)) in
    misnamed.misnamed_inside may c.args.expr.now (raw.All c.in-All.es) c.misnamed_in.result
    (opened.form-all _ _ c.in-All.is) (λ p e. cc) h

pub first_misnamed-returns-in-Any : goal.first_misnamed-returns-in-Any
first_misnamed-returns-in-Any g t c =
    let may = (IsNamedPath (g.N.Naming.kind_at c.args.naming.now)) in
    let h = subst (λ (es : List RawExpr). IsEarliest (Among (MisnamedOperand may) (each_wanting (OfKind Truth) es))
    c.misnamed_in-in-Any.result) c.deref-in-Any.ensures.value (c.misnamed_in-in-Any.ensures (OfKind Truth)) in
    misnamed.misnamed_inside may c.args.expr.now (raw.Any c.in-Any.es) c.misnamed_in-in-Any.result
    (opened.form-any _ _ c.in-Any.is) (λ p e. cc) h

pub first_misnamed-returns-in-Product : goal.first_misnamed-returns-in-Product
first_misnamed-returns-in-Product g t c =
    let may = (IsNamedPath (g.N.Naming.kind_at c.args.naming.now)) in
    let h = subst (λ (es : List RawExpr). IsEarliest (Among (MisnamedOperand may) (each_wanting (OfKind Whole) es))
    c.misnamed_in-in-Product.result) c.deref-in-Product.ensures.value
    (c.misnamed_in-in-Product.ensures (OfKind Whole)) in
    misnamed.misnamed_inside may c.args.expr.now (raw.Product c.in-Product.es) c.misnamed_in-in-Product.result
    (opened.form-product _ _ c.in-Product.is) (λ p e. cc) h

pub first_misnamed-returns-in-Least : goal.first_misnamed-returns-in-Least
first_misnamed-returns-in-Least g t c =
    let may = (IsNamedPath (g.N.Naming.kind_at c.args.naming.now)) in
    let h = subst (λ (es : List RawExpr). IsEarliest (Among (MisnamedOperand may) (each_wanting (OfKind Whole) es))
    c.misnamed_in-in-Least.result) c.deref-in-Least.ensures.value
    (c.misnamed_in-in-Least.ensures (OfKind Whole)) in
    misnamed.misnamed_inside may c.args.expr.now (raw.Least c.in-Least.es) c.misnamed_in-in-Least.result
    (opened.form-least _ _ c.in-Least.is) (λ p e. cc) h

pub first_misnamed-returns-in-Greatest : goal.first_misnamed-returns-in-Greatest
first_misnamed-returns-in-Greatest g t c =
    let may = (IsNamedPath (g.N.Naming.kind_at c.args.naming.now)) in
    let h = subst (λ (es : List RawExpr). IsEarliest (Among (MisnamedOperand may) (each_wanting (OfKind Whole) es))
    c.misnamed_in-in-Greatest.result) c.deref-in-Greatest.ensures.value
    (c.misnamed_in-in-Greatest.ensures (OfKind Whole)) in
    misnamed.misnamed_inside may c.args.expr.now (raw.Greatest c.in-Greatest.es) c.misnamed_in-in-Greatest.result
    (opened.form-greatest _ _ c.in-Greatest.is) (λ p e. cc) h

pub first_misnamed-returns-in-Count : goal.first_misnamed-returns-in-Count
first_misnamed-returns-in-Count g t c =
    let may = (IsNamedPath (g.N.Naming.kind_at c.args.naming.now)) in
    let h = subst (λ (es : List RawExpr). IsEarliest (Among (MisnamedOperand may) (each_wanting (OfKind Truth) es))
    c.misnamed_in-in-Count.result) c.deref-in-Count.ensures.value
    (c.misnamed_in-in-Count.ensures (OfKind Truth)) in
    misnamed.misnamed_inside may c.args.expr.now (raw.Count c.in-Count.es) c.misnamed_in-in-Count.result
    (opened.form-count _ _ c.in-Count.is) (λ p e. cc) h

pub first_misnamed-returns-in-Sum : goal.first_misnamed-returns-in-Sum
first_misnamed-returns-in-Sum g t c =
    let may = (IsNamedPath (g.N.Naming.kind_at c.args.naming.now)) in
    let h = subst (λ (ps : List (Bool × RawExpr)). IsEarliest (Among (MisnamedOperand may) (terms ps))
    c.misnamed_terms.result) c.deref-in-Sum.ensures.value c.misnamed_terms.ensures in
    misnamed.misnamed_inside may c.args.expr.now (raw.Sum c.in-Sum.parts) c.misnamed_terms.result
    (opened.form-sum _ _ c.in-Sum.is) (λ p e. cc) h

pub first_misnamed-returns-in-Compare : goal.first_misnamed-returns-in-Compare
first_misnamed-returns-in-Compare g t c =
    let may = (IsNamedPath (g.N.Naming.kind_at c.args.naming.now)) in
    let h = subst (λ (e : RawExpr). IsEarliest (IsMisnamed may (level_of e)) c.first_misnamed-in-Compare.result)
    c.deref-in-Compare.ensures c.first_misnamed-in-Compare.ensures in
    let k = subst (λ (e : RawExpr). IsEarliest (IsMisnamed may (level_of e)) c.first_misnamed-in-Compare-2.result)
    c.deref-in-Compare-2.ensures c.first_misnamed-in-Compare-2.ensures in
    misnamed.misnamed_sides may c.args.expr.now _ c.in-Compare.a c.in-Compare.b _ _ c.earliest.result
    (opened.form-compare _ _ _ _ c.in-Compare.is) h k c.earliest.ensures

pub first_misnamed-returns-in-Choose : goal.first_misnamed-returns-in-Choose
first_misnamed-returns-in-Choose g t c =
    let may = (IsNamedPath (g.N.Naming.kind_at c.args.naming.now)) in
    let first = first_branch c.in-Choose.cases.items c.in-Choose.other.value in
    let h = subst (λ (cs : List (RawExpr × RawExpr)). IsEarliest
    (Among (MisnamedOperand may) (tests cs ++ branches first cs)) c.misnamed_cases.result)
    c.deref-in-Choose.ensures.value (c.misnamed_cases.ensures first) in
    let k = subst (λ (e : RawExpr). IsEarliest (IsMisnamed may (level_of e)) c.first_misnamed-in-Choose.result)
    c.deref-in-Choose-2.ensures c.first_misnamed-in-Choose.ensures in
    misnamed.misnamed_inside may c.args.expr.now (raw.Choose c.in-Choose.cases c.in-Choose.other)
    c.earliest-in-Choose.result (opened.form-choice _ _ _ c.in-Choose.is) (λ p e. cc)
    (both_among (MisnamedOperand may) (tests c.in-Choose.cases.items ++ branches first c.in-Choose.cases.items)
    (wanting (Like first) c.in-Choose.other.value ∷ []) _ _ c.earliest-in-Choose.result h
    (one_among (MisnamedOperand may) (wanting (Like first) c.in-Choose.other.value) _ k) c.earliest-in-Choose.ensures)

pub misnamed_in-loop-e-init : goal.misnamed_in-loop-e-init
misnamed_in-loop-e-init g t c = loop_start _ _

pub misnamed_in-loop-e-preserved : goal.misnamed_in-loop-e-preserved
misnamed_in-loop-e-preserved g t c =
    let s = item_stands c.args.es.now c.loop-e.e-index c.e-item.result (omega arith) c.e-item.is in
    loop_next _ _ _ _ _ _ _ s c.loop-e.invariant c.first_misnamed.ensures c.earliest-found.ensures

pub misnamed_in-returns : goal.misnamed_in-returns
misnamed_in-returns g t c = λ d.
    let may = (IsNamedPath (g.N.Naming.kind_at c.args.naming.now)) in
    loop_end _ _ _ _ _ (omega arith) (mapped_to (MisnamedOperand may) (wanting d) c.args.es.now)
    (mapped_back (MisnamedOperand may) (wanting d) c.args.es.now) c.loop-e.invariant

pub misnamed_terms-loop-e-init : goal.misnamed_terms-loop-e-init
misnamed_terms-loop-e-init g t c = loop_start _ _

pub misnamed_terms-loop-e-preserved : goal.misnamed_terms-loop-e-preserved
misnamed_terms-loop-e-preserved g t c =
    let s = item_stands c.args.parts.now c.loop-e.e-index c.loop-e-item.result (omega arith) c.loop-e-item.is in
    loop_next _ _ _ _ _ _ _ s c.loop-e.invariant c.first_misnamed.ensures c.earliest-found.ensures

pub misnamed_terms-returns : goal.misnamed_terms-returns
misnamed_terms-returns g t c =
    let may = (IsNamedPath (g.N.Naming.kind_at c.args.naming.now)) in
    let f = λ (p : Bool × RawExpr). wanting (OfKind Whole) p.1 in
    loop_end _ _ _ _ _ (omega arith) (mapped_to (MisnamedOperand may) f c.args.parts.now)
    (mapped_back (MisnamedOperand may) f c.args.parts.now) c.loop-e.invariant

pub misnamed_cases-loop-test-init : goal.misnamed_cases-loop-test-init
misnamed_cases-loop-test-init g t c = loop_start _ _

pub misnamed_cases-loop-test-preserved : goal.misnamed_cases-loop-test-preserved
misnamed_cases-loop-test-preserved g t c =
    let s = item_stands c.args.cases.now c.loop-test.test-index c.loop-test-item.result (omega arith)
    c.loop-test-item.is in
    loop_next _ _ _ _ _ _ _ s c.loop-test.invariant
    (earliest_both _ _ _ c.first_misnamed.ensures c.first_misnamed-in-loop-test.ensures c.earliest-here.ensures)
    c.earliest-found.ensures

pub misnamed_cases-returns : goal.misnamed_cases-returns
misnamed_cases-returns g t c = λ first.
    let may = (IsNamedPath (g.N.Naming.kind_at c.args.naming.now)) in
    let f = λ (p : RawExpr × RawExpr). wanting (OfKind Truth) p.0 in
    let h = λ (p : RawExpr × RawExpr). wanting (Like first) p.1 in
    loop_end _ _ _ _ _ (omega arith) (paired_to (MisnamedOperand may) f h c.args.cases.now)
    (paired_back (MisnamedOperand may) f h c.args.cases.now) c.loop-test.invariant

-- each call is of something smaller
pub first_misnamed-first_misnamed-requires : goal.first_misnamed-first_misnamed-requires
first_misnamed-first_misnamed-requires g t c =
    λ κs within. (
      falls.one_falls _ _ t
          (smaller.less-not c.args.expr.now c.deref.result.now c.in-Not.a c.in-Not.is
          c.deref.ensures) c.decreases,
      (within, c.requires),
    )

pub first_misnamed-first_misnamed-requires-in-Minus : goal.first_misnamed-first_misnamed-requires-in-Minus
first_misnamed-first_misnamed-requires-in-Minus g t c =
    λ κs within. (
      falls.one_falls _ _ t
          (smaller.less-minus c.args.expr.now c.deref-in-Minus.result.now c.in-Minus.a c.in-Minus.is
          c.deref-in-Minus.ensures) c.decreases,
      (within, c.requires),
    )

pub first_misnamed-misnamed_in-requires : goal.first_misnamed-misnamed_in-requires
first_misnamed-misnamed_in-requires g t c =
    λ κs within. (
      falls.list_falls _ _ t
          (smaller.less-all c.args.expr.now c.in-All.es c.deref-in-All.result.now c.in-All.is
          c.deref-in-All.ensures.value) c.decreases,
      (within, c.requires),
    )

pub first_misnamed-misnamed_in-requires-in-Any : goal.first_misnamed-misnamed_in-requires-in-Any
first_misnamed-misnamed_in-requires-in-Any g t c =
    λ κs within. (
      falls.list_falls _ _ t
          (smaller.less-any c.args.expr.now c.in-Any.es c.deref-in-Any.result.now c.in-Any.is
          c.deref-in-Any.ensures.value) c.decreases,
      (within, c.requires),
    )

pub first_misnamed-misnamed_in-requires-in-Product : goal.first_misnamed-misnamed_in-requires-in-Product
first_misnamed-misnamed_in-requires-in-Product g t c =
    λ κs within. (
      falls.list_falls _ _ t
          (smaller.less-product c.args.expr.now c.in-Product.es c.deref-in-Product.result.now c.in-Product.is
          c.deref-in-Product.ensures.value) c.decreases,
      (within, c.requires),
    )

pub first_misnamed-misnamed_in-requires-in-Least : goal.first_misnamed-misnamed_in-requires-in-Least
first_misnamed-misnamed_in-requires-in-Least g t c =
    λ κs within. (
      falls.list_falls _ _ t
          (smaller.less-least c.args.expr.now c.in-Least.es c.deref-in-Least.result.now c.in-Least.is
          c.deref-in-Least.ensures.value) c.decreases,
      (within, c.requires),
    )

pub first_misnamed-misnamed_in-requires-in-Greatest : goal.first_misnamed-misnamed_in-requires-in-Greatest
first_misnamed-misnamed_in-requires-in-Greatest g t c =
    λ κs within. (
      falls.list_falls _ _ t
          (smaller.less-greatest c.args.expr.now c.in-Greatest.es c.deref-in-Greatest.result.now c.in-Greatest.is
          c.deref-in-Greatest.ensures.value) c.decreases,
      (within, c.requires),
    )

pub first_misnamed-misnamed_in-requires-in-Count : goal.first_misnamed-misnamed_in-requires-in-Count
first_misnamed-misnamed_in-requires-in-Count g t c =
    λ κs within. (
      falls.list_falls _ _ t
          (smaller.less-count c.args.expr.now c.in-Count.es c.deref-in-Count.result.now c.in-Count.is
          c.deref-in-Count.ensures.value) c.decreases,
      (within, c.requires),
    )

pub first_misnamed-first_misnamed-requires-in-Compare : goal.first_misnamed-first_misnamed-requires-in-Compare
first_misnamed-first_misnamed-requires-in-Compare g t c =
    λ κs within. (
      falls.one_falls _ _ t
          (smaller.less-left c.args.expr.now c.deref-in-Compare.result.now _ c.in-Compare.a c.in-Compare.b
          c.in-Compare.is
          c.deref-in-Compare.ensures) c.decreases,
      (within, c.requires),
    )

pub first_misnamed-first_misnamed-requires-in-Compare-2 : goal.first_misnamed-first_misnamed-requires-in-Compare-2
first_misnamed-first_misnamed-requires-in-Compare-2 g t c =
    λ κs within. (
      falls.one_falls _ _ t
          (smaller.less-right c.args.expr.now c.deref-in-Compare-2.result.now _ c.in-Compare.a c.in-Compare.b
          c.in-Compare.is
          c.deref-in-Compare-2.ensures) c.decreases,
      (within, c.requires),
    )

pub first_misnamed-misnamed_terms-requires : goal.first_misnamed-misnamed_terms-requires
first_misnamed-misnamed_terms-requires g t c =
    λ κs within. (
      falls.list_falls _ _ t
          (smaller.less-parts c.args.expr.now c.in-Sum.parts c.deref-in-Sum.result.now c.in-Sum.is
          c.deref-in-Sum.ensures.value) c.decreases,
      (within, c.requires),
    )

pub first_misnamed-misnamed_cases-requires : goal.first_misnamed-misnamed_cases-requires
first_misnamed-misnamed_cases-requires g t c =
    λ κs within. (
      falls.list_falls _ _ t
          (smaller.less-cases c.args.expr.now c.in-Choose.cases c.in-Choose.other c.deref-in-Choose.result.now
          c.in-Choose.is
          c.deref-in-Choose.ensures.value) c.decreases,
      (within, c.requires),
    )

pub first_misnamed-first_misnamed-requires-in-Choose : goal.first_misnamed-first_misnamed-requires-in-Choose
first_misnamed-first_misnamed-requires-in-Choose g t c =
    λ κs within. (
      falls.one_falls _ _ t
          (smaller.less-other c.args.expr.now c.deref-in-Choose-2.result.now c.in-Choose.cases c.in-Choose.other
          c.in-Choose.is
          c.deref-in-Choose-2.ensures) c.decreases,
      (within, c.requires),
    )

pub misnamed_in-loop-e-smaller : goal.misnamed_in-loop-e-smaller
misnamed_in-loop-e-smaller g t c = count.falls _ c.loop-e.e-index c.loop-e-test.true

pub misnamed_in-first_misnamed-requires : goal.misnamed_in-first_misnamed-requires
misnamed_in-first_misnamed-requires g t c =
    λ κs within. (
      falls.item_falls _ _ t
          (smaller.up-item c.args.es.now c.loop-e.e-index c.e-item.result c.loop-e-test.true
          c.e-item.is) c.decreases,
      (within, c.requires),
    )

pub misnamed_terms-loop-e-smaller : goal.misnamed_terms-loop-e-smaller
misnamed_terms-loop-e-smaller g t c = count.falls _ c.loop-e.e-index c.loop-e-test.true

pub misnamed_terms-first_misnamed-requires : goal.misnamed_terms-first_misnamed-requires
misnamed_terms-first_misnamed-requires g t c =
    λ κs within. (
      falls.item_falls _ _ t
          (smaller.up-part c.args.parts.now c.loop-e.e-index c.loop-e-item.result c.loop-e-test.true
          c.loop-e-item.is) c.decreases,
      (within, c.requires),
    )

pub misnamed_cases-loop-test-smaller : goal.misnamed_cases-loop-test-smaller
misnamed_cases-loop-test-smaller g t c = count.falls _ c.loop-test.test-index c.loop-test-test.true

pub misnamed_cases-first_misnamed-requires : goal.misnamed_cases-first_misnamed-requires
misnamed_cases-first_misnamed-requires g t c =
    λ κs within. (
      falls.item_falls _ _ t
          (smaller.up-test c.args.cases.now c.loop-test.test-index c.loop-test-item.result c.loop-test-test.true
          c.loop-test-item.is) c.decreases,
      (within, c.requires),
    )

pub misnamed_cases-first_misnamed-requires-in-loop-test : goal.misnamed_cases-first_misnamed-requires-in-loop-test
misnamed_cases-first_misnamed-requires-in-loop-test g t c =
    λ κs within. (
      falls.item_falls _ _ t
          (smaller.up-value c.args.cases.now c.loop-test.test-index c.loop-test-item.result c.loop-test-test.true
          c.loop-test-item.is) c.decreases,
      (within, c.requires),
    )

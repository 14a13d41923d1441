use Rattle.std.proofs.Common.{◌++◌, List, Bool, arith, refl, subst}
use Rattle.ar_syntax.specs.declared.expressions.RawExpr.{RawExpr}
use Rattle.ar_syntax.specs.declared.expressions.RawForm.TheOpen as raw
use Rattle.ar_syntax.proofs.Opened as opened
use Rattle.class_table.specs.Earliest.{IsEarliest}
use Rattle.class_table.proofs.FirstPlaces.{earliest_both}
use Rattle.class_table.proofs.Taken.{item_stands}
use Rattle.class_table.proofs.Looping.{loop_start, loop_next, loop_end}
use Rattle.typed_expr.specs.declared.expr.ValueKind.TheVariants.{Truth, Whole}
use Rattle.written_forms.specs.Operands.{level_of, wanting, OfKind, Like, each_wanting, terms, tests, branches, is_equality}
use Rattle.written_forms.specs.FormsInside.{IsFormOf}
use Rattle.written_forms.specs.Wrong.{IsMistyped}
use Rattle.written_forms.specs.WrongInside.{NamesKind, demanding, AreWanted, Among, MistypedOperand}
use Rattle.written_forms.proofs.Gathering.{one_among, mapped_to, mapped_back, paired_to, paired_back}
use Rattle.written_forms.proofs.MistypedForms.{wrong_both, wrong_leaf, wrong_like, wrong_sides, wrong_choices}
use Rattle.typed_expr.proofs.Shrinking as falls
use Rattle.written_forms.proofs.Shrinking as smaller
use borrow.Author.Count as count
use Rattle.written_forms.proofs.mistyping.+mistyped.Goals as goal

pub first_mistyped-returns-in-Truth : goal.first_mistyped-returns-in-Truth
first_mistyped-returns-in-Truth g t c =
    let kinds = (g.N.Naming.kind_at c.args.naming.now) in
    wrong_leaf kinds (demanding c.args.want) c.args.expr.now _ _ (opened.form-truth _ _ c.in-Truth.is) refl
    c.wrong_itself-itself.ensures

pub first_mistyped-returns-in-Whole : goal.first_mistyped-returns-in-Whole
first_mistyped-returns-in-Whole g t c =
    let kinds = (g.N.Naming.kind_at c.args.naming.now) in
    wrong_leaf kinds (demanding c.args.want) c.args.expr.now _ _ (opened.form-whole _ _ c.in-Whole.is) refl
    c.wrong_itself-itself.ensures

pub first_mistyped-returns-in-Real : goal.first_mistyped-returns-in-Real
first_mistyped-returns-in-Real g t c =
    let kinds = (g.N.Naming.kind_at c.args.naming.now) in
    wrong_leaf kinds (demanding c.args.want) c.args.expr.now _ _ (opened.form-real _ c.in-Real.is) refl
    c.wrong_itself-itself.ensures

pub first_mistyped-returns-in-Path : goal.first_mistyped-returns-in-Path
first_mistyped-returns-in-Path g t c =
    let kinds = (g.N.Naming.kind_at c.args.naming.now) in
    wrong_leaf kinds (demanding c.args.want) c.args.expr.now _ _ (opened.form-path _ _ c.in-Path.is) refl
    c.wrong_itself-itself.ensures

pub first_mistyped-returns-in-Not : goal.first_mistyped-returns-in-Not
first_mistyped-returns-in-Not g t c =
    let kinds = (g.N.Naming.kind_at c.args.naming.now) in
    let h = subst (λ (e : RawExpr). IsEarliest (IsMistyped (NamesKind kinds) (OfKind Truth) e) c.first_mistyped.result)
    c.deref.ensures c.first_mistyped.ensures in
    wrong_both kinds (demanding c.args.want) c.args.expr.now (raw.Not c.in-Not.a) _ _ _
    (opened.form-not _ _ c.in-Not.is) c.wrong_itself-itself.ensures
    (one_among (MistypedOperand (NamesKind kinds)) (wanting (OfKind Truth) c.in-Not.a.value) _ h) c.earliest.ensures

pub first_mistyped-returns-in-Minus : goal.first_mistyped-returns-in-Minus
first_mistyped-returns-in-Minus g t c =
    let kinds = (g.N.Naming.kind_at c.args.naming.now) in
    let h = subst (λ (e : RawExpr). IsEarliest (IsMistyped (NamesKind kinds) (OfKind Whole) e)
    c.first_mistyped-in-Minus.result) c.deref-in-Minus.ensures c.first_mistyped-in-Minus.ensures in
    wrong_both kinds (demanding c.args.want) c.args.expr.now (raw.Minus c.in-Minus.a) _ _ _
    (opened.form-minus _ _ c.in-Minus.is) c.wrong_itself-itself.ensures
    (one_among (MistypedOperand (NamesKind kinds)) (wanting (OfKind Whole) c.in-Minus.a.value) _ h)
    c.earliest-in-Minus.ensures

pub first_mistyped-returns-in-Sum : goal.first_mistyped-returns-in-Sum
first_mistyped-returns-in-Sum g t c =
    let kinds = (g.N.Naming.kind_at c.args.naming.now) in
    let h = subst (λ (ps : List (Bool × RawExpr)). IsEarliest (Among (MistypedOperand (NamesKind kinds)) (terms ps))
    c.wrong_terms.result) c.deref-in-Sum.ensures.value c.wrong_terms.ensures in
    wrong_both kinds (demanding c.args.want) c.args.expr.now (raw.Sum c.in-Sum.parts) _ _ _
    (opened.form-sum _ _ c.in-Sum.is) c.wrong_itself-itself.ensures h c.earliest-in-Sum.ensures

pub first_mistyped-returns-in-All : goal.first_mistyped-returns-in-All
first_mistyped-returns-in-All g t c =
    let kinds = (g.N.Naming.kind_at c.args.naming.now) in
    let h = subst (λ (es : List RawExpr). IsEarliest
    (Among (MistypedOperand (NamesKind kinds)) (each_wanting (OfKind Truth) es)) c.wrong_in.result)
    c.deref-in-All.ensures.value c.wrong_in.ensures in
    wrong_both kinds (demanding c.args.want) c.args.expr.now (raw.All c.in-All.es) _ _ _
    (opened.form-all _ _ c.in-All.is) c.wrong_itself-itself.ensures h c.earliest-in-All.ensures

pub first_mistyped-returns-in-Any : goal.first_mistyped-returns-in-Any
first_mistyped-returns-in-Any g t c =
    let kinds = (g.N.Naming.kind_at c.args.naming.now) in
    let h = subst (λ (es : List RawExpr). IsEarliest
    (Among (MistypedOperand (NamesKind kinds)) (each_wanting (OfKind Truth) es)) c.wrong_in-in-Any.result)
    c.deref-in-Any.ensures.value c.wrong_in-in-Any.ensures in
    wrong_both kinds (demanding c.args.want) c.args.expr.now (raw.Any c.in-Any.es) _ _ _
    (opened.form-any _ _ c.in-Any.is) c.wrong_itself-itself.ensures h c.earliest-in-Any.ensures

pub first_mistyped-returns-in-Product : goal.first_mistyped-returns-in-Product
first_mistyped-returns-in-Product g t c =
    let kinds = (g.N.Naming.kind_at c.args.naming.now) in
    let h = subst (λ (es : List RawExpr). IsEarliest
    (Among (MistypedOperand (NamesKind kinds)) (each_wanting (OfKind Whole) es)) c.wrong_in-in-Product.result)
    c.deref-in-Product.ensures.value c.wrong_in-in-Product.ensures in
    wrong_both kinds (demanding c.args.want) c.args.expr.now (raw.Product c.in-Product.es) _ _ _
    (opened.form-product _ _ c.in-Product.is) c.wrong_itself-itself.ensures h c.earliest-in-Product.ensures

pub first_mistyped-returns-in-Least : goal.first_mistyped-returns-in-Least
first_mistyped-returns-in-Least g t c =
    let kinds = (g.N.Naming.kind_at c.args.naming.now) in
    let h = subst (λ (es : List RawExpr). IsEarliest
    (Among (MistypedOperand (NamesKind kinds)) (each_wanting (OfKind Whole) es)) c.wrong_in-in-Least.result)
    c.deref-in-Least.ensures.value c.wrong_in-in-Least.ensures in
    wrong_both kinds (demanding c.args.want) c.args.expr.now (raw.Least c.in-Least.es) _ _ _
    (opened.form-least _ _ c.in-Least.is) c.wrong_itself-itself.ensures h c.earliest-in-Least.ensures

pub first_mistyped-returns-in-Greatest : goal.first_mistyped-returns-in-Greatest
first_mistyped-returns-in-Greatest g t c =
    let kinds = (g.N.Naming.kind_at c.args.naming.now) in
    let h = subst (λ (es : List RawExpr). IsEarliest
    (Among (MistypedOperand (NamesKind kinds)) (each_wanting (OfKind Whole) es)) c.wrong_in-in-Greatest.result)
    c.deref-in-Greatest.ensures.value c.wrong_in-in-Greatest.ensures in
    wrong_both kinds (demanding c.args.want) c.args.expr.now (raw.Greatest c.in-Greatest.es) _ _ _
    (opened.form-greatest _ _ c.in-Greatest.is) c.wrong_itself-itself.ensures h c.earliest-in-Greatest.ensures

pub first_mistyped-returns-in-Count : goal.first_mistyped-returns-in-Count
first_mistyped-returns-in-Count g t c =
    let kinds = (g.N.Naming.kind_at c.args.naming.now) in
    let h = subst (λ (es : List RawExpr). IsEarliest
    (Among (MistypedOperand (NamesKind kinds)) (each_wanting (OfKind Truth) es)) c.wrong_in-in-Count.result)
    c.deref-in-Count.ensures.value c.wrong_in-in-Count.ensures in
    wrong_both kinds (demanding c.args.want) c.args.expr.now (raw.Count c.in-Count.es) _ _ _
    (opened.form-count _ _ c.in-Count.is) c.wrong_itself-itself.ensures h c.earliest-in-Count.ensures

pub first_mistyped-returns-in-Compare : goal.first_mistyped-returns-in-Compare
first_mistyped-returns-in-Compare g t c =
    let kinds = (g.N.Naming.kind_at c.args.naming.now) in
    let want = c.wanted_sides-left.result in
    let w = subst (λ (e : RawExpr). AreWanted (NamesKind kinds) (is_equality c.in-Compare.relation) (level_of e) want)
    c.deref-in-Compare.ensures c.wanted_sides-left.ensures in
    let h = subst (λ (e : RawExpr). IsEarliest (IsMistyped (NamesKind kinds) (demanding want.0) e)
    c.first_mistyped-first.result) c.deref-in-Compare-2.ensures c.first_mistyped-first.ensures in
    let k = subst (λ (e : RawExpr). IsEarliest (IsMistyped (NamesKind kinds) (demanding want.1) e)
    c.first_mistyped-in-Compare.result) c.deref-in-Compare-3.ensures c.first_mistyped-in-Compare.ensures in
    wrong_both kinds (demanding c.args.want) c.args.expr.now
    (raw.Compare c.in-Compare.relation c.in-Compare.a c.in-Compare.b) _ _ _
    (opened.form-compare _ _ _ _ c.in-Compare.is) c.wrong_itself-itself.ensures
    (wrong_sides kinds (is_equality c.in-Compare.relation) c.in-Compare.a.value c.in-Compare.b.value want _ _ _ w h k
    c.earliest-in-Compare.ensures) c.earliest-in-Compare-2.ensures

pub first_mistyped-returns-in-Choose : goal.first_mistyped-returns-in-Choose
first_mistyped-returns-in-Choose g t c =
    let kinds = (g.N.Naming.kind_at c.args.naming.now) in
    let h = λ (first : RawExpr) (k : IsFormOf (NamesKind kinds) (level_of first) c.form_kind-kind.result). subst
    (λ (cs : List (RawExpr × RawExpr)). IsEarliest
    (Among (MistypedOperand (NamesKind kinds)) (tests cs ++ branches first cs)) c.wrong_cases-first.result)
    c.deref-in-Choose.ensures.value (c.wrong_cases-first.ensures first k) in
    let m = subst (λ (e : RawExpr). IsEarliest (IsMistyped (NamesKind kinds) (demanding c.form_kind-kind.result) e)
    c.first_mistyped-in-Choose.result) c.deref-in-Choose-2.ensures c.first_mistyped-in-Choose.ensures in
    let i = opened.form-choice _ _ _ c.in-Choose.is in
    wrong_both kinds (demanding c.args.want) c.args.expr.now (raw.Choose c.in-Choose.cases c.in-Choose.other) _ _ _ i
    c.wrong_itself-itself.ensures
    (wrong_choices kinds c.args.expr.now c.in-Choose.cases c.in-Choose.other c.form_kind-kind.result _ _ _ i
    c.form_kind-kind.ensures h m c.earliest-in-Choose.ensures) c.earliest-in-Choose-2.ensures

pub wrong_in-loop-e-init : goal.wrong_in-loop-e-init
wrong_in-loop-e-init g t c = loop_start _ _

pub wrong_in-loop-e-preserved : goal.wrong_in-loop-e-preserved
wrong_in-loop-e-preserved g t c =
    let s = item_stands c.args.es.now c.loop-e.e-index c.e-item.result (omega arith) c.e-item.is in
    loop_next _ _ _ _ _ _ _ s c.loop-e.invariant c.first_mistyped.ensures c.earliest-found.ensures

pub wrong_in-returns : goal.wrong_in-returns
wrong_in-returns g t c =
    let kinds = (g.N.Naming.kind_at c.args.naming.now) in
    let f = wanting (OfKind c.args.kind) in
    loop_end _ _ _ _ _ (omega arith) (mapped_to (MistypedOperand (NamesKind kinds)) f c.args.es.now)
    (mapped_back (MistypedOperand (NamesKind kinds)) f c.args.es.now) c.loop-e.invariant

pub wrong_terms-loop-e-init : goal.wrong_terms-loop-e-init
wrong_terms-loop-e-init g t c = loop_start _ _

pub wrong_terms-loop-e-preserved : goal.wrong_terms-loop-e-preserved
wrong_terms-loop-e-preserved g t c =
    let s = item_stands c.args.parts.now c.loop-e.e-index c.loop-e-item.result (omega arith) c.loop-e-item.is in
    loop_next _ _ _ _ _ _ _ s c.loop-e.invariant c.first_mistyped.ensures c.earliest-found.ensures

pub wrong_terms-returns : goal.wrong_terms-returns
wrong_terms-returns g t c =
    let kinds = (g.N.Naming.kind_at c.args.naming.now) in
    let f = λ (p : Bool × RawExpr). wanting (OfKind Whole) p.1 in
    loop_end _ _ _ _ _ (omega arith) (mapped_to (MistypedOperand (NamesKind kinds)) f c.args.parts.now)
    (mapped_back (MistypedOperand (NamesKind kinds)) f c.args.parts.now) c.loop-e.invariant

pub wrong_cases-loop-test-init : goal.wrong_cases-loop-test-init
wrong_cases-loop-test-init g t c = λ first h. loop_start _ _

pub wrong_cases-loop-test-preserved : goal.wrong_cases-loop-test-preserved
wrong_cases-loop-test-preserved g t c = λ first h.
    let kinds = (g.N.Naming.kind_at c.args.naming.now) in
    let s = item_stands c.args.cases.now c.loop-test.test-index c.loop-test-item.result (omega arith)
    c.loop-test-item.is in
    let value = wrong_like kinds first c.loop-test-item.result.1 c.args.kind _ h
    c.first_mistyped-in-loop-test.ensures in
    loop_next _ _ _ _ _ _ _ s (c.loop-test.invariant first h)
    (earliest_both _ _ _ c.first_mistyped.ensures value c.earliest-here.ensures) c.earliest-found.ensures

pub wrong_cases-returns : goal.wrong_cases-returns
wrong_cases-returns g t c = λ first k.
    let kinds = (g.N.Naming.kind_at c.args.naming.now) in
    let f = λ (p : RawExpr × RawExpr). wanting (OfKind Truth) p.0 in
    let h = λ (p : RawExpr × RawExpr). wanting (Like first) p.1 in
    loop_end _ _ _ _ _ (omega arith) (paired_to (MistypedOperand (NamesKind kinds)) f h c.args.cases.now)
    (paired_back (MistypedOperand (NamesKind kinds)) f h c.args.cases.now) (c.loop-test.invariant first k)

-- each call is of something smaller
pub first_mistyped-first_mistyped-requires : goal.first_mistyped-first_mistyped-requires
first_mistyped-first_mistyped-requires g t c =
    λ κs within. (
      falls.one_falls _ _ t
          (smaller.less-not c.args.expr.now c.deref.result.now c.in-Not.a c.in-Not.is
          c.deref.ensures) c.decreases,
      (within, c.requires),
    )

pub first_mistyped-first_mistyped-requires-in-Minus : goal.first_mistyped-first_mistyped-requires-in-Minus
first_mistyped-first_mistyped-requires-in-Minus g t c =
    λ κs within. (
      falls.one_falls _ _ t
          (smaller.less-minus c.args.expr.now c.deref-in-Minus.result.now c.in-Minus.a c.in-Minus.is
          c.deref-in-Minus.ensures) c.decreases,
      (within, c.requires),
    )

pub first_mistyped-wrong_in-requires : goal.first_mistyped-wrong_in-requires
first_mistyped-wrong_in-requires g t c =
    λ κs within. (
      falls.list_falls _ _ t
          (smaller.less-all c.args.expr.now c.in-All.es c.deref-in-All.result.now c.in-All.is
          c.deref-in-All.ensures.value) c.decreases,
      (within, c.requires),
    )

pub first_mistyped-wrong_in-requires-in-Any : goal.first_mistyped-wrong_in-requires-in-Any
first_mistyped-wrong_in-requires-in-Any g t c =
    λ κs within. (
      falls.list_falls _ _ t
          (smaller.less-any c.args.expr.now c.in-Any.es c.deref-in-Any.result.now c.in-Any.is
          c.deref-in-Any.ensures.value) c.decreases,
      (within, c.requires),
    )

pub first_mistyped-wrong_in-requires-in-Product : goal.first_mistyped-wrong_in-requires-in-Product
first_mistyped-wrong_in-requires-in-Product g t c =
    λ κs within. (
      falls.list_falls _ _ t
          (smaller.less-product c.args.expr.now c.in-Product.es c.deref-in-Product.result.now c.in-Product.is
          c.deref-in-Product.ensures.value) c.decreases,
      (within, c.requires),
    )

pub first_mistyped-wrong_in-requires-in-Least : goal.first_mistyped-wrong_in-requires-in-Least
first_mistyped-wrong_in-requires-in-Least g t c =
    λ κs within. (
      falls.list_falls _ _ t
          (smaller.less-least c.args.expr.now c.in-Least.es c.deref-in-Least.result.now c.in-Least.is
          c.deref-in-Least.ensures.value) c.decreases,
      (within, c.requires),
    )

pub first_mistyped-wrong_in-requires-in-Greatest : goal.first_mistyped-wrong_in-requires-in-Greatest
first_mistyped-wrong_in-requires-in-Greatest g t c =
    λ κs within. (
      falls.list_falls _ _ t
          (smaller.less-greatest c.args.expr.now c.in-Greatest.es c.deref-in-Greatest.result.now c.in-Greatest.is
          c.deref-in-Greatest.ensures.value) c.decreases,
      (within, c.requires),
    )

pub first_mistyped-wrong_in-requires-in-Count : goal.first_mistyped-wrong_in-requires-in-Count
first_mistyped-wrong_in-requires-in-Count g t c =
    λ κs within. (
      falls.list_falls _ _ t
          (smaller.less-count c.args.expr.now c.in-Count.es c.deref-in-Count.result.now c.in-Count.is
          c.deref-in-Count.ensures.value) c.decreases,
      (within, c.requires),
    )

pub first_mistyped-first_mistyped-first-requires : goal.first_mistyped-first_mistyped-first-requires
first_mistyped-first_mistyped-first-requires g t c =
    λ κs within. (
      falls.one_falls _ _ t
          (smaller.less-left c.args.expr.now c.deref-in-Compare-2.result.now c.in-Compare.relation c.in-Compare.a
          c.in-Compare.b c.in-Compare.is
          c.deref-in-Compare-2.ensures) c.decreases,
      (within, c.requires),
    )

pub first_mistyped-first_mistyped-requires-in-Compare : goal.first_mistyped-first_mistyped-requires-in-Compare
first_mistyped-first_mistyped-requires-in-Compare g t c =
    λ κs within. (
      falls.one_falls _ _ t
          (smaller.less-right c.args.expr.now c.deref-in-Compare-3.result.now c.in-Compare.relation c.in-Compare.a
          c.in-Compare.b c.in-Compare.is
          c.deref-in-Compare-3.ensures) c.decreases,
      (within, c.requires),
    )

pub first_mistyped-wrong_terms-requires : goal.first_mistyped-wrong_terms-requires
first_mistyped-wrong_terms-requires g t c =
    λ κs within. (
      falls.list_falls _ _ t
          (smaller.less-parts c.args.expr.now c.in-Sum.parts c.deref-in-Sum.result.now c.in-Sum.is
          c.deref-in-Sum.ensures.value) c.decreases,
      (within, c.requires),
    )

pub first_mistyped-wrong_cases-first-requires : goal.first_mistyped-wrong_cases-first-requires
first_mistyped-wrong_cases-first-requires g t c =
    λ κs within. (
      falls.list_falls _ _ t
          (smaller.less-cases c.args.expr.now c.in-Choose.cases c.in-Choose.other c.deref-in-Choose.result.now
          c.in-Choose.is
          c.deref-in-Choose.ensures.value) c.decreases,
      (within, c.requires),
    )

pub first_mistyped-first_mistyped-requires-in-Choose : goal.first_mistyped-first_mistyped-requires-in-Choose
first_mistyped-first_mistyped-requires-in-Choose g t c =
    λ κs within. (
      falls.one_falls _ _ t
          (smaller.less-other c.args.expr.now c.deref-in-Choose-2.result.now c.in-Choose.cases c.in-Choose.other
          c.in-Choose.is
          c.deref-in-Choose-2.ensures) c.decreases,
      (within, c.requires),
    )

pub wrong_in-loop-e-smaller : goal.wrong_in-loop-e-smaller
wrong_in-loop-e-smaller g t c = count.falls _ c.loop-e.e-index c.loop-e-test.true

pub wrong_in-first_mistyped-requires : goal.wrong_in-first_mistyped-requires
wrong_in-first_mistyped-requires g t c =
    λ κs within. (
      falls.item_falls _ _ t
          (smaller.up-item c.args.es.now c.loop-e.e-index c.e-item.result c.loop-e-test.true
          c.e-item.is) c.decreases,
      (within, c.requires),
    )

pub wrong_terms-loop-e-smaller : goal.wrong_terms-loop-e-smaller
wrong_terms-loop-e-smaller g t c = count.falls _ c.loop-e.e-index c.loop-e-test.true

pub wrong_terms-first_mistyped-requires : goal.wrong_terms-first_mistyped-requires
wrong_terms-first_mistyped-requires g t c =
    λ κs within. (
      falls.item_falls _ _ t
          (smaller.up-part c.args.parts.now c.loop-e.e-index c.loop-e-item.result c.loop-e-test.true
          c.loop-e-item.is) c.decreases,
      (within, c.requires),
    )

pub wrong_cases-loop-test-smaller : goal.wrong_cases-loop-test-smaller
wrong_cases-loop-test-smaller g t c = count.falls _ c.loop-test.test-index c.loop-test-test.true

pub wrong_cases-first_mistyped-requires : goal.wrong_cases-first_mistyped-requires
wrong_cases-first_mistyped-requires g t c =
    λ κs within. (
      falls.item_falls _ _ t
          (smaller.up-test c.args.cases.now c.loop-test.test-index c.loop-test-item.result c.loop-test-test.true
          c.loop-test-item.is) c.decreases,
      (within, c.requires),
    )

pub wrong_cases-first_mistyped-requires-in-loop-test : goal.wrong_cases-first_mistyped-requires-in-loop-test
wrong_cases-first_mistyped-requires-in-loop-test g t c =
    λ κs within. (
      falls.item_falls _ _ t
          (smaller.up-value c.args.cases.now c.loop-test.test-index c.loop-test-item.result c.loop-test-test.true
          c.loop-test-item.is) c.decreases,
      (within, c.requires),
    )

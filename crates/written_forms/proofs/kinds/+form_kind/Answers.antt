use Rattle.std.proofs.Common.{refl}
use Rattle.ar_syntax.proofs.Opened as opened
use Rattle.typed_expr.specs.declared.expr.ValueKind.TheVariants.{Truth, Whole}
use Rattle.written_forms.specs.WrongInside.{NamesKind}
use Rattle.written_forms.proofs.KindsFound.{own_answer, path_answer, first_answer, last_answer}
use Rattle.written_forms.proofs.kinds.+form_kind.Goals as goal

pub returns-in-Truth : goal.returns-in-Truth
returns-in-Truth g t c = own_answer (NamesKind (g.N.Naming.kind_at c.args.naming.now)) c.args.expr.now _ Truth
    (opened.form-truth _ _ c.in-Truth.is) refl

pub returns-in-Whole : goal.returns-in-Whole
returns-in-Whole g t c = own_answer (NamesKind (g.N.Naming.kind_at c.args.naming.now)) c.args.expr.now _ Whole
    (opened.form-whole _ _ c.in-Whole.is) refl

pub returns-in-Real : goal.returns-in-Real
returns-in-Real g t c = own_answer (NamesKind (g.N.Naming.kind_at c.args.naming.now)) c.args.expr.now _ Whole
    (opened.form-real _ c.in-Real.is) refl

pub returns-in-Not : goal.returns-in-Not
returns-in-Not g t c = own_answer (NamesKind (g.N.Naming.kind_at c.args.naming.now)) c.args.expr.now _ Truth
    (opened.form-not _ _ c.in-Not.is) refl

pub returns-in-Minus : goal.returns-in-Minus
returns-in-Minus g t c = own_answer (NamesKind (g.N.Naming.kind_at c.args.naming.now)) c.args.expr.now _ Whole
    (opened.form-minus _ _ c.in-Minus.is) refl

pub returns-in-All : goal.returns-in-All
returns-in-All g t c = own_answer (NamesKind (g.N.Naming.kind_at c.args.naming.now)) c.args.expr.now _ Truth
    (opened.form-all _ _ c.in-All.is) refl

pub returns-in-Any : goal.returns-in-Any
returns-in-Any g t c = own_answer (NamesKind (g.N.Naming.kind_at c.args.naming.now)) c.args.expr.now _ Truth
    (opened.form-any _ _ c.in-Any.is) refl

pub returns-in-Compare : goal.returns-in-Compare
returns-in-Compare g t c =
    own_answer (NamesKind (g.N.Naming.kind_at c.args.naming.now)) c.args.expr.now _ Truth
    (opened.form-compare _ _ _ _ c.in-Compare.is) refl

pub returns-in-Sum : goal.returns-in-Sum
returns-in-Sum g t c = own_answer (NamesKind (g.N.Naming.kind_at c.args.naming.now)) c.args.expr.now _ Whole
    (opened.form-sum _ _ c.in-Sum.is) refl

pub returns-in-Product : goal.returns-in-Product
returns-in-Product g t c =
    own_answer (NamesKind (g.N.Naming.kind_at c.args.naming.now)) c.args.expr.now _ Whole
    (opened.form-product _ _ c.in-Product.is) refl

pub returns-in-Least : goal.returns-in-Least
returns-in-Least g t c = own_answer (NamesKind (g.N.Naming.kind_at c.args.naming.now)) c.args.expr.now _ Whole
    (opened.form-least _ _ c.in-Least.is) refl

pub returns-in-Greatest : goal.returns-in-Greatest
returns-in-Greatest g t c =
    own_answer (NamesKind (g.N.Naming.kind_at c.args.naming.now)) c.args.expr.now _ Whole
    (opened.form-greatest _ _ c.in-Greatest.is) refl

pub returns-in-Count : goal.returns-in-Count
returns-in-Count g t c = own_answer (NamesKind (g.N.Naming.kind_at c.args.naming.now)) c.args.expr.now _ Whole
    (opened.form-count _ _ c.in-Count.is) refl

pub returns-in-Path : goal.returns-in-Path
returns-in-Path g t c = path_answer (g.N.Naming.kind_at c.args.naming.now) c.args.expr.now c.in-Path.path
    c.kind.result (opened.form-path _ _ c.in-Path.is) c.kind.ensures

pub returns-in-Some : goal.returns-in-Some
returns-in-Some g t c =
    let names = NamesKind (g.N.Naming.kind_at c.args.naming.now) in
    first_answer names c.args.expr.now c.in-Choose.cases c.in-Choose.other _ c.form_kind.result
    (opened.form-choice _ _ _ c.in-Choose.is) (rw c.deref.ensures.value at c.in-Some.ensures.value) c.form_kind.ensures

pub returns-in-None : goal.returns-in-None
returns-in-None g t c =
    let names = NamesKind (g.N.Naming.kind_at c.args.naming.now) in
    last_answer names c.args.expr.now c.in-Choose.cases c.in-Choose.other c.form_kind-in-None.result
    (opened.form-choice _ _ _ c.in-Choose.is) (rw c.deref.ensures.value at c.in-None.ensures.value)
    (rw c.deref-in-None.ensures at c.form_kind-in-None.ensures)

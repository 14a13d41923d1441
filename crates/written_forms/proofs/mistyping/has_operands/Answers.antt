use Rattle.std.proofs.Common.{refl, arith}
use Rattle.ar_syntax.proofs.Opened as opened
use Rattle.written_forms.proofs.SomeOperands.{none_needed, some_needed}
use Rattle.written_forms.proofs.mistyping.has_operands.Goals as goal

pub returns-in-Truth : goal.returns-in-Truth
returns-in-Truth c = none_needed c.args.expr.now _ (opened.form-truth _ _ c.in-Truth.is) (record {})

pub returns-in-Whole : goal.returns-in-Whole
returns-in-Whole c = none_needed c.args.expr.now _ (opened.form-whole _ _ c.in-Whole.is) (record {})

pub returns-in-Real : goal.returns-in-Real
returns-in-Real c = none_needed c.args.expr.now _ (opened.form-real _ c.in-Real.is) (record {})

pub returns-in-Path : goal.returns-in-Path
returns-in-Path c = none_needed c.args.expr.now _ (opened.form-path _ _ c.in-Path.is) (record {})

pub returns-in-Not : goal.returns-in-Not
returns-in-Not c = none_needed c.args.expr.now _ (opened.form-not _ _ c.in-Not.is) (record {})

pub returns-in-Minus : goal.returns-in-Minus
returns-in-Minus c = none_needed c.args.expr.now _ (opened.form-minus _ _ c.in-Minus.is) (record {})

pub returns-in-Compare : goal.returns-in-Compare
returns-in-Compare c = none_needed c.args.expr.now _ (opened.form-compare _ _ _ _ c.in-Compare.is) (record {})

pub returns-in-All : goal.returns-in-All
returns-in-All c = some_needed c.args.expr.now _ _ _ c.is_empty.result (opened.form-all _ _ c.in-All.is) refl
    c.is_empty.ensures (let q = c.in-All.es.ok.0 in omega (arith, q))

pub returns-in-Any : goal.returns-in-Any
returns-in-Any c = some_needed c.args.expr.now _ _ _ c.is_empty-in-Any.result (opened.form-any _ _ c.in-Any.is) refl
    c.is_empty-in-Any.ensures (let q = c.in-Any.es.ok.0 in omega (arith, q))

pub returns-in-Sum : goal.returns-in-Sum
returns-in-Sum c = some_needed c.args.expr.now _ _ _ c.is_empty-in-Sum.result (opened.form-sum _ _ c.in-Sum.is) refl
    c.is_empty-in-Sum.ensures (let q = c.in-Sum.parts.ok.0 in omega (arith, q))

pub returns-in-Product : goal.returns-in-Product
returns-in-Product c = some_needed c.args.expr.now _ _ _ c.is_empty-in-Product.result (opened.form-product _ _ c.in-Product.is) refl
    c.is_empty-in-Product.ensures (let q = c.in-Product.es.ok.0 in omega (arith, q))

pub returns-in-Least : goal.returns-in-Least
returns-in-Least c = some_needed c.args.expr.now _ _ _ c.is_empty-in-Least.result (opened.form-least _ _ c.in-Least.is) refl
    c.is_empty-in-Least.ensures (let q = c.in-Least.es.ok.0 in omega (arith, q))

pub returns-in-Greatest : goal.returns-in-Greatest
returns-in-Greatest c = some_needed c.args.expr.now _ _ _ c.is_empty-in-Greatest.result (opened.form-greatest _ _ c.in-Greatest.is) refl
    c.is_empty-in-Greatest.ensures (let q = c.in-Greatest.es.ok.0 in omega (arith, q))

pub returns-in-Count : goal.returns-in-Count
returns-in-Count c = some_needed c.args.expr.now _ _ _ c.is_empty-in-Count.result (opened.form-count _ _ c.in-Count.is) refl
    c.is_empty-in-Count.ensures (let q = c.in-Count.es.ok.0 in omega (arith, q))

pub returns-in-Choose : goal.returns-in-Choose
returns-in-Choose c = some_needed c.args.expr.now _ _ _ c.is_empty-in-Choose.result (opened.form-choice _ _ _ c.in-Choose.is) refl
    c.is_empty-in-Choose.ensures (let q = c.in-Choose.cases.ok.0 in omega (arith, q))

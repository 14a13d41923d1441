use Rattle.std.proofs.Common.{◌≡◌, refl, ◌++◌, ◌∙◌, ap, map, codes, List, Bool, ℕ, true, length, nat_eq, rules}
use Rattle.std.specs.List.{concat}
use Rattle.ar_base.specs.Texts.{separated}
use Rattle.typed_expr.specs.declared.expr.Expr.{Expr}
use Rattle.ar_io.proofs.Writing.{writes_on, writes_front, writes_exit, writes_as, leaves_all, leaves_on, leaves_front, leaves_none, next_item, no_item}
use Rattle.ar_base.specs.Numbers.{VarId}
use Rattle.gts_core.specs.Printed.{expr_text, summed, case_form, cases_form}
use Rattle.gts_core.proofs.Texts.{not_text, all_text, any_text, product_text, least_text, greatest_text, count_text, compare_text, sum_text, choose_text, case_text, texts}
use borrow.Author.Count.{falls}
use Rattle.typed_expr.proofs.Shrinking as smaller
use Rattle.gts_core.proofs.expressions.+expression.Goals as goal

pub expression-returns-in_err-write_text-in-Not : goal.expression-returns-in_err-write_text-in-Not
expression-returns-in_err-write_text-in-Not g t c =
    writes_exit _ _ c.from_residual.ensures.1
    (writes_as _ _ (not_text c.args.parts.now c.args.expr.now c.in-Not.a c.in-Not.is)
    (writes_front _ _ c.in_err-write_text-in-Not.ensures))

pub expression-returns-in_err-expression-in-Not : goal.expression-returns-in_err-expression-in-Not
expression-returns-in_err-expression-in-Not g t c =
    writes_exit _ _ c.from_residual-in_err-expression-in-Not.ensures.1
    (writes_as _ _ (not_text c.args.parts.now c.args.expr.now c.in-Not.a c.in-Not.is)
    (writes_front _ _ (writes_on c.in_ok-write_text-in-Not.ensures
    (writes_as _ _ (ap (expr_text c.args.parts.now) c.deref.ensures) c.in_err-expression-in-Not.ensures))))

pub expression-returns-in_ok-expression-in-Not : goal.expression-returns-in_ok-expression-in-Not
expression-returns-in_ok-expression-in-Not g t c =
    writes_as _ _ (not_text c.args.parts.now c.args.expr.now c.in-Not.a c.in-Not.is)
    (writes_on (writes_on c.in_ok-write_text-in-Not.ensures
    (writes_as _ _ (ap (expr_text c.args.parts.now) c.deref.ensures) c.in_ok-expression-in-Not.ensures))
    c.write_text-in-Not-2.ensures)

pub expression-returns-in_err-write_text-in-Sum : goal.expression-returns-in_err-write_text-in-Sum
expression-returns-in_err-write_text-in-Sum g t c =
    writes_exit _ _ c.from_residual-in_err-write_text-in-Sum.ensures.1
    (writes_as _ _ (sum_text c.args.parts.now c.args.expr.now c.in-Sum.all c.in-Sum.is)
    (writes_front _ _ c.in_err-write_text-in-Sum.ensures))

pub expression-returns-in_err-terms-in-Sum : goal.expression-returns-in_err-terms-in-Sum
expression-returns-in_err-terms-in-Sum g t c =
    let form : Bool × Expr VarId → Bool × List ℕ = λ p. (p.0, expr_text c.args.parts.now p.1) in
    writes_exit _ _ c.from_residual-in_err-terms-in-Sum.ensures.1
    (writes_as _ _ (sum_text c.args.parts.now c.args.expr.now c.in-Sum.all c.in-Sum.is)
    (writes_front _ _ (writes_on c.in_ok-write_text-in-Sum.ensures
    (writes_as _ _ (ap (λ (ps : List (Bool × Expr VarId)). summed true (map form ps)) c.deref-in-Sum.ensures.value) c.in_err-terms-in-Sum.ensures))))

pub expression-returns-in_ok-terms-in-Sum : goal.expression-returns-in_ok-terms-in-Sum
expression-returns-in_ok-terms-in-Sum g t c =
    let form : Bool × Expr VarId → Bool × List ℕ = λ p. (p.0, expr_text c.args.parts.now p.1) in
    writes_as _ _ (sum_text c.args.parts.now c.args.expr.now c.in-Sum.all c.in-Sum.is)
    (writes_on (writes_on c.in_ok-write_text-in-Sum.ensures
    (writes_as _ _ (ap (λ (ps : List (Bool × Expr VarId)). summed true (map form ps)) c.deref-in-Sum.ensures.value) c.in_ok-terms-in-Sum.ensures))
    c.write_text-in-Sum-2.ensures)

pub expression-returns-in-All : goal.expression-returns-in-All
expression-returns-in-All g t c =
    writes_as _ _ (ap (λ (es : List (Expr VarId)). codes "(" ++ separated true (codes " and ")
    (map (expr_text c.args.parts.now) es) ++ codes ")") c.deref-in-All.ensures.value
    ∙ all_text c.args.parts.now c.args.expr.now c.in-All.es c.in-All.is) c.listed.ensures

pub expression-returns-in-Any : goal.expression-returns-in-Any
expression-returns-in-Any g t c =
    writes_as _ _ (ap (λ (es : List (Expr VarId)). codes "(" ++ separated true (codes " or ")
    (map (expr_text c.args.parts.now) es) ++ codes ")") c.deref-in-Any.ensures.value
    ∙ any_text c.args.parts.now c.args.expr.now c.in-Any.es c.in-Any.is) c.listed-in-Any.ensures

pub expression-returns-in-Product : goal.expression-returns-in-Product
expression-returns-in-Product g t c =
    writes_as _ _ (ap (λ (es : List (Expr VarId)). codes "(" ++ separated true (codes " * ")
    (map (expr_text c.args.parts.now) es) ++ codes ")") c.deref-in-Product.ensures.value
    ∙ product_text c.args.parts.now c.args.expr.now c.in-Product.es c.in-Product.is) c.listed-in-Product.ensures

pub expression-returns-in-Least : goal.expression-returns-in-Least
expression-returns-in-Least g t c =
    writes_as _ _ (ap (λ (es : List (Expr VarId)). codes "min(" ++ separated true (codes ", ")
    (map (expr_text c.args.parts.now) es) ++ codes ")") c.deref-in-Least.ensures.value
    ∙ least_text c.args.parts.now c.args.expr.now c.in-Least.es c.in-Least.is) c.listed-in-Least.ensures

pub expression-returns-in-Greatest : goal.expression-returns-in-Greatest
expression-returns-in-Greatest g t c =
    writes_as _ _ (ap (λ (es : List (Expr VarId)). codes "max(" ++ separated true (codes ", ")
    (map (expr_text c.args.parts.now) es) ++ codes ")") c.deref-in-Greatest.ensures.value
    ∙ greatest_text c.args.parts.now c.args.expr.now c.in-Greatest.es c.in-Greatest.is) c.listed-in-Greatest.ensures

pub expression-returns-in-Count : goal.expression-returns-in-Count
expression-returns-in-Count g t c =
    writes_as _ _ (ap (λ (es : List (Expr VarId)). codes "count(" ++ separated true (codes ", ")
    (map (expr_text c.args.parts.now) es) ++ codes ")") c.deref-in-Count.ensures.value
    ∙ count_text c.args.parts.now c.args.expr.now c.in-Count.es c.in-Count.is) c.listed-in-Count.ensures

pub expression-returns-in_err-write_text-in-Compare : goal.expression-returns-in_err-write_text-in-Compare
expression-returns-in_err-write_text-in-Compare g t c =
    writes_exit _ _ c.from_residual-in_err-write_text-in-Compare.ensures.1
    (writes_as _ _ (compare_text c.args.parts.now c.args.expr.now c.in-Compare.relation c.in-Compare.a c.in-Compare.b
    c.in-Compare.is)
    (writes_front _ _ c.in_err-write_text-in-Compare.ensures))

pub expression-returns-in_err-expression-in-Compare : goal.expression-returns-in_err-expression-in-Compare
expression-returns-in_err-expression-in-Compare g t c =
    writes_exit _ _ c.from_residual-in_err-expression-in-Compare.ensures.1
    (writes_as _ _ (compare_text c.args.parts.now c.args.expr.now c.in-Compare.relation c.in-Compare.a c.in-Compare.b
    c.in-Compare.is)
    (writes_front _ _ (writes_front _ _ (writes_front _ _
    (writes_on c.in_ok-write_text-in-Compare.ensures
    (writes_as _ _ (ap (expr_text c.args.parts.now) c.deref-in-Compare.ensures)
    c.in_err-expression-in-Compare.ensures))))))

pub expression-returns-in_err-write_text-in-Compare-2 : goal.expression-returns-in_err-write_text-in-Compare-2
expression-returns-in_err-write_text-in-Compare-2 g t c =
    writes_exit _ _ c.from_residual-in_err-write_text-in-Compare-2.ensures.1
    (writes_as _ _ (compare_text c.args.parts.now c.args.expr.now c.in-Compare.relation c.in-Compare.a c.in-Compare.b
    c.in-Compare.is)
    (writes_front _ _ (writes_front _ _ (writes_on
    (writes_on c.in_ok-write_text-in-Compare.ensures
    (writes_as _ _ (ap (expr_text c.args.parts.now) c.deref-in-Compare.ensures)
    c.in_ok-expression-in-Compare.ensures))
    (writes_as _ _ c.relation_text.ensures c.in_err-write_text-in-Compare-2.ensures)))))

pub expression-returns-in_err-expression-in-Compare-2 : goal.expression-returns-in_err-expression-in-Compare-2
expression-returns-in_err-expression-in-Compare-2 g t c =
    writes_exit _ _ c.from_residual-in_err-expression-in-Compare-2.ensures.1
    (writes_as _ _ (compare_text c.args.parts.now c.args.expr.now c.in-Compare.relation c.in-Compare.a c.in-Compare.b
    c.in-Compare.is)
    (writes_front _ _ (writes_on (writes_on
    (writes_on c.in_ok-write_text-in-Compare.ensures
    (writes_as _ _ (ap (expr_text c.args.parts.now) c.deref-in-Compare.ensures)
    c.in_ok-expression-in-Compare.ensures))
    (writes_as _ _ c.relation_text.ensures c.in_ok-write_text-in-Compare-2.ensures))
    (writes_as _ _ (ap (expr_text c.args.parts.now) c.deref-in-Compare-2.ensures)
    c.in_err-expression-in-Compare-2.ensures))))

pub expression-returns-in_ok-expression-in-Compare-2 : goal.expression-returns-in_ok-expression-in-Compare-2
expression-returns-in_ok-expression-in-Compare-2 g t c =
    writes_as _ _ (compare_text c.args.parts.now c.args.expr.now c.in-Compare.relation c.in-Compare.a c.in-Compare.b
    c.in-Compare.is)
    (writes_on (writes_on (writes_on (writes_on c.in_ok-write_text-in-Compare.ensures
    (writes_as _ _ (ap (expr_text c.args.parts.now) c.deref-in-Compare.ensures)
    c.in_ok-expression-in-Compare.ensures))
    (writes_as _ _ c.relation_text.ensures c.in_ok-write_text-in-Compare-2.ensures))
    (writes_as _ _ (ap (expr_text c.args.parts.now) c.deref-in-Compare-2.ensures)
    c.in_ok-expression-in-Compare-2.ensures)) c.write_text-in-Compare-3.ensures)

pub expression-returns-in_err-chosen-in-Choose : goal.expression-returns-in_err-chosen-in-Choose
expression-returns-in_err-chosen-in-Choose g t c =
    let long : c.len-one.result ≡ length c.in-Choose.choices.items = search rules in
    writes_exit _ _ c.from_residual-in_err-chosen-in-Choose.ensures.1
    (writes_as _ _ (choose_text c.args.parts.now c.args.expr.now (nat_eq c.len-one.result 1) c.in-Choose.choices
    c.in-Choose.other c.in-Choose.is (ap (λ n. nat_eq n 1) long))
    (writes_front _ _ (writes_front _ _ (writes_as _ _
    (ap (λ (cs : List (Expr VarId × Expr VarId)). cases_form (nat_eq c.len-one.result 1)
    (map (texts c.args.parts.now) cs)) c.deref-in-Choose.ensures.value) c.in_err-chosen-in-Choose.ensures))))

pub expression-returns-in_err-expression-in-Choose : goal.expression-returns-in_err-expression-in-Choose
expression-returns-in_err-expression-in-Choose g t c =
    let long : c.len-one.result ≡ length c.in-Choose.choices.items = search rules in
    writes_exit _ _ c.from_residual-in_err-expression-in-Choose.ensures.1
    (writes_as _ _ (choose_text c.args.parts.now c.args.expr.now (nat_eq c.len-one.result 1) c.in-Choose.choices
    c.in-Choose.other c.in-Choose.is (ap (λ n. nat_eq n 1) long))
    (writes_front _ _ (writes_on (writes_as _ _
    (ap (λ (cs : List (Expr VarId × Expr VarId)). cases_form (nat_eq c.len-one.result 1)
    (map (texts c.args.parts.now) cs)) c.deref-in-Choose.ensures.value) c.in_ok-chosen-in-Choose.ensures)
    (writes_as _ _ (ap (expr_text c.args.parts.now) c.deref-in-Choose-2.ensures)
    c.in_err-expression-in-Choose.ensures))))

pub expression-returns-in_ok-expression-in-Choose : goal.expression-returns-in_ok-expression-in-Choose
expression-returns-in_ok-expression-in-Choose g t c =
    let long : c.len-one.result ≡ length c.in-Choose.choices.items = search rules in
    writes_as _ _ (choose_text c.args.parts.now c.args.expr.now (nat_eq c.len-one.result 1) c.in-Choose.choices
    c.in-Choose.other c.in-Choose.is (ap (λ n. nat_eq n 1) long))
    (writes_on (writes_on (writes_as _ _
    (ap (λ (cs : List (Expr VarId × Expr VarId)). cases_form (nat_eq c.len-one.result 1)
    (map (texts c.args.parts.now) cs)) c.deref-in-Choose.ensures.value) c.in_ok-chosen-in-Choose.ensures)
    (writes_as _ _ (ap (expr_text c.args.parts.now) c.deref-in-Choose-2.ensures)
    c.in_ok-expression-in-Choose.ensures)) (writes_as _ _ c.either.ensures c.write_text-in-Choose.ensures))

pub chosen-returns-in_err-write_text : goal.chosen-returns-in_err-write_text
chosen-returns-in_err-write_text g t c =
    writes_exit _ _ c.from_residual.ensures.1
    (writes_front _ _ (writes_front _ _ (writes_as _ _ c.either.ensures c.in_err-write_text.ensures)))

pub chosen-returns-in_err-cases : goal.chosen-returns-in_err-cases
chosen-returns-in_err-cases g t c =
    writes_exit _ _ c.from_residual-in_err-cases.ensures.1
    (writes_front _ _ (writes_on (writes_as _ _ c.either.ensures c.in_ok-write_text.ensures) c.in_err-cases.ensures))

pub chosen-returns : goal.chosen-returns
chosen-returns g t c =
    writes_on (writes_on (writes_as _ _ c.either.ensures c.in_ok-write_text.ensures) c.in_ok-cases.ensures)
    (writes_as _ _ c.either-2.ensures c.write_text-2.ensures)

pub listed-returns-in_err-write_text : goal.listed-returns-in_err-write_text
listed-returns-in_err-write_text g t c =
    writes_exit _ _ c.from_residual.ensures.1
    (writes_front _ _ (writes_front _ _ c.in_err-write_text.ensures))

pub listed-returns-in_err-operands : goal.listed-returns-in_err-operands
listed-returns-in_err-operands g t c =
    writes_exit _ _ c.from_residual-in_err-operands.ensures.1
    (writes_front _ _ (writes_on c.in_ok-write_text.ensures c.in_err-operands.ensures))

pub listed-returns : goal.listed-returns
listed-returns g t c =
    writes_on (writes_on c.in_ok-write_text.ensures c.in_ok-operands.ensures) c.write_text-2.ensures

pub cases-loop-test-init : goal.cases-loop-test-init
cases-loop-test-init g t c = leaves_all _ _

pub cases-returns-in_err-write_text : goal.cases-returns-in_err-write_text
cases-returns-in_err-write_text g t c =
    writes_exit _ _ c.from_residual.ensures.1
    (leaves_front _ _ c.loop-test.invariant
    (writes_as _ _ (case_text c.args.one _ _)
    (writes_front _ _ (writes_front _ _ (writes_front _ _
    (writes_front _ _ (writes_as _ _ c.either.ensures c.in_err-write_text.ensures))))))
    (next_item (λ (xs : List (Expr VarId × Expr VarId)). concat
    (map (case_form c.args.one) (map (λ (d : Expr VarId × Expr VarId).
    (expr_text c.args.parts.now d.0, expr_text c.args.parts.now d.1)) xs))) c.args.choices.now
    c.loop-test.test-index c.loop-test-item.result c.loop-test-test.true c.loop-test-item.is))

pub cases-returns-in_err-expression : goal.cases-returns-in_err-expression
cases-returns-in_err-expression g t c =
    writes_exit _ _ c.from_residual-in_err-expression.ensures.1
    (leaves_front _ _ c.loop-test.invariant
    (writes_as _ _ (case_text c.args.one _ _)
    (writes_front _ _ (writes_front _ _ (writes_front _ _
    (writes_on (writes_as _ _ c.either.ensures c.in_ok-write_text.ensures) c.in_err-expression.ensures)))))
    (next_item (λ (xs : List (Expr VarId × Expr VarId)). concat
    (map (case_form c.args.one) (map (λ (d : Expr VarId × Expr VarId).
    (expr_text c.args.parts.now d.0, expr_text c.args.parts.now d.1)) xs))) c.args.choices.now
    c.loop-test.test-index c.loop-test-item.result c.loop-test-test.true c.loop-test-item.is))

pub cases-returns-in_err-write_text-2 : goal.cases-returns-in_err-write_text-2
cases-returns-in_err-write_text-2 g t c =
    writes_exit _ _ c.from_residual-in_err-write_text-2.ensures.1
    (leaves_front _ _ c.loop-test.invariant
    (writes_as _ _ (case_text c.args.one _ _)
    (writes_front _ _ (writes_front _ _ (writes_on
    (writes_on (writes_as _ _ c.either.ensures c.in_ok-write_text.ensures) c.in_ok-expression.ensures)
    (writes_as _ _ c.either-in-loop-test.ensures c.in_err-write_text-2.ensures)))))
    (next_item (λ (xs : List (Expr VarId × Expr VarId)). concat
    (map (case_form c.args.one) (map (λ (d : Expr VarId × Expr VarId).
    (expr_text c.args.parts.now d.0, expr_text c.args.parts.now d.1)) xs))) c.args.choices.now
    c.loop-test.test-index c.loop-test-item.result c.loop-test-test.true c.loop-test-item.is))

pub cases-returns-in_err-expression-2 : goal.cases-returns-in_err-expression-2
cases-returns-in_err-expression-2 g t c =
    writes_exit _ _ c.from_residual-in_err-expression-2.ensures.1
    (leaves_front _ _ c.loop-test.invariant
    (writes_as _ _ (case_text c.args.one _ _)
    (writes_front _ _ (writes_on (writes_on
    (writes_on (writes_as _ _ c.either.ensures c.in_ok-write_text.ensures) c.in_ok-expression.ensures)
    (writes_as _ _ c.either-in-loop-test.ensures c.in_ok-write_text-2.ensures)) c.in_err-expression-2.ensures)))
    (next_item (λ (xs : List (Expr VarId × Expr VarId)). concat
    (map (case_form c.args.one) (map (λ (d : Expr VarId × Expr VarId).
    (expr_text c.args.parts.now d.0, expr_text c.args.parts.now d.1)) xs))) c.args.choices.now
    c.loop-test.test-index c.loop-test-item.result c.loop-test-test.true c.loop-test-item.is))

pub cases-returns-in_err-write_text-3 : goal.cases-returns-in_err-write_text-3
cases-returns-in_err-write_text-3 g t c =
    writes_exit _ _ c.from_residual-in_err-write_text-3.ensures.1
    (leaves_front _ _ c.loop-test.invariant
    (writes_as _ _ (case_text c.args.one _ _)
    (writes_on (writes_on (writes_on (writes_on (writes_as _ _ c.either.ensures c.in_ok-write_text.ensures)
    c.in_ok-expression.ensures) (writes_as _ _ c.either-in-loop-test.ensures c.in_ok-write_text-2.ensures))
    c.in_ok-expression-2.ensures) (writes_as _ _ c.either-in-loop-test-2.ensures c.in_err-write_text-3.ensures)))
    (next_item (λ (xs : List (Expr VarId × Expr VarId)). concat
    (map (case_form c.args.one) (map (λ (d : Expr VarId × Expr VarId).
    (expr_text c.args.parts.now d.0, expr_text c.args.parts.now d.1)) xs))) c.args.choices.now
    c.loop-test.test-index c.loop-test-item.result c.loop-test-test.true c.loop-test-item.is))

pub cases-loop-test-preserved : goal.cases-loop-test-preserved
cases-loop-test-preserved g t c =
    leaves_on _ _ c.loop-test.invariant
    (writes_as _ _ (case_text c.args.one _ _)
    (writes_on (writes_on (writes_on (writes_on (writes_as _ _ c.either.ensures c.in_ok-write_text.ensures)
    c.in_ok-expression.ensures) (writes_as _ _ c.either-in-loop-test.ensures c.in_ok-write_text-2.ensures))
    c.in_ok-expression-2.ensures) (writes_as _ _ c.either-in-loop-test-2.ensures c.in_ok-write_text-3.ensures)))
    (next_item (λ (xs : List (Expr VarId × Expr VarId)). concat
    (map (case_form c.args.one) (map (λ (d : Expr VarId × Expr VarId).
    (expr_text c.args.parts.now d.0, expr_text c.args.parts.now d.1)) xs))) c.args.choices.now
    c.loop-test.test-index c.loop-test-item.result c.loop-test-test.true c.loop-test-item.is)

pub cases-returns : goal.cases-returns
cases-returns g t c =
    leaves_none _ c.loop-test.invariant
    (no_item (λ (xs : List (Expr VarId × Expr VarId)). concat
    (map (case_form c.args.one) (map (λ (d : Expr VarId × Expr VarId).
    (expr_text c.args.parts.now d.0, expr_text c.args.parts.now d.1)) xs))) c.args.choices.now
    c.loop-test.test-index c.loop-test-test.false)

pub operands-loop-e-init : goal.operands-loop-e-init
operands-loop-e-init g t c = leaves_all _ _

pub operands-returns-in_err-write_text : goal.operands-returns-in_err-write_text
operands-returns-in_err-write_text g t c =
    writes_exit _ _ c.from_residual.ensures.1
    (leaves_front _ _ c.loop-e.invariant (writes_front _ _ (writes_as _ _ c.either.ensures c.in_err-write_text.ensures))
    (next_item (λ (xs : List (Expr VarId)). separated c.loop-e.first c.args.separator.now
    (map (expr_text c.args.parts.now) xs)) c.args.es.now c.loop-e.e-index c.e-item.result c.loop-e-test.true
    c.e-item.is))

pub operands-returns-in_err-expression : goal.operands-returns-in_err-expression
operands-returns-in_err-expression g t c =
    writes_exit _ _ c.from_residual-in_err-expression.ensures.1
    (leaves_front _ _ c.loop-e.invariant
    (writes_on (writes_as _ _ c.either.ensures c.in_ok-write_text.ensures) c.in_err-expression.ensures)
    (next_item (λ (xs : List (Expr VarId)). separated c.loop-e.first c.args.separator.now
    (map (expr_text c.args.parts.now) xs)) c.args.es.now c.loop-e.e-index c.e-item.result c.loop-e-test.true
    c.e-item.is))

pub operands-loop-e-preserved : goal.operands-loop-e-preserved
operands-loop-e-preserved g t c =
    leaves_on _ _ c.loop-e.invariant (writes_on (writes_as _ _ c.either.ensures c.in_ok-write_text.ensures)
    c.in_ok-expression.ensures)
    (next_item (λ (xs : List (Expr VarId)). separated c.loop-e.first c.args.separator.now
    (map (expr_text c.args.parts.now) xs)) c.args.es.now c.loop-e.e-index c.e-item.result c.loop-e-test.true
    c.e-item.is)

pub operands-returns : goal.operands-returns
operands-returns g t c =
    leaves_none _ c.loop-e.invariant
    (no_item (λ (xs : List (Expr VarId)). separated c.loop-e.first c.args.separator.now
    (map (expr_text c.args.parts.now) xs)) c.args.es.now c.loop-e.e-index c.loop-e-test.false)

pub terms-loop-plus-init : goal.terms-loop-plus-init
terms-loop-plus-init g t c = leaves_all _ _

pub terms-returns-in_err-write_text : goal.terms-returns-in_err-write_text
terms-returns-in_err-write_text g t c =
    writes_exit _ _ c.from_residual.ensures.1
    (leaves_front _ _ c.loop-plus.invariant (writes_front _ _ (writes_as _ _ c.sign.ensures c.in_err-write_text.ensures))
    (next_item (λ (xs : List (Bool × Expr VarId)). summed c.loop-plus.first
    (map (λ (q : Bool × Expr VarId). (q.0, expr_text c.args.parts.now q.1)) xs)) c.args.all.now
    c.loop-plus.plus-index c.loop-plus-item.result c.loop-plus-test.true c.loop-plus-item.is))

pub terms-returns-in_err-expression : goal.terms-returns-in_err-expression
terms-returns-in_err-expression g t c =
    writes_exit _ _ c.from_residual-in_err-expression.ensures.1
    (leaves_front _ _ c.loop-plus.invariant
    (writes_on (writes_as _ _ c.sign.ensures c.in_ok-write_text.ensures) c.in_err-expression.ensures)
    (next_item (λ (xs : List (Bool × Expr VarId)). summed c.loop-plus.first
    (map (λ (q : Bool × Expr VarId). (q.0, expr_text c.args.parts.now q.1)) xs)) c.args.all.now
    c.loop-plus.plus-index c.loop-plus-item.result c.loop-plus-test.true c.loop-plus-item.is))

pub terms-loop-plus-preserved : goal.terms-loop-plus-preserved
terms-loop-plus-preserved g t c =
    leaves_on _ _ c.loop-plus.invariant
    (writes_on (writes_as _ _ c.sign.ensures c.in_ok-write_text.ensures) c.in_ok-expression.ensures)
    (next_item (λ (xs : List (Bool × Expr VarId)). summed c.loop-plus.first
    (map (λ (q : Bool × Expr VarId). (q.0, expr_text c.args.parts.now q.1)) xs)) c.args.all.now
    c.loop-plus.plus-index c.loop-plus-item.result c.loop-plus-test.true c.loop-plus-item.is)

pub terms-returns : goal.terms-returns
terms-returns g t c =
    leaves_none _ c.loop-plus.invariant
    (no_item (λ (xs : List (Bool × Expr VarId)). summed c.loop-plus.first
    (map (λ (q : Bool × Expr VarId). (q.0, expr_text c.args.parts.now q.1)) xs)) c.args.all.now
    c.loop-plus.plus-index c.loop-plus-test.false)

-- each call is of something smaller
pub expression-expression-requires : goal.expression-expression-requires
expression-expression-requires g t c =
    λ κs within. (
      smaller.size_falls 0 2 _ _ t refl
          (smaller.less-not c.args.expr.now c.deref.result.now c.in-Not.a c.in-Not.is c.deref.ensures) c.decreases,
      within,
    )

pub expression-listed-requires : goal.expression-listed-requires
expression-listed-requires g t c =
    λ κs within. (
      smaller.size_falls 2 0 _ _ t refl
          (smaller.less-all c.args.expr.now c.in-All.es c.deref-in-All.result.now c.in-All.is
          c.deref-in-All.ensures.value) c.decreases,
      within,
    )

pub expression-listed-requires-in-Any : goal.expression-listed-requires-in-Any
expression-listed-requires-in-Any g t c =
    λ κs within. (
      smaller.size_falls 2 0 _ _ t refl
          (smaller.less-any c.args.expr.now c.in-Any.es c.deref-in-Any.result.now c.in-Any.is
          c.deref-in-Any.ensures.value) c.decreases,
      within,
    )

pub expression-listed-requires-in-Product : goal.expression-listed-requires-in-Product
expression-listed-requires-in-Product g t c =
    λ κs within. (
      smaller.size_falls 2 0 _ _ t refl
          (smaller.less-product c.args.expr.now c.in-Product.es c.deref-in-Product.result.now c.in-Product.is
          c.deref-in-Product.ensures.value) c.decreases,
      within,
    )

pub expression-listed-requires-in-Least : goal.expression-listed-requires-in-Least
expression-listed-requires-in-Least g t c =
    λ κs within. (
      smaller.size_falls 2 0 _ _ t refl
          (smaller.less-least c.args.expr.now c.in-Least.es c.deref-in-Least.result.now c.in-Least.is
          c.deref-in-Least.ensures.value) c.decreases,
      within,
    )

pub expression-listed-requires-in-Greatest : goal.expression-listed-requires-in-Greatest
expression-listed-requires-in-Greatest g t c =
    λ κs within. (
      smaller.size_falls 2 0 _ _ t refl
          (smaller.less-greatest c.args.expr.now c.in-Greatest.es c.deref-in-Greatest.result.now c.in-Greatest.is
          c.deref-in-Greatest.ensures.value) c.decreases,
      within,
    )

pub expression-listed-requires-in-Count : goal.expression-listed-requires-in-Count
expression-listed-requires-in-Count g t c =
    λ κs within. (
      smaller.size_falls 2 0 _ _ t refl
          (smaller.less-count c.args.expr.now c.in-Count.es c.deref-in-Count.result.now c.in-Count.is
          c.deref-in-Count.ensures.value) c.decreases,
      within,
    )

pub expression-expression-requires-in-Compare : goal.expression-expression-requires-in-Compare
expression-expression-requires-in-Compare g t c =
    λ κs within. (
      smaller.size_falls 0 2 _ _ t refl
          (smaller.less-left c.args.expr.now c.deref-in-Compare.result.now c.in-Compare.relation c.in-Compare.a
          c.in-Compare.b c.in-Compare.is c.deref-in-Compare.ensures) c.decreases,
      within,
    )

pub expression-expression-requires-in-Compare-2 : goal.expression-expression-requires-in-Compare-2
expression-expression-requires-in-Compare-2 g t c =
    λ κs within. (
      smaller.size_falls 0 2 _ _ t refl
          (smaller.less-right c.args.expr.now c.deref-in-Compare-2.result.now c.in-Compare.relation c.in-Compare.a
          c.in-Compare.b c.in-Compare.is c.deref-in-Compare-2.ensures) c.decreases,
      within,
    )

pub expression-terms-requires : goal.expression-terms-requires
expression-terms-requires g t c =
    λ κs within. (
      smaller.size_falls 1 1 _ _ t refl
          (smaller.less-parts c.args.expr.now c.in-Sum.all c.deref-in-Sum.result.now c.in-Sum.is
          c.deref-in-Sum.ensures.value) c.decreases,
      within,
    )

pub expression-chosen-requires : goal.expression-chosen-requires
expression-chosen-requires g t c =
    λ κs within. (
      smaller.size_falls 2 0 _ _ t refl
          (smaller.less-cases c.args.expr.now c.in-Choose.choices c.in-Choose.other c.deref-in-Choose.result.now
          c.in-Choose.is c.deref-in-Choose.ensures.value) c.decreases,
      within,
    )

pub expression-expression-requires-in-Choose : goal.expression-expression-requires-in-Choose
expression-expression-requires-in-Choose g t c =
    λ κs within. (
      smaller.size_falls 0 2 _ _ t refl
          (smaller.less-other c.args.expr.now c.deref-in-Choose-2.result.now c.in-Choose.choices c.in-Choose.other
          c.in-Choose.is c.deref-in-Choose-2.ensures) c.decreases,
      within,
    )

pub chosen-cases-requires : goal.chosen-cases-requires
chosen-cases-requires g t c =
    λ κs within. (
      smaller.rank_falls 1 2 0 _ _ t refl
          (smaller.no_more _) c.decreases,
      within,
    )

pub operands-loop-e-smaller : goal.operands-loop-e-smaller
operands-loop-e-smaller g t c =
    falls _ c.loop-e.e-index c.loop-e-test.true

pub terms-loop-plus-smaller : goal.terms-loop-plus-smaller
terms-loop-plus-smaller g t c =
    falls _ c.loop-plus.plus-index c.loop-plus-test.true

pub terms-expression-requires : goal.terms-expression-requires
terms-expression-requires g t c =
    λ κs within. (
      smaller.rank_falls 0 1 0 _ _ t refl
          (smaller.up-part c.args.all.now c.loop-plus.plus-index c.loop-plus-item.result c.loop-plus-test.true
          c.loop-plus-item.is) c.decreases,
      within,
    )

pub cases-loop-test-smaller : goal.cases-loop-test-smaller
cases-loop-test-smaller g t c =
    falls _ c.loop-test.test-index c.loop-test-test.true

pub cases-expression-requires : goal.cases-expression-requires
cases-expression-requires g t c =
    λ κs within. (
      smaller.rank_falls 0 1 0 _ _ t refl
          (smaller.up-test c.args.choices.now c.loop-test.test-index c.loop-test-item.result c.loop-test-test.true
          c.loop-test-item.is) c.decreases,
      within,
    )

pub cases-expression-requires-in-loop-test : goal.cases-expression-requires-in-loop-test
cases-expression-requires-in-loop-test g t c =
    λ κs within. (
      smaller.rank_falls 0 1 0 _ _ t refl
          (smaller.up-value c.args.choices.now c.loop-test.test-index c.loop-test-item.result c.loop-test-test.true
          c.loop-test-item.is) c.decreases,
      within,
    )

use Rattle.std.proofs.Common.{ℤ, FitsSigned, sym, ◌∙◌, ap, subst}
use Rattle.std.specs.Fmt.{signed_decimal}
use Rattle.std.specs.Int.{w64}
use Rattle.std.proofs.lemmas.Int.{to_z-of_z}
use Rattle.ar_base.proofs.Truths.{equal_is_false}
use Rattle.job_inputs.proofs.Words.{parsed, same_number}
use Rattle.job_inputs.proofs.values.number.Goals as goal

pub returns-in_default-clause-none : goal.returns-in_default-clause-none
returns-in_default-clause-none c = λ n fits is.
    c.in_default.not-Ok n (parsed c.args.word.now _ n fits c.parse.ensures.value.0 is)

pub returns-else-eq-clause-none : goal.returns-else-eq-clause-none
returns-else-eq-clause-none c = λ n fits is.
    let same = same_number c.in-Ok.is (parsed c.args.word.now _ n fits c.parse.ensures.value.0 is) in
    let own : FitsSigned w64 c.in-Ok.n = subst (λ (z : ℤ). FitsSigned w64 z) (sym same) fits in
    equal_is_false _ _ _
    (c.format.ensures.text ∙ ap signed_decimal (to_z-of_z w64 c.in-Ok.n own ∙ same) ∙ sym is) c.eq.ensures c.if-eq.false

use Rattle.std.proofs.Common.{◌≡◌, sym, ◌∙◌, ap, subst, decimal}
use Rattle.std.specs.Str.{IsUtf8}
use Rattle.std.proofs.lemmas.Fmt.{parse-decimal, IsAscii-decimal}
use Rattle.std.proofs.lemmas.Str.{IsUtf8-from_ascii}
use Rattle.ar_base.proofs.Truths.{equal_is_false}
use Rattle.job_inputs.proofs.way_numbers.number_of.Goals as goal

pub returns-in_default-clause-none : goal.returns-in_default-clause-none
returns-in_default-clause-none c = λ k small e.
    c.in_default.ensures.cases.0 (subst IsUtf8 (sym e) (IsUtf8-from_ascii (decimal k) (IsAscii-decimal k small)))

pub returns-in_default-parse-clause-none : goal.returns-in_default-parse-clause-none
returns-in_default-parse-clause-none c = λ k small e.
    c.in_default-parse.not-Ok k (parse-decimal 64 k c.in-Ok.text.now c.parse.result small small
    (c.in-Ok.ensures.cases.0 ∙ e) c.parse.ensures.value.0)

pub returns-else-eq-clause-none : goal.returns-else-eq-clause-none
returns-else-eq-clause-none c = λ k small e.
    let r = parse-decimal 64 k c.in-Ok.text.now c.parse.result small small (c.in-Ok.ensures.cases.0 ∙ e)
    c.parse.ensures.value.0 in
    let same : k ≡ c.in-Ok-parse.k = cc in
    equal_is_false _ _ _ (c.as_bytes.ensures.value ∙ c.format-written.ensures.text ∙ sym (e ∙ ap decimal same))
    c.eq.ensures c.if-eq.false

use Rattle.std.proofs.Common.{◌++◌, ◌∷◌, [], ◌∙◌, sym, ap}
use Rattle.job_inputs.specs.Lines.{without_return}
use Rattle.job_inputs.proofs.PieceLemmas.{return_dropped, no_return_there}
use Rattle.job_inputs.proofs.lines.without_return.Goals as goal

pub returns-then-last-eq13 : goal.returns-then-last-eq13
returns-then-last-eq13 c = sym (ap without_return
    (c.in-Some.ensures.cases.0 ∙ ap (λ z. c.in-Some.rest.now ++ z ∷ []) c.if-last-eq13.true)
    ∙ return_dropped c.in-Some.rest.now)

pub returns-else-last-eq13 : goal.returns-else-last-eq13
returns-else-last-eq13 c = no_return_there _ _ _ c.in-Some.ensures.cases.0 c.if-last-eq13.false

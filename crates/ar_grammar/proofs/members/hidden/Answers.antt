use Rattle.std.proofs.Common.{refl}
use Rattle.expression_grammar.proofs.Finding.{finds_err, finds_ok, spans_map}
use Rattle.expression_grammar.proofs.Standing.{halts_err}
use Rattle.ar_grammar.proofs.members.hidden.Goals as goal

pub returns-in_err-path-clause-only : goal.returns-in_err-path-clause-only
returns-in_err-path-clause-only c = λ left. finds_err (c.in_err-path.ensures.only left) c.from_residual.ensures.1

pub returns-clause-found : goal.returns-clause-found
returns-clause-found c = spans_map c.in_ok-path.ensures.found (λ next ts h. record { event = _; is = refl; reads = h })

pub returns-clause-only : goal.returns-clause-only
returns-clause-only c = λ left. finds_ok _ (c.in_ok-path.ensures.only left)

pub returns-in_err-path-clause-stuck : goal.returns-in_err-path-clause-stuck
returns-in_err-path-clause-stuck c = λ left. halts_err _ _ c.from_residual.ensures.1 (c.in_err-path.ensures.stuck left)

use Rattle.expression_grammar.proofs.Finding.{finds_then, finds_fails, finds_given, finds_err, finds_ok, spans_then, follows_any}
use Rattle.ar_grammar.proofs.members.part.Goals as goal
use Rattle.expression_grammar.proofs.Standing.{halts_err, refuses_fails, refuses_then, passes}
use Rattle.ar_grammar.proofs.MemberParts.{turns_must}
use Rattle.ar_grammar.proofs.InstrTexts.{some_path}

pub returns-in_err-must-clause-only : goal.returns-in_err-must-clause-only
returns-in_err-must-clause-only c =
    λ left. finds_given (finds_fails (c.in_err-must.ensures.only left) c.from_residual.ensures.1 follows_any)
    (λ n next ts h s k. (h, s))

pub returns-in_err-event-clause-only : goal.returns-in_err-event-clause-only
returns-in_err-event-clause-only c =
    λ left. finds_given (finds_then (c.in_ok-must.ensures.only left)
    (finds_err (c.in_err-event.ensures.only left) c.from_residual-in_err-event.ensures.1) follows_any)
    (λ n next ts h s k. (h, s))

pub returns-clause-found : goal.returns-clause-found
returns-clause-found c = spans_then c.in_ok-must.ensures.found c.in_ok-event.ensures.found

pub returns-clause-only : goal.returns-clause-only
returns-clause-only c = λ left. finds_given
    (finds_then (c.in_ok-must.ensures.only left) (finds_ok _ (c.in_ok-event.ensures.only left)) follows_any)
    (λ n next ts h s k. (h, s))

pub returns-in_err-must-clause-stuck : goal.returns-in_err-must-clause-stuck
returns-in_err-must-clause-stuck c =
    λ left. halts_err _ _ c.from_residual.ensures.1 (refuses_fails (c.in_err-must.ensures.stuck left) (λ m. some_path))

pub returns-in_err-event-clause-stuck : goal.returns-in_err-event-clause-stuck
returns-in_err-event-clause-stuck c =
    λ left. halts_err _ _ c.from_residual-in_err-event.ensures.1
    (refuses_then (passes c.in_ok-must.ensures.found (λ m l. turns_must c.in_ok-must.must))
    (c.in_err-event.ensures.stuck left))

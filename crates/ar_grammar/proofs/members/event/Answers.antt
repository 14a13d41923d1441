use Rattle.std.proofs.Common.{refl}
use Rattle.expression_grammar.proofs.Finding.{finds_then, finds_fails, finds_given, finds_err, finds_ok, spans_then, spans_map, follows_any}
use Rattle.ar_grammar.proofs.members.event.Goals as goal
use Rattle.expression_grammar.proofs.Standing.{halts_err, refuses_fails, refuses_then, passes}
use Rattle.ar_grammar.proofs.Standing.{begins_maybe}
use Rattle.ar_grammar.proofs.NameForms.{turns_placed}

pub returns-in_err-name-clause-only : goal.returns-in_err-name-clause-only
returns-in_err-name-clause-only c =
    finds_given (finds_fails (c.in_err-name.ensures.only _) c.from_residual.ensures.1 follows_any)
    (λ n next ts h s k. (h, s))

pub returns-in_err-attribute-clause-only : goal.returns-in_err-attribute-clause-only
returns-in_err-attribute-clause-only c =
    finds_given (finds_then (c.in_ok-name.ensures.only _)
    (finds_err c.in_err-attribute.ensures.only c.from_residual-in_err-attribute.ensures.1) follows_any)
    (λ n next ts h s k. (h, s))

pub returns-clause-found : goal.returns-clause-found
returns-clause-found c = spans_map (spans_then c.in_ok-name.ensures.found c.in_ok-attribute.ensures.found)
    (λ next ts h. record { name = _; at = _; attribute = _; is = refl; reads = h })

pub returns-clause-only : goal.returns-clause-only
returns-clause-only c = finds_given
    (finds_then (c.in_ok-name.ensures.only _) (finds_ok _ c.in_ok-attribute.ensures.only) follows_any)
    (λ n next ts h s k. (h, s))

pub returns-in_err-name-clause-stuck : goal.returns-in_err-name-clause-stuck
returns-in_err-name-clause-stuck c =
    halts_err _ _ c.from_residual.ensures.1 (refuses_fails (c.in_err-name.ensures.stuck _) (λ m. begins_maybe))

pub returns-in_err-attribute-clause-stuck : goal.returns-in_err-attribute-clause-stuck
returns-in_err-attribute-clause-stuck c =
    halts_err _ _ c.from_residual-in_err-attribute.ensures.1
    (refuses_then (passes c.in_ok-name.ensures.found (λ m l. turns_placed _)) c.in_err-attribute.ensures.stuck)

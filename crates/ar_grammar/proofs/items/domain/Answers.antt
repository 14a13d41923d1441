use Rattle.expression_grammar.proofs.Finding.{finds_then, finds_fails, finds_given, finds_ok, spans_then, spans_expected, follows_any}
use Rattle.ar_grammar.proofs.items.domain.Goals as goal
use Rattle.expression_grammar.proofs.Standing.{halts_err, refuses_fails, refuses_then, passes, passes_expected, begins_then, begins_token}
use Rattle.ar_grammar.proofs.Standing.{begins_maybe}
use Rattle.ar_grammar.proofs.ItemParts.{some_domain_body, semicolon_found, semicolon_only}
use Rattle.ar_grammar.proofs.NameForms.{turns_placed}
use Rattle.ar_lexer.specs.declared.token.TokenKind.TheVariants.{Name}

pub returns-in_err-expect-clause-only : goal.returns-in_err-expect-clause-only
returns-in_err-expect-clause-only c =
    λ left. finds_given (finds_fails (c.in_err-expect.ensures.only left) c.from_residual.ensures.1 follows_any)
    (λ n next ts h s k. (h, s))

pub returns-in_err-name-clause-only : goal.returns-in_err-name-clause-only
returns-in_err-name-clause-only c =
    λ left. finds_given (finds_then (c.in_ok-expect.ensures.only left)
    (finds_fails (c.in_err-name.ensures.only left) c.from_residual-in_err-name.ensures.1 follows_any) follows_any)
    (λ n next ts h s k. (h, s))

pub returns-in_err-body-clause-only : goal.returns-in_err-body-clause-only
returns-in_err-body-clause-only c =
    λ left. finds_given (finds_then (c.in_ok-expect.ensures.only left)
    (finds_then (c.in_ok-name.ensures.only left)
    (finds_fails (c.in_err-body.ensures.only left) c.from_residual-in_err-body.ensures.1 follows_any) follows_any)
    follows_any) (λ n next ts h s k. (h, s))

pub returns-clause-found : goal.returns-clause-found
returns-clause-found c = spans_then (spans_expected c.in_ok-expect.ensures.found)
    (spans_then c.in_ok-name.ensures.found (spans_then c.in_ok-body.ensures.found (semicolon_found _ c.eat.ensures.taken c.eat.ensures.left)))

pub returns-clause-only : goal.returns-clause-only
returns-clause-only c = λ left. finds_given
    (finds_then (c.in_ok-expect.ensures.only left)
    (finds_then (c.in_ok-name.ensures.only left)
    (finds_then (c.in_ok-body.ensures.only left) (finds_ok _ (semicolon_only left _ c.eat.ensures.taken c.eat.ensures.left c.eat.ensures.other)) follows_any)
    follows_any) follows_any) (λ n next ts h s k. (h, s))

pub returns-in_err-expect-clause-stuck : goal.returns-in_err-expect-clause-stuck
returns-in_err-expect-clause-stuck c =
    λ left. halts_err _ _ c.from_residual.ensures.1
    (refuses_fails (c.in_err-expect.ensures.stuck left)
    (λ m. begins_then (begins_token Name) (begins_then some_domain_body begins_maybe)))

pub returns-in_err-name-clause-stuck : goal.returns-in_err-name-clause-stuck
returns-in_err-name-clause-stuck c =
    λ left. halts_err _ _ c.from_residual-in_err-name.ensures.1
    (refuses_then (passes_expected c.in_ok-expect.ensures.found)
    (refuses_fails (c.in_err-name.ensures.stuck left) (λ m. begins_then some_domain_body begins_maybe)))

pub returns-in_err-body-clause-stuck : goal.returns-in_err-body-clause-stuck
returns-in_err-body-clause-stuck c =
    λ left. halts_err _ _ c.from_residual-in_err-body.ensures.1
    (refuses_then (passes_expected c.in_ok-expect.ensures.found)
    (refuses_then (passes c.in_ok-name.ensures.found (λ m l. turns_placed _))
    (refuses_fails (c.in_err-body.ensures.stuck left) (λ m. begins_maybe))))

use Rattle.expression_grammar.proofs.Finding.{finds_then, finds_fails, finds_err, finds_ok, spans_then, follows_any}
use Rattle.ar_grammar.proofs.body.valued.Goals as goal
use Rattle.expression_grammar.proofs.Standing.{halts_err, refuses_fails, refuses_then, passes, begins_then, begins_token}
use Rattle.ar_grammar.proofs.NameForms.{turns_placed}
use Rattle.ar_grammar.proofs.MemberParts.{turns_type}
use Rattle.ar_grammar.proofs.BodyTexts.{some_equals}
use Rattle.ar_lexer.specs.declared.token.TokenKind.TheVariants.{Name}

pub returns-in_err-of_type-clause-only : goal.returns-in_err-of_type-clause-only
returns-in_err-of_type-clause-only c =
    finds_fails (c.in_err-of_type.ensures.only _) c.from_residual.ensures.1 follows_any

pub returns-in_err-name-clause-only : goal.returns-in_err-name-clause-only
returns-in_err-name-clause-only c =
    finds_then (c.in_ok-of_type.ensures.only _)
    (finds_fails (c.in_err-name.ensures.only _) c.from_residual-in_err-name.ensures.1 follows_any) follows_any

pub returns-in_err-value-clause-only : goal.returns-in_err-value-clause-only
returns-in_err-value-clause-only c =
    finds_then (c.in_ok-of_type.ensures.only _)
    (finds_then (c.in_ok-name.ensures.only _)
    (finds_err c.in_err-value.ensures.only c.from_residual-in_err-value.ensures.1) follows_any) follows_any

pub returns-clause-found : goal.returns-clause-found
returns-clause-found c = spans_then c.in_ok-of_type.ensures.found
    (spans_then c.in_ok-name.ensures.found c.in_ok-value.ensures.found)

pub returns-clause-only : goal.returns-clause-only
returns-clause-only c = finds_then (c.in_ok-of_type.ensures.only _)
    (finds_then (c.in_ok-name.ensures.only _) (finds_ok _ c.in_ok-value.ensures.only) follows_any) follows_any

pub returns-in_err-of_type-clause-stuck : goal.returns-in_err-of_type-clause-stuck
returns-in_err-of_type-clause-stuck c =
    halts_err _ _ c.from_residual.ensures.1
    (refuses_fails (c.in_err-of_type.ensures.stuck _) (λ m. begins_then (begins_token Name) (some_equals m)))

pub returns-in_err-name-clause-stuck : goal.returns-in_err-name-clause-stuck
returns-in_err-name-clause-stuck c =
    halts_err _ _ c.from_residual-in_err-name.ensures.1
    (refuses_then (passes c.in_ok-of_type.ensures.found (λ m l. turns_type c.in_ok-of_type.of_type))
    (refuses_fails (c.in_err-name.ensures.stuck _) some_equals))

pub returns-in_err-value-clause-stuck : goal.returns-in_err-value-clause-stuck
returns-in_err-value-clause-stuck c =
    halts_err _ _ c.from_residual-in_err-value.ensures.1
    (refuses_then (passes c.in_ok-of_type.ensures.found (λ m l. turns_type c.in_ok-of_type.of_type))
    (refuses_then (passes c.in_ok-name.ensures.found (λ m l. turns_placed _)) c.in_err-value.ensures.stuck))

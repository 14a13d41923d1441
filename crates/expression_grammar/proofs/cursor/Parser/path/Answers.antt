use Rattle.std.proofs.Common.{refl}
use Rattle.expression_grammar.proofs.Finding.{finds_given, finds_then, finds_fails, finds_err, finds_ok, finds_memory, follows_any, follows_then, follows_token, err_memory}
use Rattle.expression_grammar.proofs.PathForms.{path_made, pushed_more}
use Rattle.expression_grammar.proofs.cursor.Parser.path.Goals as goal
use Rattle.ar_lexer.specs.declared.token.TokenKind.TheVariants.{Name}
use Rattle.expression_grammar.proofs.Standing.{halts_err, halts_memory, refuses_fails, refuses_then, passes, passes_expected, begins_then, begins_token, begins_no_more}
use Rattle.expression_grammar.proofs.Turning.{turns_start}

pub returns-in_err-start-clause-only : goal.returns-in_err-start-clause-only
returns-in_err-start-clause-only c = λ left.
    finds_given (finds_fails (c.in_err-start.ensures.only left) c.from_residual.ensures.1 (follows_then refl))
    (λ n next ts h s k. (h, s))

pub returns-in_err-first-clause-only : goal.returns-in_err-first-clause-only
returns-in_err-first-clause-only c = λ left.
    finds_given (finds_then (c.in_ok-start.ensures.only left)
    (finds_fails (c.in_err-first.ensures.only left) c.from_residual-in_err-first.ensures.1 follows_any)
    (follows_then refl))
    (λ n next ts h s k. (h, s))

pub returns-in_err-names-clause-only : goal.returns-in_err-names-clause-only
returns-in_err-names-clause-only c = λ left.
    let f = finds_then (c.in_ok-start.ensures.only left) (c.in_ok-first.ensures.only left) (follows_token refl) in
    finds_memory f.front f.passed (err_memory _ _ c.from_residual-in_err-names.ensures.1 c.in_err-names.ensures.err)

pub returns-in_err-more_steps-clause-only : goal.returns-in_err-more_steps-clause-only
returns-in_err-more_steps-clause-only c = λ left.
    finds_given (finds_then (c.in_ok-start.ensures.only left)
    (finds_then (c.in_ok-first.ensures.only left)
    (finds_err (c.in_err-more_steps.ensures.only left) c.from_residual-in_err-more_steps.ensures.1) follows_any)
    (follows_then refl))
    (λ n next ts h s k. (h, s))

pub returns-clause-found : goal.returns-clause-found
returns-clause-found c = let m = c.in_ok-more_steps.ensures.found in
    path_made _ _ c.more_steps.new.names m.0 c.place-at.ensures c.in_ok-start.ensures.found c.in_ok-first.ensures.found
    m.2 (pushed_more c.in_ok-names.ensures.items m.1)

pub returns-clause-only : goal.returns-clause-only
returns-clause-only c = λ left.
    finds_given (finds_then (c.in_ok-start.ensures.only left)
    (finds_then (c.in_ok-first.ensures.only left) (finds_ok _ (c.in_ok-more_steps.ensures.only left)) follows_any)
    (follows_then refl))
    (λ n next ts h s k. (h, s))

pub returns-in_err-start-clause-stuck : goal.returns-in_err-start-clause-stuck
returns-in_err-start-clause-stuck c =
    λ left. halts_err _ _ c.from_residual.ensures.1
    (refuses_fails (c.in_err-start.ensures.stuck left) (λ m. begins_then (begins_token Name) begins_no_more))

pub returns-in_err-first-clause-stuck : goal.returns-in_err-first-clause-stuck
returns-in_err-first-clause-stuck c =
    λ left. halts_err _ _ c.from_residual-in_err-first.ensures.1
    (refuses_then (passes c.in_ok-start.ensures.found (λ m l. turns_start _))
    (refuses_fails (c.in_err-first.ensures.stuck left) (λ m. begins_no_more)))

pub returns-in_err-names-clause-stuck : goal.returns-in_err-names-clause-stuck
returns-in_err-names-clause-stuck c = λ left. halts_memory _ _ _ _ _ (err_memory _ _ c.from_residual-in_err-names.ensures.1 c.in_err-names.ensures.err)

pub returns-in_err-more_steps-clause-stuck : goal.returns-in_err-more_steps-clause-stuck
returns-in_err-more_steps-clause-stuck c =
    λ left. halts_err _ _ c.from_residual-in_err-more_steps.ensures.1
    (refuses_then (passes c.in_ok-start.ensures.found (λ m l. turns_start _))
    (refuses_then (passes_expected c.in_ok-first.ensures.found) (c.in_err-more_steps.ensures.stuck left)))

use Rattle.std.proofs.Common.{refl}
use Rattle.expression_grammar.proofs.Finding.{finds_then, finds_fails, finds_given, finds_err, finds_ok, spans_expected, follows_then, follows_any}
use Rattle.ar_grammar.proofs.MemberParts.{setting_made, turns_target}
use Rattle.ar_grammar.proofs.members.setting.Goals as goal
use Rattle.expression_grammar.proofs.Standing.{halts_err, refuses_fails, refuses_then, passes, passes_expected, begins_then, begins_token}
use Rattle.ar_lexer.specs.declared.token.TokenKind.TheVariants.{Sign}
use Rattle.ar_lexer.specs.declared.signs.TheConstants.{EQUALS}
use Rattle.expression_grammar.proofs.Beginnings.{some_expr}

pub returns-in_err-target-clause-only : goal.returns-in_err-target-clause-only
returns-in_err-target-clause-only c =
    finds_given (finds_fails (c.in_err-target.ensures.only _) c.from_residual.ensures.1 (follows_then refl))
    (λ n next ts h s k. (h, s))

pub returns-in_err-expect-clause-only : goal.returns-in_err-expect-clause-only
returns-in_err-expect-clause-only c =
    finds_given (finds_then (c.in_ok-target.ensures.only _)
    (finds_fails (c.in_err-expect.ensures.only _) c.from_residual-in_err-expect.ensures.1 follows_any)
    (follows_then refl)) (λ n next ts h s k. (h, s))

pub returns-in_err-value-clause-only : goal.returns-in_err-value-clause-only
returns-in_err-value-clause-only c =
    finds_given (finds_then (c.in_ok-target.ensures.only _)
    (finds_then (c.in_ok-expect.ensures.only _)
    (finds_err c.in_err-value.ensures.only c.from_residual-in_err-value.ensures.1) follows_any) (follows_then refl))
    (λ n next ts h s k. (h, s))

pub returns-clause-found : goal.returns-clause-found
returns-clause-found c = setting_made _ _ _ c.in_ok-target.target _ c.place-at.ensures c.in_ok-target.ensures.found
    (spans_expected c.in_ok-expect.ensures.found) c.in_ok-value.ensures.found

pub returns-clause-only : goal.returns-clause-only
returns-clause-only c = finds_given
    (finds_then (c.in_ok-target.ensures.only _)
    (finds_then (c.in_ok-expect.ensures.only _) (finds_ok _ c.in_ok-value.ensures.only) follows_any)
    (follows_then refl)) (λ n next ts h s k. (h, s))

pub returns-in_err-target-clause-stuck : goal.returns-in_err-target-clause-stuck
returns-in_err-target-clause-stuck c =
    halts_err _ _ c.from_residual.ensures.1
    (refuses_fails (c.in_err-target.ensures.stuck _) (λ m. begins_then (begins_token (Sign EQUALS)) (some_expr m)))

pub returns-in_err-expect-clause-stuck : goal.returns-in_err-expect-clause-stuck
returns-in_err-expect-clause-stuck c =
    halts_err _ _ c.from_residual-in_err-expect.ensures.1
    (refuses_then (passes c.in_ok-target.ensures.found (λ m l. turns_target c.in_ok-target.target.items))
    (refuses_fails (c.in_err-expect.ensures.stuck _) some_expr))

pub returns-in_err-value-clause-stuck : goal.returns-in_err-value-clause-stuck
returns-in_err-value-clause-stuck c =
    halts_err _ _ c.from_residual-in_err-value.ensures.1
    (refuses_then (passes c.in_ok-target.ensures.found (λ m l. turns_target c.in_ok-target.target.items))
    (refuses_then (passes_expected c.in_ok-expect.ensures.found) c.in_err-value.ensures.stuck))

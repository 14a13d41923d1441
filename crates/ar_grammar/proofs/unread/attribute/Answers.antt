use Rattle.std.proofs.Common.{refl, sym, ◌∙◌}
use Rattle.expression_grammar.specs.Results.{anything}
use Rattle.expression_grammar.proofs.Finding.{finds_then, finds_fails, finds_given, finds_plain, finds_err, finds_ok, finds_inside, finds_nothing, spans_expected, follows_token, follows_any}
use Rattle.ar_grammar.proofs.Finding.{finds_deep}
use Rattle.ar_grammar.proofs.UnreadParts.{attribute_none, attribute_there, attribute_inside, attribute_in, bracketed_some, some_bracketed, bracketed_at, some_unread_end, turns_unread}
use Rattle.ar_grammar.proofs.unread.attribute.Goals as goal
use Rattle.expression_grammar.proofs.Standing.{halts_err, refuses_fails, refuses_then, refuses_map, refuses_inside, refuses_deep, passes, passes_expected, begins_token}
use Rattle.std.proofs.Common.{inr, ap}
use Rattle.ar_lexer.specs.declared.token.TokenKind.TheVariants.{Sign}
use Rattle.ar_lexer.specs.declared.signs.TheConstants.{OPEN_PARENTHESIS, CLOSE_PARENTHESIS}
use Rattle.expression_grammar.specs.Results.{is_sign}
use Rattle.ar_grammar.specs.Parts.{unread_tokens}

pub returns-then-not-is_at-clause-only : goal.returns-then-not-is_at-clause-only
returns-then-not-is_at-clause-only c =
    finds_plain (finds_nothing _) (λ n next ts h s k none.
    (attribute_none n next ts h (λ e. c.if-not-is_at.ensures.no (sym k ∙ e)) none, s))

pub returns-then-left-eq0-clause-only : goal.returns-then-left-eq0-clause-only
returns-then-left-eq0-clause-only c =
    finds_given (finds_deep {ends = anything} c.no_room.ensures.deep c.if-left-eq0.true bracketed_some)
    (λ n next ts h s k. (attribute_there n next ts h s (k ∙ c.if-not-is_at.ensures.yes), refl))

pub returns-in_err-expect-clause-only : goal.returns-in_err-expect-clause-only
returns-in_err-expect-clause-only c =
    finds_given (finds_inside c.if-left-eq0.false
    (finds_fails (c.in_err-expect.ensures.only _) c.from_residual.ensures.1 follows_any))
    (λ n next ts h s k. (attribute_inside n next ts h s (k ∙ c.if-not-is_at.ensures.yes), refl))

pub returns-in_err-unread-clause-only : goal.returns-in_err-unread-clause-only
returns-in_err-unread-clause-only c =
    finds_given (finds_inside c.if-left-eq0.false
    (finds_then (c.in_ok-expect.ensures.only _)
    (finds_fails c.in_err-unread.ensures.only c.from_residual-in_err-unread.ensures.1 (follows_token refl))
    follows_any)) (λ n next ts h s k. (attribute_inside n next ts h s (k ∙ c.if-not-is_at.ensures.yes), refl))

pub returns-in_err-expect-2-clause-only : goal.returns-in_err-expect-2-clause-only
returns-in_err-expect-2-clause-only c =
    finds_given (finds_inside c.if-left-eq0.false
    (finds_then (c.in_ok-expect.ensures.only _)
    (finds_then c.in_ok-unread.ensures.only
    (finds_err (c.in_err-expect-2.ensures.only _) c.from_residual-in_err-expect-2.ensures.1) (follows_token refl))
    follows_any)) (λ n next ts h s k. (attribute_inside n next ts h s (k ∙ c.if-not-is_at.ensures.yes), refl))

pub returns-clause-found : goal.returns-clause-found
returns-clause-found c = attribute_in c.args.left _ c.if-left-eq0.false (spans_expected c.in_ok-expect.ensures.found)
    c.in_ok-unread.ensures.found c.span_since-span.ensures (spans_expected c.in_ok-expect-2.ensures.found)

pub returns-clause-only : goal.returns-clause-only
returns-clause-only c = finds_given
    (finds_inside c.if-left-eq0.false (finds_then (c.in_ok-expect.ensures.only _)
    (finds_then c.in_ok-unread.ensures.only (finds_ok _ (c.in_ok-expect-2.ensures.only _)) (follows_token refl))
    follows_any)) (λ n next ts h s k. (attribute_inside n next ts h s (k ∙ c.if-not-is_at.ensures.yes), refl))

pub returns-then-left-eq0-clause-stuck : goal.returns-then-left-eq0-clause-stuck
returns-then-left-eq0-clause-stuck c =
    refuses_map (refuses_deep c.no_room.result (is_sign OPEN_PARENTHESIS) c.no_room.ensures.deep
    (ap (is_sign OPEN_PARENTHESIS) c.if-not-is_at.ensures.yes) refl c.if-left-eq0.true some_bracketed (bracketed_at 2))
    (λ m next ts h. inr h)

pub returns-in_err-expect-clause-stuck : goal.returns-in_err-expect-clause-stuck
returns-in_err-expect-clause-stuck c =
    halts_err _ _ c.from_residual.ensures.1
    (refuses_inside c.if-left-eq0.false
    (refuses_fails (c.in_err-expect.ensures.stuck _) (λ m. some_unread_end {A = unread_tokens m}))
    (λ m next ts h. inr h))

pub returns-in_err-unread-clause-stuck : goal.returns-in_err-unread-clause-stuck
returns-in_err-unread-clause-stuck c =
    halts_err _ _ c.from_residual-in_err-unread.ensures.1
    (refuses_inside c.if-left-eq0.false
    (refuses_then (passes_expected c.in_ok-expect.ensures.found)
    (refuses_fails c.in_err-unread.ensures.stuck (λ m. begins_token (Sign CLOSE_PARENTHESIS)))) (λ m next ts h. inr h))

pub returns-in_err-expect-2-clause-stuck : goal.returns-in_err-expect-2-clause-stuck
returns-in_err-expect-2-clause-stuck c =
    halts_err _ _ c.from_residual-in_err-expect-2.ensures.1
    (refuses_inside c.if-left-eq0.false
    (refuses_then (passes_expected c.in_ok-expect.ensures.found)
    (refuses_then (passes c.in_ok-unread.ensures.found (λ m l. turns_unread _ m l))
    (c.in_err-expect-2.ensures.stuck _))) (λ m next ts h. inr h))

use Rattle.std.proofs.Common.{◌∷◌, refl}
use Rattle.ar_lexer.specs.declared.token.TokenKind.TheVariants.{Sign}
use Rattle.ar_lexer.specs.declared.signs.TheConstants.{COMMA, SEMICOLON}
use Rattle.ar_grammar.specs.Members.{ReadsEvent}
use Rattle.ar_grammar.specs.Results.{ends_attribute, ends_semicolon}
use Rattle.expression_grammar.proofs.Finding.{finds_then, finds_fails, finds_given, finds_err, finds_ok, finds_memory, spans_then, spans_expected, follows_token, follows_any, err_memory}
use Rattle.ar_grammar.proofs.MemberParts.{separated_made, pushed_both, separated_follow, semicolon_attribute, listed_parts}
use Rattle.ar_grammar.proofs.members.events.Goals as goal
use Rattle.expression_grammar.proofs.Standing.{halts_err, refuses_fails, refuses_then, refuses_map, passes, passes_expected, begins_then, begins_token, begins_no_more, turns_each, turns_then, turns_token, halts_memory}
use Rattle.expression_grammar.proofs.ExpressionForms.{then_map, then_unassoc}
use Rattle.ar_grammar.proofs.MemberParts.{turns_event, begins_list_end}
use Rattle.ar_grammar.specs.Parts.{event_tokens}
use Rattle.ar_lexer.specs.declared.token.TokenKind.TheVariants.{Name}
use Rattle.ar_grammar.proofs.Standing.{begins_maybe}

pub returns-in_err-expect-clause-only : goal.returns-in_err-expect-clause-only
returns-in_err-expect-clause-only c =
    finds_given (finds_fails (c.in_err-expect.ensures.only _) c.from_residual.ensures.1 follows_any)
    (λ n next ts h s k. (listed_parts h, s))

pub returns-in_err-first-clause-only : goal.returns-in_err-first-clause-only
returns-in_err-first-clause-only c =
    finds_given (finds_then (c.in_ok-expect.ensures.only _)
    (finds_fails c.in_err-first.ensures.only c.from_residual-in_err-first.ensures.1
    (separated_follow (Sign COMMA) (Sign SEMICOLON) event_tokens ends_attribute ends_semicolon refl semicolon_attribute
    refl)) follows_any) (λ n next ts h s k. (listed_parts h, s))

pub returns-in_err-put-clause-only : goal.returns-in_err-put-clause-only
returns-in_err-put-clause-only c = let f = finds_then (c.in_ok-expect.ensures.only c.args.left) c.in_ok-first.ensures.only follows_any in finds_memory f.front f.passed (err_memory _ _ c.from_residual-in_err-put.ensures.1 c.in_err-put.ensures.err)

pub returns-in_err-more_events-clause-only : goal.returns-in_err-more_events-clause-only
returns-in_err-more_events-clause-only c =
    finds_given (finds_then (c.in_ok-expect.ensures.only _)
    (finds_then c.in_ok-first.ensures.only
    (finds_fails c.in_err-more_events.ensures.only c.from_residual-in_err-more_events.ensures.1 (follows_token refl))
    (separated_follow (Sign COMMA) (Sign SEMICOLON) event_tokens ends_attribute ends_semicolon refl semicolon_attribute
    refl)) follows_any) (λ n next ts h s k. (listed_parts h, s))

pub returns-in_err-expect-2-clause-only : goal.returns-in_err-expect-2-clause-only
returns-in_err-expect-2-clause-only c =
    finds_given (finds_then (c.in_ok-expect.ensures.only _)
    (finds_then c.in_ok-first.ensures.only
    (finds_then c.in_ok-more_events.ensures.only
    (finds_err (c.in_err-expect-2.ensures.only _) c.from_residual-in_err-expect-2.ensures.1) (follows_token refl))
    (separated_follow (Sign COMMA) (Sign SEMICOLON) event_tokens ends_attribute ends_semicolon refl semicolon_attribute
    refl)) follows_any) (λ n next ts h s k. (listed_parts h, s))

pub returns-clause-found : goal.returns-clause-found
returns-clause-found c = let m = c.in_ok-more_events.ensures.found in (c.in_ok-first.first ∷ m.0, pushed_both c.args.members.now.items m.0 c.in_ok-first.first c.in_ok-put.ensures.items m.1, spans_then (spans_expected c.in_ok-expect.ensures.found) (spans_then (separated_made (Sign COMMA) (ReadsEvent c.args.left) c.in_ok-first.first m.0 (c.in_ok-first.first ∷ m.0) refl c.in_ok-first.ensures.found m.2) (spans_expected c.in_ok-expect-2.ensures.found)))

pub returns-clause-only : goal.returns-clause-only
returns-clause-only c = finds_given
    (finds_then (c.in_ok-expect.ensures.only _)
    (finds_then c.in_ok-first.ensures.only
    (finds_then c.in_ok-more_events.ensures.only (finds_ok _ (c.in_ok-expect-2.ensures.only _)) (follows_token refl))
    (separated_follow (Sign COMMA) (Sign SEMICOLON) event_tokens ends_attribute ends_semicolon refl semicolon_attribute
    refl)) follows_any) (λ n next ts h s k. (listed_parts h, s))

pub returns-in_err-expect-clause-stuck : goal.returns-in_err-expect-clause-stuck
returns-in_err-expect-clause-stuck c =
    halts_err _ _ c.from_residual.ensures.1
    (refuses_fails (c.in_err-expect.ensures.stuck _)
    (λ m. begins_then (begins_then (begins_then (begins_token Name) begins_maybe) begins_no_more)
    (begins_token (Sign SEMICOLON))))

pub returns-in_err-first-clause-stuck : goal.returns-in_err-first-clause-stuck
returns-in_err-first-clause-stuck c =
    halts_err _ _ c.from_residual-in_err-first.ensures.1
    (refuses_map (refuses_then (passes_expected c.in_ok-expect.ensures.found)
    (refuses_fails c.in_err-first.ensures.stuck (λ m. begins_list_end)))
    (λ m next ts h. then_map h (λ next ts j. j) (λ next ts j. then_unassoc j)))

pub returns-in_err-more_events-clause-stuck : goal.returns-in_err-more_events-clause-stuck
returns-in_err-more_events-clause-stuck c =
    halts_err _ _ c.from_residual-in_err-more_events.ensures.1
    (refuses_map (refuses_then (passes_expected c.in_ok-expect.ensures.found)
    (refuses_then (passes c.in_ok-first.ensures.found (λ m l. turns_event _ m l c.in_ok-first.first))
    (refuses_fails c.in_err-more_events.ensures.stuck (λ m. begins_token (Sign SEMICOLON)))))
    (λ m next ts h. then_map h (λ next ts j. j) (λ next ts j. then_unassoc j)))

pub returns-in_err-expect-2-clause-stuck : goal.returns-in_err-expect-2-clause-stuck
returns-in_err-expect-2-clause-stuck c = let g = c.in_ok-more_events.ensures.found in halts_err _ _ c.from_residual-in_err-expect-2.ensures.1 (refuses_map (refuses_then (passes_expected c.in_ok-expect.ensures.found) (refuses_then (passes c.in_ok-first.ensures.found (λ m l. turns_event _ m l c.in_ok-first.first)) (refuses_then (passes g.2 (λ m l. turns_each (λ x. turns_then turns_token (turns_event _ m l x)) g.0)) (c.in_err-expect-2.ensures.stuck _)))) (λ m next ts h. then_map h (λ next ts j. j) (λ next ts j. then_unassoc j)))

pub returns-in_err-put-clause-stuck : goal.returns-in_err-put-clause-stuck
returns-in_err-put-clause-stuck c =
    halts_memory _ _ _ _ _ (err_memory _ _ c.from_residual-in_err-put.ensures.1 c.in_err-put.ensures.err)

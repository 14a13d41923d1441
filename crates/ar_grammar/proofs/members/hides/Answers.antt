use Rattle.std.proofs.Common.{◌∷◌, refl}
use Rattle.ar_lexer.specs.declared.token.TokenKind.TheVariants.{Sign}
use Rattle.ar_lexer.specs.declared.signs.TheConstants.{COMMA, SEMICOLON}
use Rattle.ar_grammar.specs.Members.{ReadsHidden}
use Rattle.expression_grammar.specs.Results.{ends_path}
use Rattle.ar_grammar.specs.Results.{ends_semicolon}
use Rattle.expression_grammar.proofs.Finding.{finds_then, finds_fails, finds_given, finds_err, finds_ok, finds_memory, spans_then, spans_expected, follows_token, follows_any, err_memory}
use Rattle.ar_grammar.proofs.MemberParts.{separated_made, pushed_both, separated_follow, semicolon_path, listed_parts}
use Rattle.ar_grammar.proofs.members.hides.Goals as goal
use Rattle.expression_grammar.proofs.Standing.{halts_err, halts_memory, refuses_fails, refuses_then, refuses_map, passes, passes_expected, begins_then, begins_token, begins_no_more, turns_each, turns_then, turns_token}
use Rattle.expression_grammar.proofs.ExpressionForms.{then_map, then_unassoc}
use Rattle.ar_grammar.proofs.MemberParts.{turns_hidden, begins_list_end}
use Rattle.expression_grammar.specs.Texts.{path_tokens}
use Rattle.ar_grammar.proofs.InstrTexts.{some_path}

pub returns-in_err-expect-clause-only : goal.returns-in_err-expect-clause-only
returns-in_err-expect-clause-only c =
    λ left. finds_given (finds_fails (c.in_err-expect.ensures.only _) c.from_residual.ensures.1 follows_any)
    (λ n next ts h s k. (listed_parts h, s))

pub returns-in_err-first-clause-only : goal.returns-in_err-first-clause-only
returns-in_err-first-clause-only c =
    λ left. finds_given (finds_then (c.in_ok-expect.ensures.only left)
    (finds_fails (c.in_err-first.ensures.only left) c.from_residual-in_err-first.ensures.1
    (separated_follow (Sign COMMA) (Sign SEMICOLON) (λ n. path_tokens) ends_path ends_semicolon refl semicolon_path
    refl))
    follows_any) (λ n next ts h s k. (listed_parts h, s))

pub returns-in_err-put-clause-only : goal.returns-in_err-put-clause-only
returns-in_err-put-clause-only c = λ left. let f = finds_then (c.in_ok-expect.ensures.only left) (c.in_ok-first.ensures.only left) follows_any in finds_memory f.front f.passed (err_memory _ _ c.from_residual-in_err-put.ensures.1 c.in_err-put.ensures.err)

pub returns-in_err-more_hidden-clause-only : goal.returns-in_err-more_hidden-clause-only
returns-in_err-more_hidden-clause-only c =
    λ left. finds_given (finds_then (c.in_ok-expect.ensures.only left)
    (finds_then (c.in_ok-first.ensures.only left)
    (finds_fails (c.in_err-more_hidden.ensures.only left) c.from_residual-in_err-more_hidden.ensures.1
    (follows_token refl))
    (separated_follow (Sign COMMA) (Sign SEMICOLON) (λ n. path_tokens) ends_path ends_semicolon refl
    semicolon_path refl)) follows_any) (λ n next ts h s k. (listed_parts h, s))

pub returns-in_err-expect-2-clause-only : goal.returns-in_err-expect-2-clause-only
returns-in_err-expect-2-clause-only c =
    λ left. finds_given (finds_then (c.in_ok-expect.ensures.only left)
    (finds_then (c.in_ok-first.ensures.only left)
    (finds_then (c.in_ok-more_hidden.ensures.only left)
    (finds_err (c.in_err-expect-2.ensures.only _) c.from_residual-in_err-expect-2.ensures.1) (follows_token refl))
    (separated_follow (Sign COMMA) (Sign SEMICOLON) (λ n. path_tokens) ends_path ends_semicolon refl semicolon_path
    refl))
    follows_any) (λ n next ts h s k. (listed_parts h, s))

pub returns-clause-found : goal.returns-clause-found
returns-clause-found c = let m = c.in_ok-more_hidden.ensures.found in (c.in_ok-first.first ∷ m.0, pushed_both c.args.members.now.items m.0 c.in_ok-first.first c.in_ok-put.ensures.items m.1, spans_then (spans_expected c.in_ok-expect.ensures.found) (spans_then (separated_made (Sign COMMA) ReadsHidden c.in_ok-first.first m.0 (c.in_ok-first.first ∷ m.0) refl c.in_ok-first.ensures.found m.2) (spans_expected c.in_ok-expect-2.ensures.found)))

pub returns-clause-only : goal.returns-clause-only
returns-clause-only c = λ left. finds_given
    (finds_then (c.in_ok-expect.ensures.only left)
    (finds_then (c.in_ok-first.ensures.only left)
    (finds_then (c.in_ok-more_hidden.ensures.only left) (finds_ok _ (c.in_ok-expect-2.ensures.only _))
    (follows_token refl))
    (separated_follow (Sign COMMA) (Sign SEMICOLON) (λ n. path_tokens) ends_path ends_semicolon refl
    semicolon_path refl)) follows_any) (λ n next ts h s k. (listed_parts h, s))

pub returns-in_err-expect-clause-stuck : goal.returns-in_err-expect-clause-stuck
returns-in_err-expect-clause-stuck c =
    λ left. halts_err _ _ c.from_residual.ensures.1
    (refuses_fails (c.in_err-expect.ensures.stuck _)
    (λ m. begins_then (begins_then some_path begins_no_more) (begins_token (Sign SEMICOLON))))

pub returns-in_err-first-clause-stuck : goal.returns-in_err-first-clause-stuck
returns-in_err-first-clause-stuck c =
    λ left. halts_err _ _ c.from_residual-in_err-first.ensures.1
    (refuses_map (refuses_then (passes_expected c.in_ok-expect.ensures.found)
    (refuses_fails (c.in_err-first.ensures.stuck left) (λ m. begins_list_end)))
    (λ m next ts h. then_map h (λ next ts j. j) (λ next ts j. then_unassoc j)))

pub returns-in_err-more_hidden-clause-stuck : goal.returns-in_err-more_hidden-clause-stuck
returns-in_err-more_hidden-clause-stuck c =
    λ left. halts_err _ _ c.from_residual-in_err-more_hidden.ensures.1
    (refuses_map (refuses_then (passes_expected c.in_ok-expect.ensures.found)
    (refuses_then (passes c.in_ok-first.ensures.found (λ m l. turns_hidden c.in_ok-first.first))
    (refuses_fails (c.in_err-more_hidden.ensures.stuck left) (λ m. begins_token (Sign SEMICOLON)))))
    (λ m next ts h. then_map h (λ next ts j. j) (λ next ts j. then_unassoc j)))

pub returns-in_err-expect-2-clause-stuck : goal.returns-in_err-expect-2-clause-stuck
returns-in_err-expect-2-clause-stuck c = λ left. let g = c.in_ok-more_hidden.ensures.found in halts_err _ _ c.from_residual-in_err-expect-2.ensures.1 (refuses_map (refuses_then (passes_expected c.in_ok-expect.ensures.found) (refuses_then (passes c.in_ok-first.ensures.found (λ m l. turns_hidden c.in_ok-first.first)) (refuses_then (passes g.2 (λ m l. turns_each (λ x. turns_then turns_token (turns_hidden x)) g.0)) (c.in_err-expect-2.ensures.stuck _)))) (λ m next ts h. then_map h (λ next ts j. j) (λ next ts j. then_unassoc j)))

pub returns-in_err-put-clause-stuck : goal.returns-in_err-put-clause-stuck
returns-in_err-put-clause-stuck c = λ left. halts_memory _ _ _ _ _ (err_memory _ _ c.from_residual-in_err-put.ensures.1 c.in_err-put.ensures.err)

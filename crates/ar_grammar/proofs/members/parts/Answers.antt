use Rattle.std.proofs.Common.{refl}
use Rattle.ar_lexer.specs.declared.token.TokenKind.TheVariants.{Sign}
use Rattle.ar_lexer.specs.declared.signs.TheConstants.{SEMICOLON, AMPERSAND}
use Rattle.ar_grammar.specs.Parts.{part_tokens}
use Rattle.ar_grammar.specs.Members.{ReadsPart}
use Rattle.expression_grammar.specs.Results.{ends_path}
use Rattle.ar_grammar.specs.Results.{ends_semicolon}
use Rattle.expression_grammar.proofs.Finding.{finds_then, finds_fails, finds_given, finds_err, finds_ok, spans_then, spans_expected, follows_token, err_memory, finds_memory}
use Rattle.expression_grammar.proofs.PathForms.{pushed_more}
use Rattle.ar_grammar.proofs.MemberParts.{separated_made, separated_follow, semicolon_path}
use Rattle.expression_grammar.proofs.ExpressionForms.{then_assoc, then_unassoc}
use Rattle.ar_grammar.proofs.members.parts.Goals as goal
use Rattle.expression_grammar.proofs.Standing.{halts_err, halts_memory, refuses_fails, refuses_then, refuses_map, passes, begins_token, turns_each, turns_then, turns_token}
use Rattle.ar_grammar.proofs.MemberParts.{turns_part, begins_list_end}

pub returns-in_err-first-clause-only : goal.returns-in_err-first-clause-only
returns-in_err-first-clause-only c =
    λ left. finds_given (finds_fails (c.in_err-first.ensures.only left) c.from_residual.ensures.1
    (separated_follow (Sign AMPERSAND) (Sign SEMICOLON) (λ n. part_tokens) ends_path ends_semicolon refl semicolon_path
    refl)) (λ n next ts h s k. (then_assoc h, s))

pub returns-in_err-more_parts-clause-only : goal.returns-in_err-more_parts-clause-only
returns-in_err-more_parts-clause-only c =
    λ left. finds_given (finds_then (c.in_ok-first.ensures.only left)
    (finds_fails (c.in_err-more_parts.ensures.only left) c.from_residual-in_err-more_parts.ensures.1
    (follows_token refl))
    (separated_follow (Sign AMPERSAND) (Sign SEMICOLON) (λ n. part_tokens) ends_path ends_semicolon
    refl semicolon_path refl)) (λ n next ts h s k. (then_assoc h, s))

pub returns-in_err-expect-clause-only : goal.returns-in_err-expect-clause-only
returns-in_err-expect-clause-only c =
    λ left. finds_given (finds_then (c.in_ok-first.ensures.only left)
    (finds_then (c.in_ok-more_parts.ensures.only left)
    (finds_err (c.in_err-expect.ensures.only left) c.from_residual-in_err-expect.ensures.1) (follows_token refl))
    (separated_follow (Sign AMPERSAND) (Sign SEMICOLON) (λ n. part_tokens) ends_path ends_semicolon refl semicolon_path
    refl)) (λ n next ts h s k. (then_assoc h, s))

pub returns-clause-found : goal.returns-clause-found
returns-clause-found c = let m = c.in_ok-more_parts.ensures.found in spans_then (separated_made (Sign AMPERSAND) ReadsPart c.in_ok-first.first m.0 _ (pushed_more c.in_ok-parts.ensures.items m.1) c.in_ok-first.ensures.found m.2) (spans_expected c.in_ok-expect.ensures.found)

pub returns-clause-only : goal.returns-clause-only
returns-clause-only c = λ left. finds_given
    (finds_then (c.in_ok-first.ensures.only left)
    (finds_then (c.in_ok-more_parts.ensures.only left) (finds_ok _ (c.in_ok-expect.ensures.only left))
    (follows_token refl))
    (separated_follow (Sign AMPERSAND) (Sign SEMICOLON) (λ n. part_tokens) ends_path ends_semicolon
    refl semicolon_path refl)) (λ n next ts h s k. (then_assoc h, s))

pub returns-in_err-first-clause-stuck : goal.returns-in_err-first-clause-stuck
returns-in_err-first-clause-stuck c =
    λ left. halts_err _ _ c.from_residual.ensures.1
    (refuses_map (refuses_fails (c.in_err-first.ensures.stuck left) (λ m. begins_list_end))
    (λ m next ts h. then_unassoc h))

pub returns-in_err-parts-clause-stuck : goal.returns-in_err-parts-clause-stuck
returns-in_err-parts-clause-stuck c = λ left. halts_memory _ _ _ _ _ (err_memory _ _ c.from_residual-in_err-parts.ensures.1 c.in_err-parts.ensures.err)

pub returns-in_err-more_parts-clause-stuck : goal.returns-in_err-more_parts-clause-stuck
returns-in_err-more_parts-clause-stuck c =
    λ left. halts_err _ _ c.from_residual-in_err-more_parts.ensures.1
    (refuses_map (refuses_then (passes c.in_ok-first.ensures.found (λ m l. turns_part c.in_ok-first.first))
    (refuses_fails (c.in_err-more_parts.ensures.stuck left) (λ m. begins_token (Sign SEMICOLON))))
    (λ m next ts h. then_unassoc h))

pub returns-in_err-expect-clause-stuck : goal.returns-in_err-expect-clause-stuck
returns-in_err-expect-clause-stuck c = λ left. let g = c.in_ok-more_parts.ensures.found in halts_err _ _ c.from_residual-in_err-expect.ensures.1 (refuses_map (refuses_then (passes c.in_ok-first.ensures.found (λ m l. turns_part c.in_ok-first.first)) (refuses_then (passes g.2 (λ m l. turns_each (λ x. turns_then turns_token (turns_part x)) g.0)) (c.in_err-expect.ensures.stuck left))) (λ m next ts h. then_unassoc h))

pub returns-in_err-parts-clause-only : goal.returns-in_err-parts-clause-only
returns-in_err-parts-clause-only c = λ left.
    let f = c.in_ok-first.ensures.only left in
    finds_memory f.front f.passed
    (err_memory _ _ c.from_residual-in_err-parts.ensures.1 c.in_err-parts.ensures.err)

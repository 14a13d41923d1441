use Rattle.std.proofs.Common.{List, [], refl, sym, ◌∙◌, subst}
use Rattle.ar_lexer.specs.declared.token.TokenKind.TheVariants.{Sign}
use Rattle.ar_lexer.specs.declared.signs.TheConstants.{CLOSE_PARENTHESIS, COMMA}
use Rattle.expression_grammar.specs.Words.{deep}
use Rattle.expression_grammar.specs.Texts.{expr_tokens}
use Rattle.ar_grammar.specs.Texts.{setting_tokens}
use Rattle.std.proofs.Common.{inr}
use Rattle.ar_grammar.specs.Members.{ReadsSettings}
use Rattle.expression_grammar.specs.Results.{first_token_kind, ends_expr, ends_list}
use Rattle.expression_grammar.proofs.Finding.{finds_then, finds_fails, finds_given, finds_err, finds_ok, finds_memory, finds_nothing, spans_expected, follows_token, follows_any, err_memory}
use Rattle.expression_grammar.proofs.PathForms.{pushed_more}
use Rattle.ar_grammar.proofs.MemberParts.{separated_follow, list_end, settings_none, settings_parts, settings_made, turns_setting, some_setting}
use Rattle.ar_grammar.proofs.members.settings.Goals as goal
use Rattle.expression_grammar.proofs.Standing.{halts_err, refuses_fails, refuses_then, refuses_map, passes, passes_expected, begins_then, begins_token, begins_no_more, turns_each, turns_then, turns_token, halts_memory}
use Rattle.expression_grammar.proofs.ExpressionForms.{then_unassoc}

pub returns-then-not-is_at-clause-only : goal.returns-then-not-is_at-clause-only
returns-then-not-is_at-clause-only c =
    finds_given (finds_nothing _) (λ n next ts h s k.
    (settings_none n next ts h (λ e. c.if-not-is_at.ensures.no (sym k ∙ e)), s))

pub returns-then-not-is_at-clause-found : goal.returns-then-not-is_at-clause-found
returns-then-not-is_at-clause-found c =
    record {
      front = [];
      split = refl;
      form = subst (λ (xs : List _). ReadsSettings c.args.left xs (first_token_kind c.args.parser.now.rest.now) [])
          (sym c.new.ensures.items) refl;
    }

pub returns-in_err-expect-clause-only : goal.returns-in_err-expect-clause-only
returns-in_err-expect-clause-only c =
    finds_given (finds_fails (c.in_err-expect.ensures.only _) c.from_residual.ensures.1 follows_any)
    (λ n next ts h s k. (settings_parts n next ts h s (k ∙ c.if-not-is_at.ensures.yes), refl))

pub returns-in_err-first-clause-only : goal.returns-in_err-first-clause-only
returns-in_err-first-clause-only c =
    finds_given (finds_then (c.in_ok-expect.ensures.only _)
    (finds_fails c.in_err-first.ensures.only c.from_residual-in_err-first.ensures.1
    (separated_follow (Sign COMMA) (Sign CLOSE_PARENTHESIS) (λ n. setting_tokens (expr_tokens deep n)) ends_expr
    ends_list
    refl list_end refl)) follows_any) (λ n next ts h s k.
    (settings_parts n next ts h s (k ∙ c.if-not-is_at.ensures.yes), refl))

pub returns-in_err-settings-clause-only : goal.returns-in_err-settings-clause-only
returns-in_err-settings-clause-only c = let f = finds_then (c.in_ok-expect.ensures.only c.args.left) c.in_ok-first.ensures.only follows_any in finds_memory f.front f.passed (err_memory _ _ c.from_residual-in_err-settings.ensures.1 c.in_err-settings.ensures.err)

pub returns-in_err-more_settings-clause-only : goal.returns-in_err-more_settings-clause-only
returns-in_err-more_settings-clause-only c =
    finds_given (finds_then (c.in_ok-expect.ensures.only _)
    (finds_then c.in_ok-first.ensures.only
    (finds_fails c.in_err-more_settings.ensures.only c.from_residual-in_err-more_settings.ensures.1
    (follows_token refl))
    (separated_follow (Sign COMMA) (Sign CLOSE_PARENTHESIS) (λ n. setting_tokens (expr_tokens deep n))
    ends_expr ends_list refl list_end refl)) follows_any)
    (λ n next ts h s k. (settings_parts n next ts h s (k ∙ c.if-not-is_at.ensures.yes), refl))

pub returns-in_err-expect-2-clause-only : goal.returns-in_err-expect-2-clause-only
returns-in_err-expect-2-clause-only c =
    finds_given (finds_then (c.in_ok-expect.ensures.only _)
    (finds_then c.in_ok-first.ensures.only
    (finds_then c.in_ok-more_settings.ensures.only
    (finds_err (c.in_err-expect-2.ensures.only _) c.from_residual-in_err-expect-2.ensures.1) (follows_token refl))
    (separated_follow (Sign COMMA) (Sign CLOSE_PARENTHESIS) (λ n. setting_tokens (expr_tokens deep n)) ends_expr
    ends_list
    refl list_end refl)) follows_any) (λ n next ts h s k.
    (settings_parts n next ts h s (k ∙ c.if-not-is_at.ensures.yes), refl))

pub returns-clause-found : goal.returns-clause-found
returns-clause-found c = let m = c.in_ok-more_settings.ensures.found in settings_made _ c.in_ok-first.first m.0 _ (pushed_more c.in_ok-settings.ensures.items m.1) (spans_expected c.in_ok-expect.ensures.found) c.in_ok-first.ensures.found m.2 (spans_expected c.in_ok-expect-2.ensures.found)

pub returns-clause-only : goal.returns-clause-only
returns-clause-only c = finds_given
    (finds_then (c.in_ok-expect.ensures.only _)
    (finds_then c.in_ok-first.ensures.only
    (finds_then c.in_ok-more_settings.ensures.only (finds_ok _ (c.in_ok-expect-2.ensures.only _)) (follows_token refl))
    (separated_follow (Sign COMMA) (Sign CLOSE_PARENTHESIS) (λ n. setting_tokens (expr_tokens deep n)) ends_expr
    ends_list
    refl list_end refl)) follows_any) (λ n next ts h s k.
    (settings_parts n next ts h s (k ∙ c.if-not-is_at.ensures.yes), refl))

pub returns-in_err-expect-clause-stuck : goal.returns-in_err-expect-clause-stuck
returns-in_err-expect-clause-stuck c =
    halts_err _ _ c.from_residual.ensures.1
    (refuses_map (refuses_fails (c.in_err-expect.ensures.stuck _)
    (λ m. begins_then (begins_then (some_setting m) begins_no_more) (begins_token (Sign CLOSE_PARENTHESIS))))
    (λ m next ts h. inr h))

pub returns-in_err-first-clause-stuck : goal.returns-in_err-first-clause-stuck
returns-in_err-first-clause-stuck c =
    halts_err _ _ c.from_residual-in_err-first.ensures.1
    (refuses_map (refuses_then (passes_expected c.in_ok-expect.ensures.found)
    (refuses_map (refuses_fails c.in_err-first.ensures.stuck
    (λ m. begins_then begins_no_more (begins_token (Sign CLOSE_PARENTHESIS)))) (λ m next ts h. then_unassoc h)))
    (λ m next ts h. inr h))

pub returns-in_err-more_settings-clause-stuck : goal.returns-in_err-more_settings-clause-stuck
returns-in_err-more_settings-clause-stuck c =
    halts_err _ _ c.from_residual-in_err-more_settings.ensures.1
    (refuses_map (refuses_then (passes_expected c.in_ok-expect.ensures.found)
    (refuses_map (refuses_then (passes c.in_ok-first.ensures.found (λ m l. turns_setting _ m l c.in_ok-first.first))
    (refuses_fails c.in_err-more_settings.ensures.stuck (λ m. begins_token (Sign CLOSE_PARENTHESIS))))
    (λ m next ts h. then_unassoc h))) (λ m next ts h. inr h))

pub returns-in_err-expect-2-clause-stuck : goal.returns-in_err-expect-2-clause-stuck
returns-in_err-expect-2-clause-stuck c = let g = c.in_ok-more_settings.ensures.found in halts_err _ _ c.from_residual-in_err-expect-2.ensures.1 (refuses_map (refuses_then (passes_expected c.in_ok-expect.ensures.found) (refuses_map (refuses_then (passes c.in_ok-first.ensures.found (λ m l. turns_setting _ m l c.in_ok-first.first)) (refuses_then (passes g.2 (λ m l. turns_each (λ x. turns_then turns_token (turns_setting _ m l x)) g.0)) (c.in_err-expect-2.ensures.stuck _))) (λ m next ts h. then_unassoc h))) (λ m next ts h. inr h))

pub returns-in_err-settings-clause-stuck : goal.returns-in_err-settings-clause-stuck
returns-in_err-settings-clause-stuck c =
    halts_memory _ _ _ _ _ (err_memory _ _ c.from_residual-in_err-settings.ensures.1 c.in_err-settings.ensures.err)

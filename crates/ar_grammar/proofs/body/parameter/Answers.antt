use Rattle.std.proofs.Common.{refl, sym, ◌∙◌}
use Rattle.ar_grammar.specs.Members.{kept_value, parameter}
use Rattle.expression_grammar.proofs.Finding.{finds_then, finds_fails, finds_given, finds_err, finds_ok, spans_then, spans_expected, spans_map, follows_token, follows_any}
use Rattle.ar_grammar.proofs.BodyParts.{parameter_real, parameter_typed}
use Rattle.ar_grammar.proofs.body.parameter.Goals as goal
use Rattle.expression_grammar.proofs.Standing.{halts_err, refuses_fails, refuses_then, refuses_map, passes, passes_expected, begins_then, begins_token, begins_map}
use Rattle.ar_grammar.proofs.BodyTexts.{some_value}
use Rattle.std.proofs.Common.{inl, inr}
use Rattle.ar_grammar.proofs.NameForms.{turns_placed}
use Rattle.ar_grammar.proofs.UnreadParts.{turns_kept, some_kept}
use Rattle.ar_lexer.specs.declared.token.TokenKind.TheVariants.{Name, Sign}
use Rattle.ar_lexer.specs.declared.signs.TheConstants.{EQUALS, SEMICOLON}

pub returns-in_err-expect-clause-only : goal.returns-in_err-expect-clause-only
returns-in_err-expect-clause-only c = finds_fails (c.in_err-expect.ensures.only _) c.from_residual.ensures.1 follows_any

pub returns-in_err-expect-2-clause-only : goal.returns-in_err-expect-2-clause-only
returns-in_err-expect-2-clause-only c =
    finds_then (c.in_ok-expect.ensures.only _)
    (finds_given (finds_fails (c.in_err-expect-2.ensures.only _) c.from_residual-in_err-expect-2.ensures.1 follows_any)
    (λ n next ts h s k. (parameter_real n next ts h (k ∙ c.if-is_at.ensures.yes), refl))) follows_any

pub returns-in_err-kept_name-clause-only : goal.returns-in_err-kept_name-clause-only
returns-in_err-kept_name-clause-only c =
    finds_then (c.in_ok-expect.ensures.only _)
    (finds_given (finds_then (c.in_ok-expect-2.ensures.only _)
    (finds_fails (c.in_err-kept_name.ensures.only _) c.from_residual-in_err-kept_name.ensures.1 follows_any) follows_any)
    (λ n next ts h s k. (parameter_real n next ts h (k ∙ c.if-is_at.ensures.yes), refl))) follows_any

pub returns-in_err-expect-3-clause-only : goal.returns-in_err-expect-3-clause-only
returns-in_err-expect-3-clause-only c =
    finds_then (c.in_ok-expect.ensures.only _)
    (finds_given (finds_then (c.in_ok-expect-2.ensures.only _)
    (finds_then (c.in_ok-kept_name.ensures.only _)
    (finds_fails (c.in_err-expect-3.ensures.only _) c.from_residual-in_err-expect-3.ensures.1 follows_any) follows_any)
    follows_any)
    (λ n next ts h s k. (parameter_real n next ts h (k ∙ c.if-is_at.ensures.yes), refl))) follows_any

pub returns-in_err-span-clause-only : goal.returns-in_err-span-clause-only
returns-in_err-span-clause-only c =
    finds_then (c.in_ok-expect.ensures.only _)
    (finds_given (finds_then (c.in_ok-expect-2.ensures.only _)
    (finds_then (c.in_ok-kept_name.ensures.only _)
    (finds_then (c.in_ok-expect-3.ensures.only _)
    (finds_fails c.in_err-span.ensures.only c.from_residual-in_err-span.ensures.1 (follows_token refl)) follows_any)
    follows_any) follows_any)
    (λ n next ts h s k. (parameter_real n next ts h (k ∙ c.if-is_at.ensures.yes), refl))) follows_any

pub returns-in_err-expect-4-clause-only : goal.returns-in_err-expect-4-clause-only
returns-in_err-expect-4-clause-only c =
    finds_then (c.in_ok-expect.ensures.only _)
    (finds_given (finds_then (c.in_ok-expect-2.ensures.only _)
    (finds_then (c.in_ok-kept_name.ensures.only _)
    (finds_then (c.in_ok-expect-3.ensures.only _)
    (finds_then c.in_ok-span.ensures.only
    (finds_err (c.in_err-expect-4.ensures.only _) c.from_residual-in_err-expect-4.ensures.1) (follows_token refl))
    follows_any) follows_any) follows_any)
    (λ n next ts h s k. (parameter_real n next ts h (k ∙ c.if-is_at.ensures.yes), refl))) follows_any

pub returns-then-is_at-clause-found : goal.returns-then-is_at-clause-found
returns-then-is_at-clause-found c =
    spans_map (spans_then (spans_expected c.in_ok-expect.ensures.found)
    (spans_then (spans_expected c.in_ok-expect-2.ensures.found)
    (spans_then c.in_ok-kept_name.ensures.found
    (spans_then (spans_expected c.in_ok-expect-3.ensures.found)
    (spans_then c.in_ok-span.ensures.found (spans_expected c.in_ok-expect-4.ensures.found))))))
    (λ next ts h. kept_value _ _ _ refl h)

pub returns-then-is_at-clause-only : goal.returns-then-is_at-clause-only
returns-then-is_at-clause-only c = finds_then (c.in_ok-expect.ensures.only _)
    (finds_given (finds_then (c.in_ok-expect-2.ensures.only _)
    (finds_then (c.in_ok-kept_name.ensures.only _)
    (finds_then (c.in_ok-expect-3.ensures.only _)
    (finds_then c.in_ok-span.ensures.only (finds_ok _ (c.in_ok-expect-4.ensures.only _)) (follows_token refl))
    follows_any) follows_any) follows_any)
    (λ n next ts h s k. (parameter_real n next ts h (k ∙ c.if-is_at.ensures.yes), refl))) follows_any

pub returns-in_err-of_type-clause-only : goal.returns-in_err-of_type-clause-only
returns-in_err-of_type-clause-only c =
    finds_then (c.in_ok-expect.ensures.only _)
    (finds_given (finds_err c.in_err-of_type.ensures.only c.from_residual-in_err-of_type.ensures.1)
    (λ n next ts h s k. (parameter_typed n next ts h (λ e. c.if-is_at.ensures.no (sym k ∙ e)), refl))) follows_any

pub returns-clause-found : goal.returns-clause-found
returns-clause-found c = spans_map (spans_then (spans_expected c.in_ok-expect.ensures.found)
    c.in_ok-of_type.ensures.found) (λ next ts h. parameter _ _ _ _ refl h)

pub returns-clause-only : goal.returns-clause-only
returns-clause-only c = finds_then (c.in_ok-expect.ensures.only _)
    (finds_given (finds_ok _ c.in_ok-of_type.ensures.only)
    (λ n next ts h s k. (parameter_typed n next ts h (λ e. c.if-is_at.ensures.no (sym k ∙ e)), refl))) follows_any

pub returns-in_err-expect-clause-stuck : goal.returns-in_err-expect-clause-stuck
returns-in_err-expect-clause-stuck c =
    halts_err _ _ c.from_residual.ensures.1
    (refuses_fails (c.in_err-expect.ensures.stuck _) (λ m. begins_map (some_value m) (λ next ts h. inr h)))

pub returns-in_err-expect-2-clause-stuck : goal.returns-in_err-expect-2-clause-stuck
returns-in_err-expect-2-clause-stuck c =
    halts_err _ _ c.from_residual-in_err-expect-2.ensures.1
    (refuses_then (passes_expected c.in_ok-expect.ensures.found)
    (refuses_map (refuses_fails (c.in_err-expect-2.ensures.stuck _)
    (λ m. begins_then (begins_token Name)
    (begins_then (begins_token (Sign EQUALS)) (begins_then (some_kept m) (begins_token (Sign SEMICOLON)))))) (λ m next ts h. inl h)))

pub returns-in_err-kept_name-clause-stuck : goal.returns-in_err-kept_name-clause-stuck
returns-in_err-kept_name-clause-stuck c =
    halts_err _ _ c.from_residual-in_err-kept_name.ensures.1
    (refuses_then (passes_expected c.in_ok-expect.ensures.found)
    (refuses_map (refuses_then (passes_expected c.in_ok-expect-2.ensures.found)
    (refuses_fails (c.in_err-kept_name.ensures.stuck _)
    (λ m. begins_then (begins_token (Sign EQUALS)) (begins_then (some_kept m) (begins_token (Sign SEMICOLON)))))) (λ m next ts h. inl h)))

pub returns-in_err-expect-3-clause-stuck : goal.returns-in_err-expect-3-clause-stuck
returns-in_err-expect-3-clause-stuck c =
    halts_err _ _ c.from_residual-in_err-expect-3.ensures.1
    (refuses_then (passes_expected c.in_ok-expect.ensures.found)
    (refuses_map (refuses_then (passes_expected c.in_ok-expect-2.ensures.found)
    (refuses_then (passes c.in_ok-kept_name.ensures.found (λ m l. turns_placed _))
    (refuses_fails (c.in_err-expect-3.ensures.stuck _)
    (λ m. begins_then (some_kept m) (begins_token (Sign SEMICOLON)))))) (λ m next ts h. inl h)))

pub returns-in_err-span-clause-stuck : goal.returns-in_err-span-clause-stuck
returns-in_err-span-clause-stuck c =
    halts_err _ _ c.from_residual-in_err-span.ensures.1
    (refuses_then (passes_expected c.in_ok-expect.ensures.found)
    (refuses_map (refuses_then (passes_expected c.in_ok-expect-2.ensures.found)
    (refuses_then (passes c.in_ok-kept_name.ensures.found (λ m l. turns_placed _))
    (refuses_then (passes_expected c.in_ok-expect-3.ensures.found)
    (refuses_fails c.in_err-span.ensures.stuck (λ m. begins_token (Sign SEMICOLON)))))) (λ m next ts h. inl h)))

pub returns-in_err-expect-4-clause-stuck : goal.returns-in_err-expect-4-clause-stuck
returns-in_err-expect-4-clause-stuck c =
    halts_err _ _ c.from_residual-in_err-expect-4.ensures.1
    (refuses_then (passes_expected c.in_ok-expect.ensures.found)
    (refuses_map (refuses_then (passes_expected c.in_ok-expect-2.ensures.found)
    (refuses_then (passes c.in_ok-kept_name.ensures.found (λ m l. turns_placed _))
    (refuses_then (passes_expected c.in_ok-expect-3.ensures.found)
    (refuses_then (passes c.in_ok-span.ensures.found (λ m l next next' ts h. turns_kept _ m l next next' ts h.form))
    (c.in_err-expect-4.ensures.stuck _))))) (λ m next ts h. inl h)))

pub returns-in_err-of_type-clause-stuck : goal.returns-in_err-of_type-clause-stuck
returns-in_err-of_type-clause-stuck c =
    halts_err _ _ c.from_residual-in_err-of_type.ensures.1
    (refuses_then (passes_expected c.in_ok-expect.ensures.found)
    (refuses_map c.in_err-of_type.ensures.stuck (λ m next ts h. inr h)))

use Rattle.std.proofs.Common.{refl, sym, ap, ◌∙◌}
use Rattle.ar_grammar.specs.Instructions.{assign, tie, skip}
use Rattle.expression_grammar.specs.Results.{first_token_kind}
use Rattle.expression_grammar.proofs.Finding.{finds_then, finds_fails, finds_given, finds_err, finds_ok, finds_token, finds_from, spans_then, spans_token, spans_expected, spans_from, spans_map, eats_kind, follows_token, follows_any}
use Rattle.std.proofs.Common.{inl, inr}
use Rattle.expression_grammar.proofs.Standing.{halts_err, refuses_fails, refuses_then, refuses_map, refuses_from, passes, passes_token, passes_expected, begins_then, begins_token}
use Rattle.expression_grammar.proofs.Turning.{turns_path}
use Rattle.ar_grammar.proofs.InstrTexts.{some_assign, some_path, simple_skip, simple_parts, simple_follows, simple_tie, simple_assign}
use Rattle.ar_lexer.specs.declared.token.TokenKind.TheVariants.{Sign}
use Rattle.ar_lexer.specs.declared.signs.TheConstants.{SEMICOLON}
use Rattle.ar_grammar.proofs.instructions.simple.Goals as goal

pub returns-in_err-expect-clause-only : goal.returns-in_err-expect-clause-only
returns-in_err-expect-clause-only c =
    finds_given (finds_then (finds_token c.if-eat.ensures.taken)
    (finds_err (c.in_err-expect.ensures.only _) c.from_residual.ensures.1) follows_any)
    (λ n next ts h s k. (simple_skip n next ts h (k ∙ eats_kind c.if-eat.ensures.taken), refl))

pub returns-then-eat-clause-found : goal.returns-then-eat-clause-found
returns-then-eat-clause-found c = spans_map
    (spans_then (spans_token c.if-eat.ensures.taken) (spans_expected c.in_ok-expect.ensures.found))
    (λ next ts h. skip refl h)

pub returns-then-eat-clause-only : goal.returns-then-eat-clause-only
returns-then-eat-clause-only c = finds_given
    (finds_then (finds_token c.if-eat.ensures.taken) (finds_ok _ (c.in_ok-expect.ensures.only _)) follows_any)
    (λ n next ts h s k. (simple_skip n next ts h (k ∙ eats_kind c.if-eat.ensures.taken), refl))

pub returns-in_err-path-clause-only : goal.returns-in_err-path-clause-only
returns-in_err-path-clause-only c =
    finds_from (finds_given (finds_fails (c.in_err-path.ensures.only _) c.from_residual-in_err-path.ensures.1
    simple_follows) (λ n next ts h s k. (
      simple_parts n next ts h (λ e. c.if-eat.ensures.other (ap first_token_kind (sym c.if-eat.ensures.left) ∙ sym k ∙ e)),
      refl,
    ))) c.if-eat.ensures.left

pub returns-in_err-expect-2-clause-only : goal.returns-in_err-expect-2-clause-only
returns-in_err-expect-2-clause-only c =
    finds_from (finds_given (finds_then (c.in_ok-path.ensures.only _)
    (finds_given (finds_fails (c.in_err-expect-2.ensures.only _) c.from_residual-in_err-expect-2.ensures.1 follows_any)
    (λ n next ts h s k. (simple_tie n next ts h (k ∙ c.if-is_at.ensures.yes), refl))) simple_follows)
    (λ n next ts h s k. (
      simple_parts n next ts h
          (λ e. c.if-eat.ensures.other (ap first_token_kind (sym c.if-eat.ensures.left) ∙ sym k ∙ e)),
      refl,
    ))) c.if-eat.ensures.left

pub returns-in_err-other-clause-only : goal.returns-in_err-other-clause-only
returns-in_err-other-clause-only c =
    finds_from (finds_given (finds_then (c.in_ok-path.ensures.only _)
    (finds_given (finds_then (c.in_ok-expect-2.ensures.only _)
    (finds_fails (c.in_err-other.ensures.only _) c.from_residual-in_err-other.ensures.1 (follows_token refl)) follows_any)
    (λ n next ts h s k. (simple_tie n next ts h (k ∙ c.if-is_at.ensures.yes), refl))) simple_follows)
    (λ n next ts h s k. (
      simple_parts n next ts h
          (λ e. c.if-eat.ensures.other (ap first_token_kind (sym c.if-eat.ensures.left) ∙ sym k ∙ e)),
      refl,
    ))) c.if-eat.ensures.left

pub returns-in_err-expect-3-clause-only : goal.returns-in_err-expect-3-clause-only
returns-in_err-expect-3-clause-only c =
    finds_from (finds_given (finds_then (c.in_ok-path.ensures.only _)
    (finds_given (finds_then (c.in_ok-expect-2.ensures.only _)
    (finds_then (c.in_ok-other.ensures.only _)
    (finds_err (c.in_err-expect-3.ensures.only _) c.from_residual-in_err-expect-3.ensures.1) (follows_token refl))
    follows_any)
    (λ n next ts h s k. (simple_tie n next ts h (k ∙ c.if-is_at.ensures.yes), refl))) simple_follows)
    (λ n next ts h s k. (
      simple_parts n next ts h
          (λ e. c.if-eat.ensures.other (ap first_token_kind (sym c.if-eat.ensures.left) ∙ sym k ∙ e)),
      refl,
    ))) c.if-eat.ensures.left

pub returns-then-is_at-clause-found : goal.returns-then-is_at-clause-found
returns-then-is_at-clause-found c =
    spans_from (spans_map (spans_then c.in_ok-path.ensures.found
    (spans_then (spans_expected c.in_ok-expect-2.ensures.found)
    (spans_then c.in_ok-other.ensures.found (spans_expected c.in_ok-expect-3.ensures.found))))
    (λ next ts h. tie _ _ refl h)) (sym c.if-eat.ensures.left)

pub returns-then-is_at-clause-only : goal.returns-then-is_at-clause-only
returns-then-is_at-clause-only c = finds_from
    (finds_given (finds_then (c.in_ok-path.ensures.only _)
    (finds_given (finds_then (c.in_ok-expect-2.ensures.only _)
    (finds_then (c.in_ok-other.ensures.only _) (finds_ok _ (c.in_ok-expect-3.ensures.only _)) (follows_token refl))
    follows_any)
    (λ n next ts h s k. (simple_tie n next ts h (k ∙ c.if-is_at.ensures.yes), refl))) simple_follows)
    (λ n next ts h s k. (
      simple_parts n next ts h
          (λ e. c.if-eat.ensures.other (ap first_token_kind (sym c.if-eat.ensures.left) ∙ sym k ∙ e)),
      refl,
    ))) c.if-eat.ensures.left

pub returns-in_err-value-clause-only : goal.returns-in_err-value-clause-only
returns-in_err-value-clause-only c =
    finds_from (finds_given (finds_then (c.in_ok-path.ensures.only _)
    (finds_given (finds_err c.in_err-value.ensures.only c.from_residual-in_err-value.ensures.1)
    (λ n next ts h s k. (simple_assign n next ts h (λ e. c.if-is_at.ensures.no (sym k ∙ e)), refl))) simple_follows)
    (λ n next ts h s k. (
      simple_parts n next ts h
          (λ e. c.if-eat.ensures.other (ap first_token_kind (sym c.if-eat.ensures.left) ∙ sym k ∙ e)),
      refl,
    ))) c.if-eat.ensures.left

pub returns-clause-found : goal.returns-clause-found
returns-clause-found c = spans_from
    (spans_map (spans_then c.in_ok-path.ensures.found c.in_ok-value.ensures.found) (λ next ts h. assign _ _ refl h))
    (sym c.if-eat.ensures.left)

pub returns-clause-only : goal.returns-clause-only
returns-clause-only c = finds_from (finds_given
    (finds_then (c.in_ok-path.ensures.only _)
    (finds_given (finds_ok _ c.in_ok-value.ensures.only)
    (λ n next ts h s k. (simple_assign n next ts h (λ e. c.if-is_at.ensures.no (sym k ∙ e)), refl))) simple_follows)
    (λ n next ts h s k. (
      simple_parts n next ts h
          (λ e. c.if-eat.ensures.other (ap first_token_kind (sym c.if-eat.ensures.left) ∙ sym k ∙ e)),
      refl,
    ))) c.if-eat.ensures.left

pub returns-in_err-expect-clause-stuck : goal.returns-in_err-expect-clause-stuck
returns-in_err-expect-clause-stuck c =
    halts_err _ _ c.from_residual.ensures.1
    (refuses_map (refuses_then (passes_token c.if-eat.ensures.taken) (c.in_err-expect.ensures.stuck _))
    (λ m next ts h. inl h))

pub returns-in_err-path-clause-stuck : goal.returns-in_err-path-clause-stuck
returns-in_err-path-clause-stuck c =
    halts_err _ _ c.from_residual-in_err-path.ensures.1
    (refuses_from (refuses_map (refuses_fails (c.in_err-path.ensures.stuck _) some_assign) (λ m next ts h. inr h))
    (sym c.if-eat.ensures.left))

pub returns-in_err-expect-2-clause-stuck : goal.returns-in_err-expect-2-clause-stuck
returns-in_err-expect-2-clause-stuck c =
    halts_err _ _ c.from_residual-in_err-expect-2.ensures.1
    (refuses_from (refuses_map (refuses_then (passes c.in_ok-path.ensures.found (λ m l. turns_path c.in_ok-path.path))
    (refuses_map (refuses_fails (c.in_err-expect-2.ensures.stuck _)
    (λ m. begins_then some_path (begins_token (Sign SEMICOLON)))) (λ m next ts h. inr h))) (λ m next ts h. inr h))
    (sym c.if-eat.ensures.left))

pub returns-in_err-other-clause-stuck : goal.returns-in_err-other-clause-stuck
returns-in_err-other-clause-stuck c =
    halts_err _ _ c.from_residual-in_err-other.ensures.1
    (refuses_from (refuses_map (refuses_then (passes c.in_ok-path.ensures.found (λ m l. turns_path c.in_ok-path.path))
    (refuses_map (refuses_then (passes_expected c.in_ok-expect-2.ensures.found)
    (refuses_fails (c.in_err-other.ensures.stuck _) (λ m. begins_token (Sign SEMICOLON)))) (λ m next ts h. inr h))) (λ m next ts h. inr h))
    (sym c.if-eat.ensures.left))

pub returns-in_err-expect-3-clause-stuck : goal.returns-in_err-expect-3-clause-stuck
returns-in_err-expect-3-clause-stuck c =
    halts_err _ _ c.from_residual-in_err-expect-3.ensures.1
    (refuses_from (refuses_map (refuses_then (passes c.in_ok-path.ensures.found (λ m l. turns_path c.in_ok-path.path))
    (refuses_map (refuses_then (passes_expected c.in_ok-expect-2.ensures.found)
    (refuses_then (passes c.in_ok-other.ensures.found (λ m l. turns_path c.in_ok-other.other))
    (c.in_err-expect-3.ensures.stuck _))) (λ m next ts h. inr h))) (λ m next ts h. inr h))
    (sym c.if-eat.ensures.left))

pub returns-in_err-value-clause-stuck : goal.returns-in_err-value-clause-stuck
returns-in_err-value-clause-stuck c =
    halts_err _ _ c.from_residual-in_err-value.ensures.1
    (refuses_from (refuses_map (refuses_then (passes c.in_ok-path.ensures.found (λ m l. turns_path c.in_ok-path.path))
    (refuses_map c.in_err-value.ensures.stuck (λ m next ts h. inl h))) (λ m next ts h. inr h))
    (sym c.if-eat.ensures.left))

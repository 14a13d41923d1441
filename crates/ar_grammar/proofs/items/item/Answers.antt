use Rattle.std.proofs.Common.{refl, sym, ap, ◌∙◌}
use Rattle.expression_grammar.specs.Results.{first_token_kind}
use Rattle.expression_grammar.proofs.Finding.{finds_then, finds_fails, finds_given, finds_err, finds_ok, finds_token, finds_from, spans_then, spans_token, spans_expected, spans_from, eats_kind, follows_any}
use Rattle.ar_grammar.proofs.ItemParts.{item_domain, item_class, item_block}
use Rattle.ar_grammar.proofs.items.item.Goals as goal
use Rattle.expression_grammar.proofs.Standing.{halts_err, refuses_fails, refuses_then, refuses_map, refuses_from, passes_token, passes_expected}
use Rattle.ar_grammar.proofs.BodyTexts.{some_unit}
use Rattle.std.proofs.Common.{inl, inr}

pub returns-in_err-domain-clause-only : goal.returns-in_err-domain-clause-only
returns-in_err-domain-clause-only c =
    finds_given (finds_err (c.in_err-domain.ensures.only _) c.from_residual.ensures.1)
    (λ n next ts h s k. (item_domain n next ts h (k ∙ c.if-is_at.ensures.yes), s))

pub returns-then-is_at-clause-found : goal.returns-then-is_at-clause-found
returns-then-is_at-clause-found c = c.in_ok-domain.ensures.found

pub returns-then-is_at-clause-only : goal.returns-then-is_at-clause-only
returns-then-is_at-clause-only c = finds_given (finds_ok _ (c.in_ok-domain.ensures.only _))
    (λ n next ts h s k. (item_domain n next ts h (k ∙ c.if-is_at.ensures.yes), s))

pub returns-in_err-class-clause-only : goal.returns-in_err-class-clause-only
returns-in_err-class-clause-only c =
    finds_given (finds_then (finds_token c.if-eat.ensures.taken)
    (finds_err c.in_err-class.ensures.only c.from_residual-in_err-class.ensures.1) follows_any)
    (λ n next ts h s k. (item_class n next ts h (k ∙ eats_kind c.if-eat.ensures.taken), refl))

pub returns-then-eat-clause-found : goal.returns-then-eat-clause-found
returns-then-eat-clause-found c = spans_then (spans_token c.if-eat.ensures.taken) c.in_ok-class.ensures.found

pub returns-then-eat-clause-only : goal.returns-then-eat-clause-only
returns-then-eat-clause-only c = finds_given
    (finds_then (finds_token c.if-eat.ensures.taken) (finds_ok _ c.in_ok-class.ensures.only) follows_any)
    (λ n next ts h s k. (item_class n next ts h (k ∙ eats_kind c.if-eat.ensures.taken), refl))

pub returns-in_err-expect-clause-only : goal.returns-in_err-expect-clause-only
returns-in_err-expect-clause-only c =
    finds_from (finds_given (finds_fails (c.in_err-expect.ensures.only _) c.from_residual-in_err-expect.ensures.1
    follows_any) (λ n next ts h s k. (
      item_block n next ts h
          (λ e. c.if-is_at.ensures.no (ap first_token_kind (sym c.if-eat.ensures.left) ∙ sym k ∙ e))
          (λ e. c.if-eat.ensures.other (ap first_token_kind (sym c.if-eat.ensures.left) ∙ sym k ∙ e)),
      refl,
    ))) c.if-eat.ensures.left

pub returns-in_err-block-clause-only : goal.returns-in_err-block-clause-only
returns-in_err-block-clause-only c =
    finds_from (finds_given (finds_then (c.in_ok-expect.ensures.only _)
    (finds_err c.in_err-block.ensures.only c.from_residual-in_err-block.ensures.1) follows_any)
    (λ n next ts h s k. (
      item_block n next ts h
          (λ e. c.if-is_at.ensures.no (ap first_token_kind (sym c.if-eat.ensures.left) ∙ sym k ∙ e))
          (λ e. c.if-eat.ensures.other (ap first_token_kind (sym c.if-eat.ensures.left) ∙ sym k ∙ e)),
      refl,
    ))) c.if-eat.ensures.left

pub returns-clause-found : goal.returns-clause-found
returns-clause-found c = spans_from
    (spans_then (spans_expected c.in_ok-expect.ensures.found) c.in_ok-block.ensures.found) (sym c.if-eat.ensures.left)

pub returns-clause-only : goal.returns-clause-only
returns-clause-only c = finds_from (finds_given
    (finds_then (c.in_ok-expect.ensures.only _) (finds_ok _ c.in_ok-block.ensures.only) follows_any)
    (λ n next ts h s k. (
      item_block n next ts h
          (λ e. c.if-is_at.ensures.no (ap first_token_kind (sym c.if-eat.ensures.left) ∙ sym k ∙ e))
          (λ e. c.if-eat.ensures.other (ap first_token_kind (sym c.if-eat.ensures.left) ∙ sym k ∙ e)),
      refl,
    ))) c.if-eat.ensures.left

pub returns-in_err-domain-clause-stuck : goal.returns-in_err-domain-clause-stuck
returns-in_err-domain-clause-stuck c =
    halts_err _ _ c.from_residual.ensures.1 (refuses_map (c.in_err-domain.ensures.stuck _) (λ m next ts h. inl h))

pub returns-in_err-class-clause-stuck : goal.returns-in_err-class-clause-stuck
returns-in_err-class-clause-stuck c =
    halts_err _ _ c.from_residual-in_err-class.ensures.1
    (refuses_map (refuses_then (passes_token c.if-eat.ensures.taken) c.in_err-class.ensures.stuck)
    (λ m next ts h. inr (inl h)))

pub returns-in_err-expect-clause-stuck : goal.returns-in_err-expect-clause-stuck
returns-in_err-expect-clause-stuck c =
    halts_err _ _ c.from_residual-in_err-expect.ensures.1
    (refuses_from (refuses_map (refuses_fails (c.in_err-expect.ensures.stuck _) some_unit) (λ m next ts h. inr (inr h)))
    (sym c.if-eat.ensures.left))

pub returns-in_err-block-clause-stuck : goal.returns-in_err-block-clause-stuck
returns-in_err-block-clause-stuck c =
    halts_err _ _ c.from_residual-in_err-block.ensures.1
    (refuses_from (refuses_map (refuses_then (passes_expected c.in_ok-expect.ensures.found)
    c.in_err-block.ensures.stuck) (λ m next ts h. inr (inr h))) (sym c.if-eat.ensures.left))

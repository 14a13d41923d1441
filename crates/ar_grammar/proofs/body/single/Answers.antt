use Rattle.std.proofs.Common.{refl, sym, ap, ◌∙◌}
use Rattle.ar_lexer.specs.declared.token.TokenKind.TheVariants.{Reserved}
use Rattle.ar_lexer.specs.declared.words.TheConstants.{BOOLEAN}
use Rattle.ar_grammar.specs.Members.{ReadsDeclared, ReadsSingle, extends, clones, embeds, observer}
use Rattle.expression_grammar.specs.Results.{first_token_kind}
use Rattle.expression_grammar.proofs.Finding.{finds_then, finds_given, finds_err, finds_ok, finds_token, finds_from, spans_then, spans_token, spans_map, takes_from, eats_kind, follows_any}
use Rattle.ar_grammar.proofs.BodyParts.{takes_at, single_declared, single_extends, single_as_declared, single_of_declared, single_clones, single_embeds, single_observer, single_parameter}
use Rattle.ar_grammar.proofs.body.single.Goals as goal
use Rattle.expression_grammar.proofs.Standing.{halts_err, halts_over, refuses_then, refuses_map, refuses_from, passes_token}
use Rattle.ar_grammar.proofs.Standing.{refuses_given}
use Rattle.ar_grammar.proofs.BodyTexts.{some_single}
use Rattle.std.proofs.Common.{inl, inr}

pub returns-in_err-base-clause-only : goal.returns-in_err-base-clause-only
returns-in_err-base-clause-only c =
    finds_given (finds_err (c.in_err-base.ensures.only _) c.from_residual.ensures.1)
    (λ n next ts h s k. (single_extends n next ts h (k ∙ c.if-is_at.ensures.yes), refl))

pub returns-then-is_at-clause-found : goal.returns-then-is_at-clause-found
returns-then-is_at-clause-found c = spans_map c.in_ok-base.ensures.found (λ next ts h. extends _ _ refl h)

pub returns-then-is_at-clause-only : goal.returns-then-is_at-clause-only
returns-then-is_at-clause-only c = finds_given (finds_ok _ (c.in_ok-base.ensures.only _))
    (λ n next ts h s k. (single_extends n next ts h (k ∙ c.if-is_at.ensures.yes), refl))

pub returns-then-is_at-2-clause-found : goal.returns-then-is_at-2-clause-found
returns-then-is_at-2-clause-found c =
    takes_at (ReadsDeclared c.args.left) (ReadsSingle c.args.left) _ _ _ (Reserved BOOLEAN) c.declaration.ensures.found
    c.if-is_at-2.ensures.yes (λ m next ts h k. single_declared c.args.left m next ts h k)

pub returns-then-is_at-2-clause-only : goal.returns-then-is_at-2-clause-only
returns-then-is_at-2-clause-only c =
    finds_given c.declaration.ensures.only
    (λ n next ts h s k. (single_as_declared n next ts h (k ∙ c.if-is_at-2.ensures.yes), refl))

pub returns-in_err-path-clause-only : goal.returns-in_err-path-clause-only
returns-in_err-path-clause-only c =
    finds_given (finds_err (c.in_err-path.ensures.only _) c.from_residual-in_err-path.ensures.1)
    (λ n next ts h s k. (single_clones n next ts h (k ∙ c.if-is_at-3.ensures.yes), refl))

pub returns-then-is_at-3-clause-found : goal.returns-then-is_at-3-clause-found
returns-then-is_at-3-clause-found c = spans_map c.in_ok-path.ensures.found (λ next ts h. clones _ _ _ refl h)

pub returns-then-is_at-3-clause-only : goal.returns-then-is_at-3-clause-only
returns-then-is_at-3-clause-only c =
    finds_given (finds_ok _ (c.in_ok-path.ensures.only _))
    (λ n next ts h s k. (single_clones n next ts h (k ∙ c.if-is_at-3.ensures.yes), refl))

pub returns-in_err-target-clause-only : goal.returns-in_err-target-clause-only
returns-in_err-target-clause-only c =
    finds_given (finds_err (c.in_err-target.ensures.only _) c.from_residual-in_err-target.ensures.1)
    (λ n next ts h s k. (single_embeds n next ts h (k ∙ c.if-is_at-4.ensures.yes), refl))

pub returns-then-is_at-4-clause-found : goal.returns-then-is_at-4-clause-found
returns-then-is_at-4-clause-found c = spans_map c.in_ok-target.ensures.found (λ next ts h. embeds _ _ _ refl h)

pub returns-then-is_at-4-clause-only : goal.returns-then-is_at-4-clause-only
returns-then-is_at-4-clause-only c =
    finds_given (finds_ok _ (c.in_ok-target.ensures.only _))
    (λ n next ts h s k. (single_embeds n next ts h (k ∙ c.if-is_at-4.ensures.yes), refl))

pub returns-in_err-of_type-clause-only : goal.returns-in_err-of_type-clause-only
returns-in_err-of_type-clause-only c =
    finds_given (finds_then (finds_token c.if-eat.ensures.taken)
    (finds_err c.in_err-of_type.ensures.only c.from_residual-in_err-of_type.ensures.1) follows_any)
    (λ n next ts h s k. (single_observer n next ts h (k ∙ eats_kind c.if-eat.ensures.taken), refl))

pub returns-then-eat-clause-found : goal.returns-then-eat-clause-found
returns-then-eat-clause-found c = spans_map
    (spans_then (spans_token c.if-eat.ensures.taken) c.in_ok-of_type.ensures.found)
    (λ next ts h. observer _ _ _ _ refl h)

pub returns-then-eat-clause-only : goal.returns-then-eat-clause-only
returns-then-eat-clause-only c = finds_given
    (finds_then (finds_token c.if-eat.ensures.taken) (finds_ok _ c.in_ok-of_type.ensures.only) follows_any)
    (λ n next ts h s k. (single_observer n next ts h (k ∙ eats_kind c.if-eat.ensures.taken), refl))

pub returns-clause-found : goal.returns-clause-found
returns-clause-found c = takes_from (ReadsSingle c.args.left) _ _ _ _ c.parameter.ensures.found
    (sym c.if-eat.ensures.left)

pub returns-clause-only : goal.returns-clause-only
returns-clause-only c = finds_from (finds_given c.parameter.ensures.only
    (λ n next ts h s k. (
      single_parameter n next ts h
          (λ e. c.if-is_at.ensures.no (ap first_token_kind (sym c.if-eat.ensures.left) ∙ sym k ∙ e))
          (λ e. c.if-is_at-2.ensures.no (ap first_token_kind (sym c.if-eat.ensures.left) ∙ sym k ∙ e))
          (λ e. c.if-is_at-3.ensures.no (ap first_token_kind (sym c.if-eat.ensures.left) ∙ sym k ∙ e))
          (λ e. c.if-is_at-4.ensures.no (ap first_token_kind (sym c.if-eat.ensures.left) ∙ sym k ∙ e))
          (λ e. c.if-eat.ensures.other (ap first_token_kind (sym c.if-eat.ensures.left) ∙ sym k ∙ e)),
      refl,
    ))) c.if-eat.ensures.left

pub returns-in_err-base-clause-stuck : goal.returns-in_err-base-clause-stuck
returns-in_err-base-clause-stuck c =
    halts_err _ _ c.from_residual.ensures.1 (refuses_map (c.in_err-base.ensures.stuck _) (λ m next ts h. inl h))

pub returns-then-is_at-2-clause-stuck : goal.returns-then-is_at-2-clause-stuck
returns-then-is_at-2-clause-stuck c =
    halts_over _ c.declaration.ensures.stuck
    (λ e r. refuses_given r some_single
    (λ m next ts h k. single_of_declared m next ts h (k ∙ c.if-is_at-2.ensures.yes)))

pub returns-in_err-path-clause-stuck : goal.returns-in_err-path-clause-stuck
returns-in_err-path-clause-stuck c =
    halts_err _ _ c.from_residual-in_err-path.ensures.1
    (refuses_map (c.in_err-path.ensures.stuck _) (λ m next ts h. inr (inr (inl h))))

pub returns-in_err-target-clause-stuck : goal.returns-in_err-target-clause-stuck
returns-in_err-target-clause-stuck c =
    halts_err _ _ c.from_residual-in_err-target.ensures.1
    (refuses_map (c.in_err-target.ensures.stuck _) (λ m next ts h. inr (inr (inr (inl h)))))

pub returns-in_err-of_type-clause-stuck : goal.returns-in_err-of_type-clause-stuck
returns-in_err-of_type-clause-stuck c =
    halts_err _ _ c.from_residual-in_err-of_type.ensures.1
    (refuses_map (refuses_then (passes_token c.if-eat.ensures.taken) c.in_err-of_type.ensures.stuck)
    (λ m next ts h. inr (inr (inr (inr (inl h))))))

pub returns-clause-stuck : goal.returns-clause-stuck
returns-clause-stuck c = halts_over _ c.parameter.ensures.stuck
    (λ e r. refuses_from (refuses_map r (λ m next ts h. inr (inr (inr (inr (inr h)))))) (sym c.if-eat.ensures.left))

use Rattle.std.proofs.Common.{sym, ap, ◌∙◌}
use Rattle.expression_grammar.specs.Results.{first_token_kind}
use Rattle.expression_grammar.proofs.Finding.{finds_then, finds_fails, finds_given, finds_err, finds_ok, finds_token, finds_from, spans_then, spans_token, spans_expected, spans_from, spans_map, eats_kind, follows_any}
use Rattle.ar_grammar.proofs.BodyParts.{section_transition, section_assertion, section_ends_transitions, section_ends_assertions}
use Rattle.std.proofs.Common.{inl, inr}
use Rattle.ar_grammar.proofs.body.section.Goals as goal
use Rattle.expression_grammar.proofs.Standing.{halts_err, refuses_fails, refuses_then, refuses_map, refuses_from, passes_token, passes_expected, begins_no_more}

pub returns-in_err-transitions-clause-only : goal.returns-in_err-transitions-clause-only
returns-in_err-transitions-clause-only c =
    finds_given (finds_then (finds_token c.if-eat.ensures.taken)
    (finds_err c.in_err-transitions.ensures.only c.from_residual.ensures.1) follows_any)
    (λ n next ts h s k. (
      section_transition n next ts h (k ∙ eats_kind c.if-eat.ensures.taken),
      section_ends_transitions
          next s,
    ))

pub returns-then-eat-clause-found : goal.returns-then-eat-clause-found
returns-then-eat-clause-found c = let m = c.in_ok-transitions.ensures.found in (m.0, m.1, spans_map (spans_then (spans_token c.if-eat.ensures.taken) m.2) (λ next ts h. inl h))

pub returns-then-eat-clause-only : goal.returns-then-eat-clause-only
returns-then-eat-clause-only c = finds_given
    (finds_then (finds_token c.if-eat.ensures.taken) (finds_ok _ c.in_ok-transitions.ensures.only) follows_any)
    (λ n next ts h s k. (
      section_transition n next ts h (k ∙ eats_kind c.if-eat.ensures.taken),
      section_ends_transitions
          next s,
    ))

pub returns-in_err-expect-clause-only : goal.returns-in_err-expect-clause-only
returns-in_err-expect-clause-only c =
    finds_from (finds_given (finds_fails (c.in_err-expect.ensures.only _) c.from_residual-in_err-expect.ensures.1
    follows_any) (λ n next ts h s k. (
      section_assertion n next ts h
          (λ e. c.if-eat.ensures.other (ap first_token_kind (sym c.if-eat.ensures.left) ∙ sym k ∙ e)),
      section_ends_assertions next
          s,
    ))) c.if-eat.ensures.left

pub returns-in_err-assertions-clause-only : goal.returns-in_err-assertions-clause-only
returns-in_err-assertions-clause-only c =
    finds_from (finds_given (finds_then (c.in_ok-expect.ensures.only _)
    (finds_err c.in_err-assertions.ensures.only c.from_residual-in_err-assertions.ensures.1) follows_any)
    (λ n next ts h s k. (
      section_assertion n next ts h
          (λ e. c.if-eat.ensures.other (ap first_token_kind (sym c.if-eat.ensures.left) ∙ sym k ∙ e)),
      section_ends_assertions next
          s,
    ))) c.if-eat.ensures.left

pub returns-clause-found : goal.returns-clause-found
returns-clause-found c = let m = c.in_ok-assertions.ensures.found in (m.0, m.1, spans_from (spans_map (spans_then (spans_expected c.in_ok-expect.ensures.found) m.2) (λ next ts h. inr h)) (sym c.if-eat.ensures.left))

pub returns-clause-only : goal.returns-clause-only
returns-clause-only c = finds_from (finds_given
    (finds_then (c.in_ok-expect.ensures.only _) (finds_ok _ c.in_ok-assertions.ensures.only) follows_any)
    (λ n next ts h s k. (
      section_assertion n next ts h
          (λ e. c.if-eat.ensures.other (ap first_token_kind (sym c.if-eat.ensures.left) ∙ sym k ∙ e)),
      section_ends_assertions next
          s,
    ))) c.if-eat.ensures.left

pub returns-in_err-transitions-clause-stuck : goal.returns-in_err-transitions-clause-stuck
returns-in_err-transitions-clause-stuck c =
    halts_err _ _ c.from_residual.ensures.1
    (refuses_map (refuses_then (passes_token c.if-eat.ensures.taken) c.in_err-transitions.ensures.stuck)
    (λ m next ts h. inl h))

pub returns-in_err-expect-clause-stuck : goal.returns-in_err-expect-clause-stuck
returns-in_err-expect-clause-stuck c =
    halts_err _ _ c.from_residual-in_err-expect.ensures.1
    (refuses_from (refuses_map (refuses_fails (c.in_err-expect.ensures.stuck _) (λ m. begins_no_more))
    (λ m next ts h. inr h)) (sym c.if-eat.ensures.left))

pub returns-in_err-assertions-clause-stuck : goal.returns-in_err-assertions-clause-stuck
returns-in_err-assertions-clause-stuck c =
    halts_err _ _ c.from_residual-in_err-assertions.ensures.1
    (refuses_from (refuses_map (refuses_then (passes_expected c.in_ok-expect.ensures.found)
    c.in_err-assertions.ensures.stuck) (λ m next ts h. inr h)) (sym c.if-eat.ensures.left))

use Rattle.std.proofs.Common.{refl, sym, ap, ◌∙◌}
use Rattle.expression_grammar.specs.Results.{first_token_kind}
use Rattle.expression_grammar.proofs.Finding.{finds_given, finds_err, finds_ok, finds_token, finds_from, spans_token, spans_expected, spans_from, eats_kind}
use Rattle.ar_grammar.proofs.MemberParts.{part_must}
use Rattle.ar_grammar.proofs.members.must.Goals as goal
use Rattle.expression_grammar.proofs.Standing.{halts_err, refuses_map, refuses_from}
use Rattle.expression_grammar.proofs.TextParts.{one_as}
use Rattle.ar_grammar.specs.Texts.{is_part}

pub returns-then-eat-clause-found : goal.returns-then-eat-clause-found
returns-then-eat-clause-found c = spans_token c.if-eat.ensures.taken

pub returns-then-eat-clause-only : goal.returns-then-eat-clause-only
returns-then-eat-clause-only c = λ left. finds_given (finds_ok _ (finds_token c.if-eat.ensures.taken))
    (λ n next ts h s k. (one_as h (k ∙ eats_kind c.if-eat.ensures.taken), refl))

pub returns-in_err-expect-clause-only : goal.returns-in_err-expect-clause-only
returns-in_err-expect-clause-only c =
    λ left. finds_from (finds_given (finds_err (c.in_err-expect.ensures.only left) c.from_residual.ensures.1)
    (λ n next ts h s k. (
      part_must next ts h
          (λ e. c.if-eat.ensures.other (ap first_token_kind (sym c.if-eat.ensures.left) ∙ sym k ∙ e)),
      refl,
    ))) c.if-eat.ensures.left

pub returns-clause-found : goal.returns-clause-found
returns-clause-found c = spans_from (spans_expected c.in_ok-expect.ensures.found) (sym c.if-eat.ensures.left)

pub returns-clause-only : goal.returns-clause-only
returns-clause-only c = λ left. finds_from
    (finds_given (finds_ok _ (c.in_ok-expect.ensures.only left))
    (λ n next ts h s k. (
      part_must next ts h
          (λ e. c.if-eat.ensures.other (ap first_token_kind (sym c.if-eat.ensures.left) ∙ sym k ∙ e)),
      refl,
    ))) c.if-eat.ensures.left

pub returns-in_err-expect-clause-stuck : goal.returns-in_err-expect-clause-stuck
returns-in_err-expect-clause-stuck c =
    λ left. halts_err _ _ c.from_residual.ensures.1
    (refuses_from (refuses_map (c.in_err-expect.ensures.stuck left)
    (λ m next ts h. record { one = h.one; alone = h.alone; passes = ap is_part h.of_kind }))
    (sym c.if-eat.ensures.left))

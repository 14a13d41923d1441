use Rattle.std.proofs.Common.{refl, sym, ap, ◌∙◌}
use Rattle.ar_lexer.specs.declared.token.TokenKind.TheVariants.{Reserved}
use Rattle.ar_lexer.specs.declared.words.TheConstants.{BOOLEAN, INTEGER}
use Rattle.expression_grammar.specs.Words.{token}
use Rattle.expression_grammar.specs.Paths.{ReadsName}
use Rattle.expression_grammar.specs.Results.{first_token_kind}
use Rattle.expression_grammar.proofs.Finding.{finds_given, finds_err, finds_ok, finds_token, finds_from, spans_token, spans_from, eats_kind}
use Rattle.expression_grammar.proofs.PathForms.{spans_name}
use Rattle.ar_grammar.proofs.MemberParts.{stand_made, name_some, type_named}
use Rattle.expression_grammar.proofs.ExpressionForms.{token_some}
use Rattle.ar_grammar.proofs.members.type_name.Goals as goal
use Rattle.expression_grammar.proofs.Standing.{halts_err, refuses_map, refuses_from}
use Rattle.ar_grammar.specs.Texts.{is_type}
use Rattle.expression_grammar.proofs.TextParts.{one_as}

pub returns-then-eat-clause-found : goal.returns-then-eat-clause-found
returns-then-eat-clause-found c = stand_made (token (Reserved BOOLEAN)) _ _ c.place-at.ensures
    (spans_token c.if-eat.ensures.taken) (token_some (Reserved BOOLEAN))

pub returns-then-eat-clause-only : goal.returns-then-eat-clause-only
returns-then-eat-clause-only c = λ left. finds_given (finds_ok _ (finds_token c.if-eat.ensures.taken))
    (λ n next ts h s k. (one_as h (k ∙ eats_kind c.if-eat.ensures.taken), refl))

pub returns-then-eat-2-clause-found : goal.returns-then-eat-2-clause-found
returns-then-eat-2-clause-found c =
    stand_made (token (Reserved INTEGER)) _ _ c.place-at.ensures
    (spans_from (spans_token c.if-eat-2.ensures.taken) (sym c.if-eat.ensures.left)) (token_some (Reserved INTEGER))

pub returns-then-eat-2-clause-only : goal.returns-then-eat-2-clause-only
returns-then-eat-2-clause-only c = λ left. finds_from
    (finds_given (finds_ok _ (finds_token c.if-eat-2.ensures.taken))
    (λ n next ts h s k. (one_as h (k ∙ eats_kind c.if-eat-2.ensures.taken), refl))) c.if-eat.ensures.left

pub returns-in_err-name-clause-only : goal.returns-in_err-name-clause-only
returns-in_err-name-clause-only c =
    λ left. finds_from (finds_given (finds_err (c.in_err-name.ensures.only left) c.from_residual.ensures.1)
    (λ n next ts h s k. (
      type_named next ts h
          (λ e. c.if-eat.ensures.other (ap first_token_kind (sym (c.if-eat-2.ensures.left ∙ c.if-eat.ensures.left)) ∙ sym k ∙ e))
          (λ e. c.if-eat-2.ensures.other (ap first_token_kind (sym c.if-eat-2.ensures.left) ∙ sym k ∙ e)),
      refl,
    )))
    (c.if-eat-2.ensures.left ∙ c.if-eat.ensures.left)

pub returns-clause-found : goal.returns-clause-found
returns-clause-found c = stand_made (ReadsName c.in_ok-name.name.name) _ _ c.place-at.ensures
    (spans_from (spans_name c.in_ok-name.ensures.found) (sym (c.if-eat-2.ensures.left ∙ c.if-eat.ensures.left)))
    (name_some c.in_ok-name.name.name)

pub returns-clause-only : goal.returns-clause-only
returns-clause-only c = λ left. finds_from
    (finds_given (finds_ok _ (c.in_ok-name.ensures.only left))
    (λ n next ts h s k. (
      type_named next ts h
          (λ e. c.if-eat.ensures.other (ap first_token_kind (sym (c.if-eat-2.ensures.left ∙ c.if-eat.ensures.left)) ∙ sym k ∙ e))
          (λ e. c.if-eat-2.ensures.other (ap first_token_kind (sym c.if-eat-2.ensures.left) ∙ sym k ∙ e)),
      refl,
    )))
    (c.if-eat-2.ensures.left ∙ c.if-eat.ensures.left)

pub returns-in_err-name-clause-stuck : goal.returns-in_err-name-clause-stuck
returns-in_err-name-clause-stuck c =
    λ left. halts_err _ _ c.from_residual.ensures.1
    (refuses_from (refuses_map (c.in_err-name.ensures.stuck left)
    (λ m next ts h. record { one = h.one; alone = h.alone; passes = ap is_type h.of_kind }))
    (sym (c.if-eat-2.ensures.left ∙ c.if-eat.ensures.left)))

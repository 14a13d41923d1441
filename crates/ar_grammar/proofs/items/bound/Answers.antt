use Rattle.std.proofs.Common.{refl, sym, ap, ◌∙◌}
use Rattle.ar_grammar.specs.Items.{ReadsWhole, ReadsBound, whole, negated}
use Rattle.expression_grammar.specs.Results.{first_token_kind}
use Rattle.expression_grammar.proofs.Finding.{finds_then, finds_given, finds_err, finds_ok, finds_token, finds_from, spans_then, spans_token, spans_map, takes_map, takes_from, eats_kind, follows_any}
use Rattle.ar_grammar.proofs.ItemParts.{bound_minus, bound_whole}
use Rattle.std.proofs.Common.{arith, rules}
use Rattle.std.proofs.lemmas.Int.{ints}
use mir.Syntax.{w64}
use mir.Val.{SFits}
use Rattle.ar_grammar.proofs.items.bound.Goals as goal
use Rattle.expression_grammar.proofs.Standing.{halts_err, halts_over, refuses_then, refuses_map, refuses_from, passes_token}
use Rattle.std.proofs.Common.{inl, inr}

pub returns-in_err-n-clause-only : goal.returns-in_err-n-clause-only
returns-in_err-n-clause-only c = λ left. finds_given
    (finds_then (finds_token c.if-eat.ensures.taken)
    (finds_err (c.in_err-n.ensures.only left) c.from_residual.ensures.1) follows_any)
    (λ n next ts h s k. (bound_minus next ts h (k ∙ eats_kind c.if-eat.ensures.taken), refl))

pub returns-then-eat-clause-found : goal.returns-then-eat-clause-found
returns-then-eat-clause-found c = let f : SFits w64 c.in_ok-n.n = search rules in spans_map (spans_then (spans_token c.if-eat.ensures.taken) c.in_ok-n.ensures.found) (λ next ts h. negated c.in_ok-n.n (omega (arith, ints, f)) h)

pub returns-then-eat-clause-only : goal.returns-then-eat-clause-only
returns-then-eat-clause-only c = λ left. finds_given
    (finds_then (finds_token c.if-eat.ensures.taken) (finds_ok _ (c.in_ok-n.ensures.only left)) follows_any)
    (λ n next ts h s k. (bound_minus next ts h (k ∙ eats_kind c.if-eat.ensures.taken), refl))

pub returns-clause-found : goal.returns-clause-found
returns-clause-found c = takes_from ReadsBound _ _ _ _
    (takes_map ReadsWhole ReadsBound _ _ _ c.whole-2.ensures.found (λ z next ts h. whole h)) (sym c.if-eat.ensures.left)

pub returns-clause-only : goal.returns-clause-only
returns-clause-only c = λ left. finds_from
    (finds_given (c.whole-2.ensures.only left)
    (λ n next ts h s k. (
      bound_whole next ts h
          (λ e. c.if-eat.ensures.other (ap first_token_kind (sym c.if-eat.ensures.left) ∙ sym k ∙ e)),
      refl,
    ))) c.if-eat.ensures.left

pub returns-in_err-n-clause-stuck : goal.returns-in_err-n-clause-stuck
returns-in_err-n-clause-stuck c = λ left. halts_err _ _ c.from_residual.ensures.1
    (refuses_map (refuses_then (passes_token c.if-eat.ensures.taken) (c.in_err-n.ensures.stuck left))
    (λ m next ts h. inr h))

pub returns-clause-stuck : goal.returns-clause-stuck
returns-clause-stuck c = λ left. halts_over _ (c.whole-2.ensures.stuck left)
    (λ e r. refuses_from (refuses_map r (λ m next ts h. inl h)) (sym c.if-eat.ensures.left))

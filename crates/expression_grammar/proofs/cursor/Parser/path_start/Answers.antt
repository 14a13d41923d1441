use Rattle.std.proofs.Common.{refl, sym, ap, ◌∙◌}
use Rattle.expression_grammar.specs.Results.{first_token_kind}
use Rattle.expression_grammar.proofs.Finding.{finds_given, finds_then, finds_err, finds_ok, finds_token, finds_nothing, spans_token, spans_expected, spans_then, spans_from, finds_from, finds_at, eats_kind, follows_any}
use Rattle.expression_grammar.proofs.PathForms.{start_owner, start_main, start_here}
use Rattle.expression_grammar.proofs.cursor.Parser.path_start.Goals as goal
use Rattle.ar_syntax.specs.declared.paths.PathStart.TheVariants.{Owner, Main}
use Rattle.expression_grammar.proofs.Standing.{halts_err, refuses_map, refuses_then, refuses_from, passes_token}

pub returns-in_err-expect-clause-only : goal.returns-in_err-expect-clause-only
returns-in_err-expect-clause-only c = λ left.
    let e = c.if-eat.ensures.taken in
    finds_given (finds_then (finds_token e) (finds_err (c.in_err-expect.ensures.only left) c.from_residual.ensures.1)
    follows_any)
    (λ n next ts h s k. (start_owner next ts h s (k ∙ eats_kind e), refl))

pub returns-then-eat-clause-found : goal.returns-then-eat-clause-found
returns-then-eat-clause-found c = spans_then (spans_token c.if-eat.ensures.taken)
    (spans_expected c.in_ok-expect.ensures.found)

pub returns-then-eat-clause-only : goal.returns-then-eat-clause-only
returns-then-eat-clause-only c = λ left.
    let e = c.if-eat.ensures.taken in
    finds_given (finds_then (finds_token e) (finds_ok _ (c.in_ok-expect.ensures.only left)) follows_any)
    (λ n next ts h s k. (start_owner next ts h s (k ∙ eats_kind e), refl))

pub returns-in_err-expect-2-clause-only : goal.returns-in_err-expect-2-clause-only
returns-in_err-expect-2-clause-only c = λ left.
    let e = c.if-eat-2.ensures.taken in
    let stays = c.if-eat.ensures.left in
    finds_from (finds_given (finds_then (finds_token e)
    (finds_err (c.in_err-expect-2.ensures.only left) c.from_residual-in_err-expect-2.ensures.1) follows_any)
    (λ n next ts h s k. (start_main next ts h s (k ∙ eats_kind e), refl))) stays

pub returns-then-eat-2-clause-found : goal.returns-then-eat-2-clause-found
returns-then-eat-2-clause-found c =
    spans_from (spans_then (spans_token c.if-eat-2.ensures.taken) (spans_expected c.in_ok-expect-2.ensures.found))
    (sym c.if-eat.ensures.left)

pub returns-then-eat-2-clause-only : goal.returns-then-eat-2-clause-only
returns-then-eat-2-clause-only c = λ left.
    let e = c.if-eat-2.ensures.taken in
    finds_from (finds_given (finds_then (finds_token e) (finds_ok _ (c.in_ok-expect-2.ensures.only left)) follows_any)
    (λ n next ts h s k. (start_main next ts h s (k ∙ eats_kind e), refl))) c.if-eat.ensures.left

pub returns-clause-only : goal.returns-clause-only
returns-clause-only c = λ left.
    let a = c.if-eat.ensures in let b = c.if-eat-2.ensures in
    finds_at (finds_given (finds_nothing _)
    (λ n next ts h s k. (
      start_here next ts h (λ e. a.other (sym k ∙ e))
          (λ e. b.other (ap first_token_kind a.left ∙ sym k ∙ e)),
      refl,
    ))) (b.left ∙ a.left)

pub returns-in_err-expect-clause-stuck : goal.returns-in_err-expect-clause-stuck
returns-in_err-expect-clause-stuck c =
    λ left. halts_err _ _ c.from_residual.ensures.1
    (refuses_map (refuses_then (passes_token c.if-eat.ensures.taken) (c.in_err-expect.ensures.stuck left))
    (λ m next ts h. (Owner, h)))

pub returns-in_err-expect-2-clause-stuck : goal.returns-in_err-expect-2-clause-stuck
returns-in_err-expect-2-clause-stuck c =
    λ left. halts_err _ _ c.from_residual-in_err-expect-2.ensures.1
    (refuses_from (refuses_map (refuses_then (passes_token c.if-eat-2.ensures.taken)
    (c.in_err-expect-2.ensures.stuck left)) (λ m next ts h. (Main, h))) (sym c.if-eat.ensures.left))

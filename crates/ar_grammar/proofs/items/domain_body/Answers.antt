use Rattle.std.proofs.Common.{refl, sym, ap, ◌∙◌}
use Rattle.expression_grammar.specs.Results.{first_token_kind}
use Rattle.expression_grammar.proofs.Finding.{finds_then, finds_fails, finds_given, finds_err, finds_ok, finds_token, finds_from, spans_then, spans_token, spans_expected, spans_from, eats_kind, follows_token, follows_any}
use Rattle.ar_grammar.proofs.ItemParts.{domain_symbols, domain_range, range_again}
use Rattle.std.proofs.Common.{rules}
use mir.Syntax.{w64}
use mir.Val.{SFits}
use Rattle.ar_grammar.proofs.items.domain_body.Goals as goal
use Rattle.expression_grammar.proofs.Standing.{halts_err, refuses_fails, refuses_then, refuses_map, refuses_from, passes, passes_token, passes_expected, begins_then, begins_token}
use Rattle.ar_grammar.proofs.ItemParts.{turns_bound, some_bound, range_domain}
use Rattle.ar_grammar.proofs.MemberParts.{turns_names}
use Rattle.std.proofs.Common.{inl}
use Rattle.ar_lexer.specs.declared.token.TokenKind.TheVariants.{Sign}
use Rattle.ar_lexer.specs.declared.signs.TheConstants.{CLOSE_BRACE, CLOSE_BRACKET, COMMA}

pub returns-in_err-symbols-clause-only : goal.returns-in_err-symbols-clause-only
returns-in_err-symbols-clause-only c =
    λ left. finds_given (finds_then (finds_token c.if-eat.ensures.taken)
    (finds_fails (c.in_err-symbols.ensures.only left) c.from_residual.ensures.1 (follows_token refl)) follows_any)
    (λ n next ts h s k. (domain_symbols next ts h (k ∙ eats_kind c.if-eat.ensures.taken), refl))

pub returns-in_err-expect-clause-only : goal.returns-in_err-expect-clause-only
returns-in_err-expect-clause-only c =
    λ left. finds_given (finds_then (finds_token c.if-eat.ensures.taken)
    (finds_then (c.in_ok-symbols.ensures.only left)
    (finds_err (c.in_err-expect.ensures.only left) c.from_residual-in_err-expect.ensures.1) (follows_token refl))
    follows_any) (λ n next ts h s k. (domain_symbols next ts h (k ∙ eats_kind c.if-eat.ensures.taken), refl))

pub returns-then-eat-clause-found : goal.returns-then-eat-clause-found
returns-then-eat-clause-found c = spans_then (spans_token c.if-eat.ensures.taken)
    (spans_then c.in_ok-symbols.ensures.found (spans_expected c.in_ok-expect.ensures.found))

pub returns-then-eat-clause-only : goal.returns-then-eat-clause-only
returns-then-eat-clause-only c = λ left. finds_given
    (finds_then (finds_token c.if-eat.ensures.taken)
    (finds_then (c.in_ok-symbols.ensures.only left) (finds_ok _ (c.in_ok-expect.ensures.only left))
    (follows_token refl)) follows_any)
    (λ n next ts h s k. (domain_symbols next ts h (k ∙ eats_kind c.if-eat.ensures.taken), refl))

pub returns-in_err-expect-2-clause-only : goal.returns-in_err-expect-2-clause-only
returns-in_err-expect-2-clause-only c =
    λ left. finds_from (finds_given (finds_fails (c.in_err-expect-2.ensures.only left)
    c.from_residual-in_err-expect-2.ensures.1 follows_any)
    (λ n next ts h s k. (
      domain_range next ts h
          (λ e. c.if-eat.ensures.other (ap first_token_kind (sym c.if-eat.ensures.left) ∙ sym k ∙ e)),
      refl,
    ))) c.if-eat.ensures.left

pub returns-in_err-low-clause-only : goal.returns-in_err-low-clause-only
returns-in_err-low-clause-only c = λ left. finds_from
    (finds_given (finds_then (c.in_ok-expect-2.ensures.only left)
    (finds_fails (c.in_err-low.ensures.only left) c.from_residual-in_err-low.ensures.1 follows_any) follows_any)
    (λ n next ts h s k. (
      domain_range next ts h
          (λ e. c.if-eat.ensures.other (ap first_token_kind (sym c.if-eat.ensures.left) ∙ sym k ∙ e)),
      refl,
    ))) c.if-eat.ensures.left

pub returns-in_err-expect-3-clause-only : goal.returns-in_err-expect-3-clause-only
returns-in_err-expect-3-clause-only c =
    λ left. finds_from (finds_given (finds_then (c.in_ok-expect-2.ensures.only left)
    (finds_then (c.in_ok-low.ensures.only left)
    (finds_fails (c.in_err-expect-3.ensures.only left) c.from_residual-in_err-expect-3.ensures.1 follows_any)
    follows_any) follows_any) (λ n next ts h s k.
    (domain_range next ts h (λ e. c.if-eat.ensures.other (ap first_token_kind (sym c.if-eat.ensures.left) ∙ sym k ∙ e)), refl)))
    c.if-eat.ensures.left

pub returns-in_err-high-clause-only : goal.returns-in_err-high-clause-only
returns-in_err-high-clause-only c =
    λ left. finds_from (finds_given (finds_then (c.in_ok-expect-2.ensures.only left)
    (finds_then (c.in_ok-low.ensures.only left)
    (finds_then (c.in_ok-expect-3.ensures.only left)
    (finds_fails (c.in_err-high.ensures.only left) c.from_residual-in_err-high.ensures.1 follows_any) follows_any)
    follows_any) follows_any) (λ n next ts h s k.
    (domain_range next ts h (λ e. c.if-eat.ensures.other (ap first_token_kind (sym c.if-eat.ensures.left) ∙ sym k ∙ e)), refl)))
    c.if-eat.ensures.left

pub returns-in_err-expect-4-clause-only : goal.returns-in_err-expect-4-clause-only
returns-in_err-expect-4-clause-only c =
    λ left. finds_from (finds_given (finds_then (c.in_ok-expect-2.ensures.only left)
    (finds_then (c.in_ok-low.ensures.only left)
    (finds_then (c.in_ok-expect-3.ensures.only left)
    (finds_then (c.in_ok-high.ensures.only left)
    (finds_err (c.in_err-expect-4.ensures.only left) c.from_residual-in_err-expect-4.ensures.1) follows_any)
    follows_any) follows_any) follows_any)
    (λ n next ts h s k. (
      domain_range next ts h
          (λ e. c.if-eat.ensures.other (ap first_token_kind (sym c.if-eat.ensures.left) ∙ sym k ∙ e)),
      refl,
    ))) c.if-eat.ensures.left

pub returns-clause-found : goal.returns-clause-found
returns-clause-found c = let f : SFits w64 c.in_ok-low.low = search rules in let g : SFits w64 c.in_ok-high.high = search rules in range_again c.in_ok-low.low c.in_ok-high.high f g (spans_from (spans_then (spans_then (spans_expected c.in_ok-expect-2.ensures.found) (spans_then c.in_ok-low.ensures.found (spans_expected c.in_ok-expect-3.ensures.found))) (spans_then c.in_ok-high.ensures.found (spans_expected c.in_ok-expect-4.ensures.found))) (sym c.if-eat.ensures.left))

pub returns-clause-only : goal.returns-clause-only
returns-clause-only c = λ left. finds_from
    (finds_given (finds_then (c.in_ok-expect-2.ensures.only left)
    (finds_then (c.in_ok-low.ensures.only left)
    (finds_then (c.in_ok-expect-3.ensures.only left)
    (finds_then (c.in_ok-high.ensures.only left) (finds_ok _ (c.in_ok-expect-4.ensures.only left)) follows_any)
    follows_any) follows_any) follows_any)
    (λ n next ts h s k. (
      domain_range next ts h
          (λ e. c.if-eat.ensures.other (ap first_token_kind (sym c.if-eat.ensures.left) ∙ sym k ∙ e)),
      refl,
    ))) c.if-eat.ensures.left

pub returns-in_err-symbols-clause-stuck : goal.returns-in_err-symbols-clause-stuck
returns-in_err-symbols-clause-stuck c =
    λ left. halts_err _ _ c.from_residual.ensures.1
    (refuses_map (refuses_then (passes_token c.if-eat.ensures.taken)
    (refuses_fails (c.in_err-symbols.ensures.stuck left) (λ m. begins_token (Sign CLOSE_BRACE))))
    (λ m next ts h. inl h))

pub returns-in_err-expect-clause-stuck : goal.returns-in_err-expect-clause-stuck
returns-in_err-expect-clause-stuck c =
    λ left. halts_err _ _ c.from_residual-in_err-expect.ensures.1
    (refuses_map (refuses_then (passes_token c.if-eat.ensures.taken)
    (refuses_then (passes c.in_ok-symbols.ensures.found (λ m l. turns_names c.in_ok-symbols.symbols.items))
    (c.in_err-expect.ensures.stuck left))) (λ m next ts h. inl h))

pub returns-in_err-expect-2-clause-stuck : goal.returns-in_err-expect-2-clause-stuck
returns-in_err-expect-2-clause-stuck c =
    λ left. halts_err _ _ c.from_residual-in_err-expect-2.ensures.1
    (refuses_from (refuses_map (refuses_fails (c.in_err-expect-2.ensures.stuck left)
    (λ m. begins_then some_bound (begins_then (begins_token (Sign COMMA))
    (begins_then some_bound (begins_token (Sign CLOSE_BRACKET)))))) (λ m next ts h. range_domain next ts h))
    (sym c.if-eat.ensures.left))

pub returns-in_err-low-clause-stuck : goal.returns-in_err-low-clause-stuck
returns-in_err-low-clause-stuck c =
    λ left. halts_err _ _ c.from_residual-in_err-low.ensures.1
    (refuses_from (refuses_map (refuses_then (passes_expected c.in_ok-expect-2.ensures.found)
    (refuses_fails (c.in_err-low.ensures.stuck left)
    (λ m. begins_then (begins_token (Sign COMMA)) (begins_then some_bound (begins_token (Sign CLOSE_BRACKET))))))
    (λ m next ts h. range_domain next ts h)) (sym c.if-eat.ensures.left))

pub returns-in_err-expect-3-clause-stuck : goal.returns-in_err-expect-3-clause-stuck
returns-in_err-expect-3-clause-stuck c =
    λ left. halts_err _ _ c.from_residual-in_err-expect-3.ensures.1
    (refuses_from (refuses_map (refuses_then (passes_expected c.in_ok-expect-2.ensures.found)
    (refuses_then (passes c.in_ok-low.ensures.found (λ m l. turns_bound c.in_ok-low.low))
    (refuses_fails (c.in_err-expect-3.ensures.stuck left)
    (λ m. begins_then some_bound (begins_token (Sign CLOSE_BRACKET)))))) (λ m next ts h. range_domain next ts h))
    (sym c.if-eat.ensures.left))

pub returns-in_err-high-clause-stuck : goal.returns-in_err-high-clause-stuck
returns-in_err-high-clause-stuck c =
    λ left. halts_err _ _ c.from_residual-in_err-high.ensures.1
    (refuses_from (refuses_map (refuses_then (passes_expected c.in_ok-expect-2.ensures.found)
    (refuses_then (passes c.in_ok-low.ensures.found (λ m l. turns_bound c.in_ok-low.low))
    (refuses_then (passes_expected c.in_ok-expect-3.ensures.found)
    (refuses_fails (c.in_err-high.ensures.stuck left) (λ m. begins_token (Sign CLOSE_BRACKET))))))
    (λ m next ts h. range_domain next ts h)) (sym c.if-eat.ensures.left))

pub returns-in_err-expect-4-clause-stuck : goal.returns-in_err-expect-4-clause-stuck
returns-in_err-expect-4-clause-stuck c =
    λ left. halts_err _ _ c.from_residual-in_err-expect-4.ensures.1
    (refuses_from (refuses_map (refuses_then (passes_expected c.in_ok-expect-2.ensures.found)
    (refuses_then (passes c.in_ok-low.ensures.found (λ m l. turns_bound c.in_ok-low.low))
    (refuses_then (passes_expected c.in_ok-expect-3.ensures.found)
    (refuses_then (passes c.in_ok-high.ensures.found (λ m l. turns_bound c.in_ok-high.high))
    (c.in_err-expect-4.ensures.stuck left))))) (λ m next ts h. range_domain next ts h)) (sym c.if-eat.ensures.left))

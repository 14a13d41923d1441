use Rattle.std.proofs.Common.{refl, sym, ap, ◌∙◌}
use Rattle.ar_grammar.specs.Members.{sync}
use Rattle.ar_grammar.specs.Results.{begins_part}
use Rattle.expression_grammar.proofs.Finding.{finds_then, finds_fails, finds_given, finds_err, finds_ok, spans_then, spans_expected, spans_map, follows_then, follows_any}
use Rattle.ar_grammar.proofs.MemberParts.{transition_sync, transition_local, local_made}
use Rattle.ar_grammar.proofs.members.transition.Goals as goal
use Rattle.expression_grammar.proofs.Standing.{halts_err, refuses_fails, refuses_then, refuses_map, passes, passes_expected, begins_then, begins_token}
use Rattle.expression_grammar.proofs.Turning.{turns_tree}
use Rattle.ar_grammar.proofs.NameForms.{turns_placed}
use Rattle.ar_grammar.proofs.MemberParts.{some_transition_rest}
use Rattle.std.proofs.Common.{inl, inr}
use Rattle.ar_grammar.proofs.InstrTexts.{some_instr}
use Rattle.ar_lexer.specs.declared.token.TokenKind.TheVariants.{Sign}
use Rattle.ar_lexer.specs.declared.signs.TheConstants.{ARROW, COLON}

pub returns-in_err-name-clause-only : goal.returns-in_err-name-clause-only
returns-in_err-name-clause-only c =
    finds_given (finds_fails (c.in_err-name.ensures.only _) c.from_residual.ensures.1 follows_any)
    (λ n next ts h s k. (h, s))

pub returns-in_err-expect-clause-only : goal.returns-in_err-expect-clause-only
returns-in_err-expect-clause-only c =
    finds_given (finds_then (c.in_ok-name.ensures.only _)
    (finds_fails (c.in_err-expect.ensures.only _) c.from_residual-in_err-expect.ensures.1 follows_any) follows_any)
    (λ n next ts h s k. (h, s))

pub returns-in_err-parts-clause-only : goal.returns-in_err-parts-clause-only
returns-in_err-parts-clause-only c =
    finds_given (finds_then (c.in_ok-name.ensures.only _)
    (finds_then (c.in_ok-expect.ensures.only _)
    (finds_given (finds_err (c.in_err-parts.ensures.only _) c.from_residual-in_err-parts.ensures.1)
    (λ n next ts h s k. (transition_sync n next ts h (ap begins_part k ∙ sym c.if-is_at_part.ensures), s))) follows_any)
    follows_any) (λ n next ts h s k. (h, s))

pub returns-then-is_at_part-clause-found : goal.returns-then-is_at_part-clause-found
returns-then-is_at_part-clause-found c =
    spans_map (spans_then c.in_ok-name.ensures.found
    (spans_then (spans_expected c.in_ok-expect.ensures.found) c.in_ok-parts.ensures.found))
    (λ next ts h. sync _ _ c.in_ok-parts.parts refl h)

pub returns-then-is_at_part-clause-only : goal.returns-then-is_at_part-clause-only
returns-then-is_at_part-clause-only c =
    finds_given (finds_then (c.in_ok-name.ensures.only _)
    (finds_then (c.in_ok-expect.ensures.only _)
    (finds_given (finds_ok _ (c.in_ok-parts.ensures.only _))
    (λ n next ts h s k. (transition_sync n next ts h (ap begins_part k ∙ sym c.if-is_at_part.ensures), s))) follows_any)
    follows_any) (λ n next ts h s k. (h, s))

pub returns-in_err-guard-clause-only : goal.returns-in_err-guard-clause-only
returns-in_err-guard-clause-only c =
    finds_given (finds_then (c.in_ok-name.ensures.only _)
    (finds_then (c.in_ok-expect.ensures.only _)
    (finds_given (finds_fails c.in_err-guard.ensures.only c.from_residual-in_err-guard.ensures.1 (follows_then refl))
    (λ n next ts h s k. (transition_local n next ts h (ap begins_part k ∙ sym c.if-is_at_part.ensures), s)))
    follows_any) follows_any) (λ n next ts h s k. (h, s))

pub returns-in_err-expect-2-clause-only : goal.returns-in_err-expect-2-clause-only
returns-in_err-expect-2-clause-only c =
    finds_given (finds_then (c.in_ok-name.ensures.only _)
    (finds_then (c.in_ok-expect.ensures.only _)
    (finds_given (finds_then c.in_ok-guard.ensures.only
    (finds_fails (c.in_err-expect-2.ensures.only _) c.from_residual-in_err-expect-2.ensures.1 follows_any)
    (follows_then refl))
    (λ n next ts h s k. (transition_local n next ts h (ap begins_part k ∙ sym c.if-is_at_part.ensures), s)))
    follows_any) follows_any) (λ n next ts h s k. (h, s))

pub returns-in_err-action-clause-only : goal.returns-in_err-action-clause-only
returns-in_err-action-clause-only c =
    finds_given (finds_then (c.in_ok-name.ensures.only _)
    (finds_then (c.in_ok-expect.ensures.only _)
    (finds_given (finds_then c.in_ok-guard.ensures.only
    (finds_then (c.in_ok-expect-2.ensures.only _)
    (finds_err c.in_err-action.ensures.only c.from_residual-in_err-action.ensures.1) follows_any) (follows_then refl))
    (λ n next ts h s k. (transition_local n next ts h (ap begins_part k ∙ sym c.if-is_at_part.ensures), s)))
    follows_any) follows_any) (λ n next ts h s k. (h, s))

pub returns-clause-found : goal.returns-clause-found
returns-clause-found c = local_made _ _ _ _ _ c.in_ok-name.ensures.found (spans_expected c.in_ok-expect.ensures.found)
    (spans_then c.in_ok-guard.ensures.found
    (spans_then (spans_expected c.in_ok-expect-2.ensures.found) c.in_ok-action.ensures.found))

pub returns-clause-only : goal.returns-clause-only
returns-clause-only c = finds_given
    (finds_then (c.in_ok-name.ensures.only _)
    (finds_then (c.in_ok-expect.ensures.only _)
    (finds_given (finds_then c.in_ok-guard.ensures.only
    (finds_then (c.in_ok-expect-2.ensures.only _) (finds_ok _ c.in_ok-action.ensures.only) follows_any)
    (follows_then refl))
    (λ n next ts h s k. (transition_local n next ts h (ap begins_part k ∙ sym c.if-is_at_part.ensures), s)))
    follows_any) follows_any) (λ n next ts h s k. (h, s))

pub returns-in_err-name-clause-stuck : goal.returns-in_err-name-clause-stuck
returns-in_err-name-clause-stuck c =
    halts_err _ _ c.from_residual.ensures.1
    (refuses_fails (c.in_err-name.ensures.stuck _)
    (λ m. begins_then (begins_token (Sign COLON)) (some_transition_rest m)))

pub returns-in_err-expect-clause-stuck : goal.returns-in_err-expect-clause-stuck
returns-in_err-expect-clause-stuck c =
    halts_err _ _ c.from_residual-in_err-expect.ensures.1
    (refuses_then (passes c.in_ok-name.ensures.found (λ m l. turns_placed _))
    (refuses_fails (c.in_err-expect.ensures.stuck _) some_transition_rest))

pub returns-in_err-parts-clause-stuck : goal.returns-in_err-parts-clause-stuck
returns-in_err-parts-clause-stuck c =
    halts_err _ _ c.from_residual-in_err-parts.ensures.1
    (refuses_then (passes c.in_ok-name.ensures.found (λ m l. turns_placed _))
    (refuses_then (passes_expected c.in_ok-expect.ensures.found)
    (refuses_map (c.in_err-parts.ensures.stuck _) (λ m next ts h. inl h))))

pub returns-in_err-guard-clause-stuck : goal.returns-in_err-guard-clause-stuck
returns-in_err-guard-clause-stuck c =
    halts_err _ _ c.from_residual-in_err-guard.ensures.1
    (refuses_then (passes c.in_ok-name.ensures.found (λ m l. turns_placed _))
    (refuses_then (passes_expected c.in_ok-expect.ensures.found)
    (refuses_map (refuses_fails c.in_err-guard.ensures.stuck (λ m. begins_then (begins_token (Sign ARROW)) (some_instr m)))
    (λ m next ts h. inr h))))

pub returns-in_err-expect-2-clause-stuck : goal.returns-in_err-expect-2-clause-stuck
returns-in_err-expect-2-clause-stuck c =
    halts_err _ _ c.from_residual-in_err-expect-2.ensures.1
    (refuses_then (passes c.in_ok-name.ensures.found (λ m l. turns_placed _))
    (refuses_then (passes_expected c.in_ok-expect.ensures.found)
    (refuses_map (refuses_then (passes c.in_ok-guard.ensures.found (λ m l. turns_tree _ m l _))
    (refuses_fails (c.in_err-expect-2.ensures.stuck _) some_instr))
    (λ m next ts h. inr h))))

pub returns-in_err-action-clause-stuck : goal.returns-in_err-action-clause-stuck
returns-in_err-action-clause-stuck c =
    halts_err _ _ c.from_residual-in_err-action.ensures.1
    (refuses_then (passes c.in_ok-name.ensures.found (λ m l. turns_placed _))
    (refuses_then (passes_expected c.in_ok-expect.ensures.found)
    (refuses_map (refuses_then (passes c.in_ok-guard.ensures.found (λ m l. turns_tree _ m l _))
    (refuses_then (passes_expected c.in_ok-expect-2.ensures.found) c.in_err-action.ensures.stuck))
    (λ m next ts h. inr h))))

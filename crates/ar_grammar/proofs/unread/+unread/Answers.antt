use Rattle.std.proofs.Common.{refl, sym, ap, ◌∙◌}
use Rattle.ar_grammar.specs.Members.{unread_piece}
use Rattle.expression_grammar.specs.Results.{first_token_kind}
use Rattle.ar_grammar.specs.Results.{goes_unread}
use Rattle.expression_grammar.proofs.Finding.{finds_then, finds_fails, finds_given, finds_err, finds_ok, finds_inside, finds_token, loops_stop, loops_fail, loops_next, spans_then, spans_expected, spans_map, follows_token, follows_any}
use Rattle.ar_grammar.proofs.Finding.{finds_deep, many_push}
use Rattle.ar_grammar.proofs.UnreadParts.{unread_open, unread_over, unread_grouped, unread_bracketed, unread_plain, unread_token, bracketed_some, bracketed_inside, bracketed_in}
use Rattle.ar_grammar.proofs.unread.+unread.Goals as goal
use Rattle.std.proofs.Common.{inr}
use Rattle.ar_lexer.specs.declared.token.TokenKind.TheVariants.{Sign}
use Rattle.ar_lexer.specs.declared.signs.TheConstants.{OPEN_PARENTHESIS, CLOSE_PARENTHESIS}
use Rattle.expression_grammar.specs.Results.{is_sign}
use Rattle.expression_grammar.proofs.Standing.{halts_err, halts_over, refuses_fails, refuses_then, refuses_map, refuses_inside, refuses_turn, refuses_deep, passes, passes_expected, begins_token}
use Rattle.ar_grammar.proofs.UnreadParts.{turns_unread, some_unread_end, some_bracketed, bracketed_at}
use Rattle.ar_grammar.specs.Parts.{unread_tokens}

pub unread-returns-in_err-unread_piece-clause-only : goal.unread-returns-in_err-unread_piece-clause-only
unread-returns-in_err-unread_piece-clause-only t c =
    loops_fail c.loop-parser.invariant.1 (unread_open (first_token_kind c.loop-parser.parser.rest.now) (sym c.loop-parser-test.ensures))
    c.in_err-unread_piece.ensures.only c.from_residual.ensures.1 follows_any

pub unread-loop-parser-preserved : goal.unread-loop-parser-preserved
unread-loop-parser-preserved t c = (
  many_push (unread_piece c.args.left) c.loop-parser.invariant.0
      c.in_ok-unread_piece.ensures.found,
  loops_next c.loop-parser.invariant.1
      (unread_open (first_token_kind c.loop-parser.parser.rest.now) (sym c.loop-parser-test.ensures)) c.in_ok-unread_piece.ensures.only
      follows_any,
)

pub unread-returns-clause-only : goal.unread-returns-clause-only
unread-returns-clause-only t c = loops_stop c.loop-parser.invariant.1
    (λ n next ts h k. unread_over n next ts h (ap goes_unread k ∙ sym c.loop-parser-test.ensures))

pub unread_piece-returns-then-is_at-clause-found : goal.unread_piece-returns-then-is_at-clause-found
unread_piece-returns-then-is_at-clause-found t c = unread_grouped c.args.left _ _ _ c.unread_group.ensures.found

pub unread_piece-returns-then-is_at-clause-only : goal.unread_piece-returns-then-is_at-clause-only
unread_piece-returns-then-is_at-clause-only t c =
    finds_given c.unread_group.ensures.only
    (λ n next ts h s k. (unread_bracketed n next ts h (k ∙ c.if-is_at.ensures.yes), s))

pub unread_piece-returns-clause-found : goal.unread_piece-returns-clause-found
unread_piece-returns-clause-found t c = unread_plain c.args.left c.skip.ensures.taken c.requires c.if-is_at.ensures.no

pub unread_piece-returns-clause-only : goal.unread_piece-returns-clause-only
unread_piece-returns-clause-only t c =
    finds_given (finds_ok _ (finds_token c.skip.ensures.taken))
    (λ n next ts h s k. (unread_token n next ts h k c.if-is_at.ensures.no, refl))

pub unread_group-returns-then-left-eq0-clause-only : goal.unread_group-returns-then-left-eq0-clause-only
unread_group-returns-then-left-eq0-clause-only t c = finds_deep c.no_room.ensures.deep c.if-left-eq0.true bracketed_some

pub unread_group-returns-in_err-expect-clause-only : goal.unread_group-returns-in_err-expect-clause-only
unread_group-returns-in_err-expect-clause-only t c =
    finds_given (finds_inside c.if-left-eq0.false
    (finds_fails (c.in_err-expect.ensures.only _) c.from_residual.ensures.1 follows_any))
    (λ n next ts h s k. (bracketed_inside n next ts h (k ∙ c.requires), s))

pub unread_group-returns-in_err-unread-clause-only : goal.unread_group-returns-in_err-unread-clause-only
unread_group-returns-in_err-unread-clause-only t c =
    finds_given (finds_inside c.if-left-eq0.false
    (finds_then (c.in_ok-expect.ensures.only _)
    (finds_fails c.in_err-unread.ensures.only c.from_residual-in_err-unread.ensures.1 (follows_token refl))
    follows_any)) (λ n next ts h s k. (bracketed_inside n next ts h (k ∙ c.requires), s))

pub unread_group-returns-in_err-expect-2-clause-only : goal.unread_group-returns-in_err-expect-2-clause-only
unread_group-returns-in_err-expect-2-clause-only t c =
    finds_given (finds_inside c.if-left-eq0.false
    (finds_then (c.in_ok-expect.ensures.only _)
    (finds_then c.in_ok-unread.ensures.only
    (finds_err (c.in_err-expect-2.ensures.only _) c.from_residual-in_err-expect-2.ensures.1) (follows_token refl))
    follows_any)) (λ n next ts h s k. (bracketed_inside n next ts h (k ∙ c.requires), s))

pub unread_group-returns-clause-found : goal.unread_group-returns-clause-found
unread_group-returns-clause-found t c =
    spans_map (spans_then (spans_expected c.in_ok-expect.ensures.found)
    (spans_then c.in_ok-unread.ensures.found (spans_expected c.in_ok-expect-2.ensures.found)))
    (bracketed_in c.args.left c.if-left-eq0.false)

pub unread_group-returns-clause-only : goal.unread_group-returns-clause-only
unread_group-returns-clause-only t c =
    finds_given (finds_inside c.if-left-eq0.false
    (finds_then (c.in_ok-expect.ensures.only _)
    (finds_then c.in_ok-unread.ensures.only (finds_ok _ (c.in_ok-expect-2.ensures.only _)) (follows_token refl))
    follows_any)) (λ n next ts h s k. (bracketed_inside n next ts h (k ∙ c.requires), s))

pub unread-returns-in_err-unread_piece-clause-stuck : goal.unread-returns-in_err-unread_piece-clause-stuck
unread-returns-in_err-unread_piece-clause-stuck t c =
    halts_err _ _ c.from_residual.ensures.1
    (refuses_turn (passes c.loop-parser.invariant.0 (λ m l. turns_unread _ m l)) c.in_err-unread_piece.ensures.stuck)

pub unread_piece-returns-then-is_at-clause-stuck : goal.unread_piece-returns-then-is_at-clause-stuck
unread_piece-returns-then-is_at-clause-stuck t c =
    halts_over _ c.unread_group.ensures.stuck (λ e r. refuses_map r (λ m next ts h. inr h))

pub unread_group-returns-then-left-eq0-clause-stuck : goal.unread_group-returns-then-left-eq0-clause-stuck
unread_group-returns-then-left-eq0-clause-stuck t c =
    refuses_deep c.no_room.result (is_sign OPEN_PARENTHESIS) c.no_room.ensures.deep
    (ap (is_sign OPEN_PARENTHESIS) c.requires) refl c.if-left-eq0.true some_bracketed (bracketed_at 2)

pub unread_group-returns-in_err-expect-clause-stuck : goal.unread_group-returns-in_err-expect-clause-stuck
unread_group-returns-in_err-expect-clause-stuck t c =
    halts_err _ _ c.from_residual.ensures.1
    (refuses_inside c.if-left-eq0.false
    (refuses_fails (c.in_err-expect.ensures.stuck _) (λ m. some_unread_end {A = unread_tokens m})) (λ m next ts h. h))

pub unread_group-returns-in_err-unread-clause-stuck : goal.unread_group-returns-in_err-unread-clause-stuck
unread_group-returns-in_err-unread-clause-stuck t c =
    halts_err _ _ c.from_residual-in_err-unread.ensures.1
    (refuses_inside c.if-left-eq0.false
    (refuses_then (passes_expected c.in_ok-expect.ensures.found)
    (refuses_fails c.in_err-unread.ensures.stuck (λ m. begins_token (Sign CLOSE_PARENTHESIS)))) (λ m next ts h. h))

pub unread_group-returns-in_err-expect-2-clause-stuck : goal.unread_group-returns-in_err-expect-2-clause-stuck
unread_group-returns-in_err-expect-2-clause-stuck t c =
    halts_err _ _ c.from_residual-in_err-expect-2.ensures.1
    (refuses_inside c.if-left-eq0.false
    (refuses_then (passes_expected c.in_ok-expect.ensures.found)
    (refuses_then (passes c.in_ok-unread.ensures.found (λ m l. turns_unread _ m l))
    (c.in_err-expect-2.ensures.stuck _))) (λ m next ts h. h))

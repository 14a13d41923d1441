use Rattle.std.proofs.Common.{sym, ap, ◌∙◌}
use Rattle.ar_grammar.specs.Results.{goes_kept}
use Rattle.expression_grammar.proofs.Finding.{finds_then, finds_fails, finds_err, finds_ok, finds_syntax, follows_any}
use Rattle.ar_grammar.proofs.UnreadParts.{kept_first, kept_made}
use Rattle.ar_grammar.proofs.unread.kept.Goals as goal
use Rattle.expression_grammar.proofs.Standing.{halts_err, refuses_fails, refuses_then, refuses_here, passes, begins_no_more}
use Rattle.ar_grammar.proofs.UnreadParts.{turns_kept_piece, some_kept}
use Rattle.std.proofs.Common.{refl}
use Rattle.expression_grammar.specs.declared.lexeme.Refusal.TheVariants.{Syntax}

pub returns-then-not-is_at_kept-clause-only : goal.returns-then-not-is_at_kept-clause-only
returns-then-not-is_at_kept-clause-only c =
    finds_syntax (λ n next ts h s k. kept_first n next ts h (ap goes_kept k ∙ sym c.if-not-is_at_kept.ensures))

pub returns-in_err-kept_piece-clause-only : goal.returns-in_err-kept_piece-clause-only
returns-in_err-kept_piece-clause-only c =
    finds_fails c.in_err-kept_piece.ensures.only c.from_residual.ensures.1 follows_any

pub returns-in_err-more_kept-clause-only : goal.returns-in_err-more_kept-clause-only
returns-in_err-more_kept-clause-only c =
    finds_then c.in_ok-kept_piece.ensures.only
    (finds_err c.in_err-more_kept.ensures.only c.from_residual-in_err-more_kept.ensures.1) follows_any

pub returns-clause-found : goal.returns-clause-found
returns-clause-found c = kept_made c.args.left _ c.in_ok-kept_piece.ensures.found c.in_ok-more_kept.ensures.found
    c.span_since.ensures

pub returns-clause-only : goal.returns-clause-only
returns-clause-only c = finds_then c.in_ok-kept_piece.ensures.only (finds_ok _ c.in_ok-more_kept.ensures.only)
    follows_any

pub returns-then-not-is_at_kept-clause-stuck : goal.returns-then-not-is_at_kept-clause-stuck
returns-then-not-is_at_kept-clause-stuck c = refuses_here Syntax refl some_kept

pub returns-in_err-kept_piece-clause-stuck : goal.returns-in_err-kept_piece-clause-stuck
returns-in_err-kept_piece-clause-stuck c =
    halts_err _ _ c.from_residual.ensures.1 (refuses_fails c.in_err-kept_piece.ensures.stuck (λ m. begins_no_more))

pub returns-in_err-more_kept-clause-stuck : goal.returns-in_err-more_kept-clause-stuck
returns-in_err-more_kept-clause-stuck c =
    halts_err _ _ c.from_residual-in_err-more_kept.ensures.1
    (refuses_then (passes c.in_ok-kept_piece.ensures.found (λ m l. turns_kept_piece _ m l))
    c.in_err-more_kept.ensures.stuck)

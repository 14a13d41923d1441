use Rattle.std.proofs.Common.{sym, ap, ◌∙◌}
use Rattle.ar_grammar.specs.Members.{kept_piece}
use Rattle.expression_grammar.specs.Results.{first_token_kind}
use Rattle.ar_grammar.specs.Results.{goes_kept}
use Rattle.expression_grammar.proofs.Finding.{loops_stop, loops_fail, loops_next, follows_any}
use Rattle.ar_grammar.proofs.Finding.{many_push}
use Rattle.ar_grammar.proofs.UnreadParts.{kept_open, kept_over}
use Rattle.ar_grammar.proofs.unread.more_kept.Goals as goal
use Rattle.expression_grammar.proofs.Standing.{halts_err, refuses_turn, passes}
use Rattle.ar_grammar.proofs.UnreadParts.{turns_many, turns_kept_piece}

pub returns-in_err-kept_piece-clause-only : goal.returns-in_err-kept_piece-clause-only
returns-in_err-kept_piece-clause-only c =
    loops_fail c.loop-parser.invariant.1 (kept_open (first_token_kind c.loop-parser.parser.rest.now) (sym c.loop-parser-test.ensures))
    c.in_err-kept_piece.ensures.only c.from_residual.ensures.1 follows_any

pub loop-parser-preserved : goal.loop-parser-preserved
loop-parser-preserved c = (
  many_push (kept_piece c.args.left) c.loop-parser.invariant.0 c.in_ok-kept_piece.ensures.found,
  loops_next c.loop-parser.invariant.1 (kept_open (first_token_kind c.loop-parser.parser.rest.now) (sym c.loop-parser-test.ensures))
      c.in_ok-kept_piece.ensures.only follows_any,
)

pub returns-clause-only : goal.returns-clause-only
returns-clause-only c = loops_stop c.loop-parser.invariant.1
    (λ n next ts h k. kept_over n next ts h (ap goes_kept k ∙ sym c.loop-parser-test.ensures))

pub returns-in_err-kept_piece-clause-stuck : goal.returns-in_err-kept_piece-clause-stuck
returns-in_err-kept_piece-clause-stuck c =
    halts_err _ _ c.from_residual.ensures.1
    (refuses_turn (passes c.loop-parser.invariant.0 (λ m l. turns_many (turns_kept_piece _ m l)))
    c.in_err-kept_piece.ensures.stuck)

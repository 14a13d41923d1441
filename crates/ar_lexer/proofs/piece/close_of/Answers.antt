use Rattle.std.proofs.Common.{arith}
use Rattle.ar_lexer.proofs.PieceLemmas.{closes_first, not_closed}
use Rattle.ar_lexer.proofs.piece.close_of.Goals as goal

pub returns-then-bytes-n-eq47-clause-found : goal.returns-then-bytes-n-eq47-clause-found
returns-then-bytes-n-eq47-clause-found c =
    closes_first _ _ c.loop-n-test.true c.if-bytes-n-eq42.true c.if-bytes-n-eq47.true c.loop-n.invariant.not_closed

pub returns-clause-none : goal.returns-clause-none
returns-clause-none c = not_closed _ c.loop-n.n (omega (arith, c.loop-n-test.false)) c.loop-n.invariant.not_closed

use Rattle.std.proofs.Common.{sym, arith, ap, not}
use Rattle.std.proofs.lemmas.List.Sums.{prefix_len_is}
use Rattle.ar_lexer.specs.Tokens.{is_line_feed}
use Rattle.ar_lexer.proofs.runs.line_len.Goals as goal

pub returns-else-bytes-n-ne10-clause-value : goal.returns-else-bytes-n-ne10-clause-value
returns-else-bytes-n-ne10-clause-value c =
    sym (prefix_len_is (λ b. not (is_line_feed b)) _ c.loop-n.n 0 c.loop-n.invariant.0 c.loop-n.invariant.1
    (λ within. ap (λ b. not (is_line_feed b)) c.if-bytes-n-ne10.false))

pub returns-after-loop-n-clause-value : goal.returns-after-loop-n-clause-value
returns-after-loop-n-clause-value c =
    sym (prefix_len_is (λ b. not (is_line_feed b)) _ c.loop-n.n 0 c.loop-n.invariant.0 c.loop-n.invariant.1
    (λ within. absurd (omega (arith, c.loop-n-test.false))))

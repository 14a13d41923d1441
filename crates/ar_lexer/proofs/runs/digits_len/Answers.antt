use Rattle.std.proofs.Common.{sym, arith}
use Rattle.std.proofs.lemmas.List.Sums.{prefix_len_is}
use Rattle.std.specs.Char.{is_ascii_digit}
use Rattle.ar_lexer.proofs.runs.digits_len.Goals as goal

pub returns-else-is_ascii_digit-clause-value : goal.returns-else-is_ascii_digit-clause-value
returns-else-is_ascii_digit-clause-value c =
    sym (prefix_len_is is_ascii_digit _ c.loop-n.n 0 c.loop-n.invariant.0 c.loop-n.invariant.1
    (λ within. sym c.if-is_ascii_digit.ensures.value))

pub returns-after-loop-n-clause-value : goal.returns-after-loop-n-clause-value
returns-after-loop-n-clause-value c =
    sym (prefix_len_is is_ascii_digit _ c.loop-n.n 0 c.loop-n.invariant.0 c.loop-n.invariant.1
    (λ within. absurd (omega (arith, c.loop-n-test.false))))

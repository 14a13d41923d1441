use Rattle.std.proofs.Common.{sym, arith}
use Rattle.std.proofs.lemmas.List.Sums.{prefix_len_is}
use Rattle.ar_lexer.specs.Spelling.{is_word_byte}
use Rattle.ar_lexer.proofs.runs.word_len.Goals as goal

pub returns-else-is_word_byte-clause-value : goal.returns-else-is_word_byte-clause-value
returns-else-is_word_byte-clause-value c =
    sym (prefix_len_is is_word_byte _ c.loop-n.n 0 c.loop-n.invariant.0 c.loop-n.invariant.1
    (λ within. sym c.if-is_word_byte.ensures))

pub returns-after-loop-n-clause-value : goal.returns-after-loop-n-clause-value
returns-after-loop-n-clause-value c =
    sym (prefix_len_is is_word_byte _ c.loop-n.n 0 c.loop-n.invariant.0 c.loop-n.invariant.1
    (λ within. absurd (omega (arith, c.loop-n-test.false))))

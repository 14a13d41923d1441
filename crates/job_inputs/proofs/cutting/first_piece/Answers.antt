use Rattle.std.proofs.Common.{arith}
use Rattle.job_inputs.specs.Lines.{is_mark}
use Rattle.job_inputs.proofs.PieceLemmas.{line_first, one_piece}
use Rattle.job_inputs.proofs.cutting.first_piece.Goals as goal

pub returns-then-len-bytes : goal.returns-then-len-bytes
returns-then-len-bytes c = line_first (is_mark c.args.mark) c.args.bytes.now c.piece_len-len.result
    c.piece_len-len.ensures.value c.if-len-bytes.true

pub returns-else-len-bytes : goal.returns-else-len-bytes
returns-else-len-bytes c = one_piece (is_mark c.args.mark) c.args.bytes.now
    (omega (arith, c.piece_len-len.ensures.value, c.if-len-bytes.false))

use Rattle.std.proofs.Common.{sym, arith}
use Rattle.std.proofs.lemmas.List.Sums.{suffix_len_is}
use Rattle.job_inputs.specs.Lines.{is_space_or_tab}
use Rattle.job_inputs.proofs.cut_lines.words_len.Goals as goal

pub returns-else-is_space_or_tab-clause-value : goal.returns-else-is_space_or_tab-clause-value
returns-else-is_space_or_tab-clause-value c =
    let e = suffix_len_is is_space_or_tab c.args.bytes.now c.loop-n.n 0 c.loop-n.invariant.0 c.loop-n.invariant.1
    (λ some. sym c.if-is_space_or_tab.ensures) in
    omega (arith, e, c.loop-n.invariant.0)

pub returns-after-loop-n-clause-value : goal.returns-after-loop-n-clause-value
returns-after-loop-n-clause-value c =
    let e = suffix_len_is is_space_or_tab c.args.bytes.now c.loop-n.n 0 c.loop-n.invariant.0 c.loop-n.invariant.1
    (λ some. absurd (omega (arith, some, c.loop-n-test.false))) in
    omega (arith, e, c.loop-n.invariant.0)

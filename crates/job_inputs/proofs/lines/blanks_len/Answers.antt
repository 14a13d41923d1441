use Rattle.std.proofs.Common.{sym, arith}
use Rattle.std.proofs.lemmas.List.Sums.{prefix_len_is}
use Rattle.job_inputs.specs.Lines.{is_space_or_tab}
use Rattle.job_inputs.proofs.lines.blanks_len.Goals as goal

pub returns-else-is_space_or_tab-clause-value : goal.returns-else-is_space_or_tab-clause-value
returns-else-is_space_or_tab-clause-value c =
    sym (prefix_len_is is_space_or_tab _ c.loop-n.n 0 c.loop-n.invariant.0 c.loop-n.invariant.1
    (λ within. sym c.if-is_space_or_tab.ensures))

pub returns-after-loop-n-clause-value : goal.returns-after-loop-n-clause-value
returns-after-loop-n-clause-value c =
    sym (prefix_len_is is_space_or_tab _ c.loop-n.n 0 c.loop-n.invariant.0 c.loop-n.invariant.1
    (λ within. absurd (omega (arith, c.loop-n-test.false))))

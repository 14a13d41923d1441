use Rattle.std.proofs.Common.{sym, arith, ap, not, ◌∙◌}
use Rattle.std.proofs.lemmas.List.Sums.{prefix_len_is}
use Rattle.job_inputs.specs.Lines.{is_space_or_tab}
use Rattle.job_inputs.proofs.lines.word_len.Goals as goal

pub returns-else-not-is_space_or_tab-clause-value : goal.returns-else-not-is_space_or_tab-clause-value
returns-else-not-is_space_or_tab-clause-value c =
    sym (prefix_len_is (λ b. not (is_space_or_tab b)) _ c.loop-n.n 0 c.loop-n.invariant.0 c.loop-n.invariant.1
    (λ within. ap not (sym c.is_space_or_tab.ensures ∙ c.if-not-is_space_or_tab.false)))

pub returns-after-loop-n-clause-value : goal.returns-after-loop-n-clause-value
returns-after-loop-n-clause-value c =
    sym (prefix_len_is (λ b. not (is_space_or_tab b)) _ c.loop-n.n 0 c.loop-n.invariant.0 c.loop-n.invariant.1
    (λ within. absurd (omega (arith, c.loop-n-test.false))))

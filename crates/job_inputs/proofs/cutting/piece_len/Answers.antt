use Rattle.std.proofs.Common.{◌≡◌, ℕ, true, sym, arith, ap, not}
use Rattle.std.proofs.lemmas.Bool.Decides.{nat_tests}
use Rattle.std.proofs.lemmas.List.Sums.{prefix_len_is}
use Rattle.job_inputs.specs.Lines.{is_mark}
use Rattle.job_inputs.proofs.cutting.piece_len.Goals as goal

marked : (m b : ℕ) → b ≡ m → is_mark m b ≡ true
marked m b e = grind (arith, nat_tests, e)

pub returns-else-bytes-n-clause-value : goal.returns-else-bytes-n-clause-value
returns-else-bytes-n-clause-value c =
    sym (prefix_len_is (λ b. not (is_mark c.args.mark b)) _ c.loop-n.n 0 c.loop-n.invariant.0 c.loop-n.invariant.1
    (λ within. ap not (marked c.args.mark _ c.if-bytes-n.false)))

pub returns-after-loop-n-clause-value : goal.returns-after-loop-n-clause-value
returns-after-loop-n-clause-value c =
    sym (prefix_len_is (λ b. not (is_mark c.args.mark b)) _ c.loop-n.n 0 c.loop-n.invariant.0 c.loop-n.invariant.1
    (λ within. absurd (omega (arith, c.loop-n-test.false))))

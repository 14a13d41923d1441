use Rattle.std.proofs.Common.{◌≡◌, drop}
use Rattle.check_text.specs.Printed.{all_verdicts_good}
use Rattle.check_text.proofs.printing.all_good.Given as goal

-- the verdicts so far are good
abbrev pub invariant-loop-verdict : goal.invariant-loop-verdict
invariant-loop-verdict l = all_verdicts_good l.verdicts ≡ all_verdicts_good (drop l.verdict-index l.verdicts)

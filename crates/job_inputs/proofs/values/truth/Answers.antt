use Rattle.std.proofs.Common.{true, false}
use Rattle.job_inputs.specs.Wanting as w
use Rattle.job_inputs.proofs.values.truth.Goals as goal

pub returns-in-true : goal.returns-in-true
returns-in-true c = λ symbols. w.truth {b = true} c.in-true.is

pub returns-in-false : goal.returns-in-false
returns-in-false c = λ symbols. w.truth {b = false} c.in-false.is

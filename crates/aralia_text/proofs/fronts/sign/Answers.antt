use Rattle.aralia_text.proofs.Operands.{no_minus}
use Rattle.aralia_text.proofs.fronts.sign.Goals as goal

pub returns-in-Err-clause-plain : goal.returns-in-Err-clause-plain
returns-in-Err-clause-plain c = λ plain. no_minus _ _ c.in-Err.ensures.stuck

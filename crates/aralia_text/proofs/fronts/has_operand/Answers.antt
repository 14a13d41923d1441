use Rattle.std.proofs.Common.{arith}
use Rattle.aralia_text.proofs.Operands.{gate_there, event_there, nothing_there}
use Rattle.aralia_text.proofs.fronts.has_operand.Goals as goal

pub returns-then-gates-gt0-clause-yes : goal.returns-then-gates-gt0-clause-yes
returns-then-gates-gt0-clause-yes c = λ h. gate_there _ _ (grind (arith, h))

pub returns-else-gates-gt0-clause-yes : goal.returns-else-gates-gt0-clause-yes
returns-else-gates-gt0-clause-yes c = λ h. event_there _ _ _ c.event_part.ensures (grind (arith, h))

pub returns-else-gates-gt0-clause-no : goal.returns-else-gates-gt0-clause-no
returns-else-gates-gt0-clause-no c = λ h. nothing_there _ _ _ c.event_part.ensures (let f = c.if-gates-gt0.false in λ more. grind (arith, f, more)) (λ more. grind (arith, h, more))

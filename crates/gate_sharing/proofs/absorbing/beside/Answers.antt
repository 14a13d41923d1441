use Rattle.std.proofs.Common.{◌++◌}
use Rattle.eq_core.specs.Views.{operand_of}
use Rattle.gate_sharing.specs.Literals.{literal_operands}
use Rattle.gate_sharing.proofs.Absorbings.{beside_known, beside_denied}
use Rattle.gate_sharing.proofs.absorbing.beside.Goals as goal

pub returns-then-has : goal.returns-then-has
returns-then-has c =
    beside_known (literal_operands (c.args.before.now ++ c.args.after.now)) (operand_of c.args.operand) (c.has.ensures c.if-has.true)

pub returns-then-has-2 : goal.returns-then-has-2
returns-then-has-2 c =
    beside_denied (literal_operands (c.args.before.now ++ c.args.after.now)) (operand_of c.args.operand)
    (operand_of c.negated.result) c.negated.ensures (c.has-2.ensures c.if-has-2.true)

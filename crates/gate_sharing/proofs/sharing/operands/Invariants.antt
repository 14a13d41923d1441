use Rattle.std.proofs.Common.{◌≡◌, map, take}
use Rattle.eq_core.specs.Views.{all_needed, operand_of}
use Rattle.gate_sharing.specs.declared.literals.Literal.{Literal}
use Rattle.gate_sharing.specs.Images.{with_sign}
use Rattle.gate_sharing.specs.Literals.{literal_of}
use Rattle.gate_sharing.proofs.sharing.operands.Given as goal

abbrev pub invariant-loop-literal : goal.invariant-loop-literal
invariant-loop-literal l =
    map operand_of l.operands.items
    ≡ map (λ (x : Literal). with_sign (all_needed l.joint) (literal_of x)) (take l.literal-index l.literals)

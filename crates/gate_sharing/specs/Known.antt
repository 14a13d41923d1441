-- What is known of shared gates.
use Rattle.std.specs.Prelude.{◌≡◌, Bool, List, Some}
use Rattle.std.specs.Map.{lookup}
use Rattle.std.specs.Cmp.Lexicographic.{pointwise}
use Rattle.eq_core.specs.Gates.{Gate}
use Rattle.eq_core.specs.Ordered.{AreOrdered}
use Rattle.eq_core.specs.Views.{operand_of}
use Rattle.eq_core.specs.declared.joints.Operand.{Operand}
use Rattle.gate_sharing.specs.contracts.literals.LiteralPartialEq.TheImpl as literal
use Rattle.gate_sharing.specs.declared.literals.Literals.{Literals}
use Rattle.gate_sharing.specs.Literals.{literal_operands}
use Rattle.gate_sharing.specs.Sharing.{IsAllOf}

-- whether two lists of literals are one
abbrev pub same_literals : Literals → Literals → Bool
same_literals a b = pointwise literal.eq-value.it a.all.items b.all.items

-- the gates are in order, and each operand that is known of literals is true exactly where all of them are
pub record IsSoundSharing (gates : List Gate) (known : List (Literals × Operand)) : Type 0 where
  pub ordered : AreOrdered gates
  pub each : (k : Literals) (o : Operand) → lookup (same_literals k) known ≡ Some o
      → IsAllOf gates (operand_of o) (literal_operands k.all.items)

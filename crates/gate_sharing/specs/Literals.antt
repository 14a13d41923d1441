-- Operands that are all needed, and the literals that are enough for them.
use Rattle.std.specs.Prelude.{◌≡◌, ℕ, Bool, true, false, List, map}
use Rattle.ar_base.specs.Lists.{IsOneOf}
use Rattle.eq_core.specs.Gates.{Operand, EventIs, GateIs}
use Rattle.eq_core.specs.Values.{joint_at}
use Rattle.gate_sharing.specs.declared.literals.Literal.{Literal}
use Rattle.gate_sharing.specs.declared.literals.Literal.TheVariants.{Event, Gate}

-- a literal as the definitions see it
abbrev pub literal_of : Literal → Operand
literal_of (Event e sign) = EventIs e sign
literal_of (Gate g sign) = GateIs g sign

-- literals as operands
abbrev pub literal_operands : List Literal → List Operand
literal_operands ls = map literal_of ls

-- ps are some of the operands, and all of them are true exactly where all of the operands are
pub record AreEnough (os ps : List Operand) : Type 0 where
  pub same : (set : List ℕ) (values : List Bool) → joint_at true set values ps ≡ joint_at true set values os
  pub within : (o : Operand) → IsOneOf ps o → IsOneOf os o

-- nowhere are all of the operands true
pub record AreNeverAll (os : List Operand) : Type 0 where
  pub never : (set : List ℕ) (values : List Bool) → joint_at true set values os ≡ false

-- Operands beside others that are needed with them.
use Rattle.std.specs.Prelude.{◌≡◌, ◌⊎◌, ℕ, Bool, true, false, List, length, map, Option, Some, None, Result, IfOk, Vec}
use Rattle.std.specs.Global.{Global}
use Rattle.ar_base.specs.Lists.{IsOneOf}
use Rattle.gate_sharing.specs.declared.unshared.Unshared.{Unshared}
use Rattle.eq_core.specs.Gates.{Operand, Always, Never, Gate}
use Rattle.eq_core.specs.Ordered.{AreBelow}
use Rattle.eq_core.specs.Values.{operand_at, joint_at, values_at, value_at}
use Rattle.eq_core.specs.ValuesInside.{IsBelow, GainsGates}
use Rattle.eq_core.specs.Views.{operand_of}
use Rattle.eq_core.specs.declared.joints.Operand as code
use Rattle.gate_sharing.specs.declared.literals.Literal.{Literal}
use Rattle.gate_sharing.specs.Literals.{literal_operands}
use Rattle.gate_sharing.specs.Images.{with_sign}

-- what is all needed for a gate of And, or for the opposite of one of Or
abbrev pub needed_parts : Gate → List Operand
needed_parts gate = map (with_sign gate.both) gate.operands

-- r is always true, never true or the operand itself, and has its value wherever all of the others are true
pub record IsBeside (others : List Operand) (o r : Operand) : Type 0 where
  pub same : (set : List ℕ) (values : List Bool) → joint_at true set values others ≡ true
      → operand_at set values r ≡ operand_at set values o
  pub among : (r ≡ Always) ⊎ ((r ≡ Never) ⊎ (r ≡ o))

-- ps are some of the operands, and wherever all of the others are true, all of them are true exactly where all of the operands
-- are
pub record AreEnoughBeside (others os ps : List Operand) : Type 0 where
  pub same : (set : List ℕ) (values : List Bool) → joint_at true set values others ≡ true
      → joint_at true set values ps ≡ joint_at true set values os
  pub within : (o : Operand) → IsOneOf ps o → IsOneOf os o

-- nowhere where all of the others are true are all of the operands
pub record AreNeverBeside (others os : List Operand) : Type 0 where
  pub never : (set : List ℕ) (values : List Bool) → joint_at true set values others ≡ true
      → joint_at true set values os ≡ false

-- the gates came to be by adding some behind the first ones, and the operand that was made has the value of o wherever all of
-- the others are true
pub record AddsBeside (others : List Operand) (o : Operand) (old new : List Gate) (r : Result code.Operand Unshared)
    : Type 0 where
  pub grows : GainsGates old new
  pub below : IfOk r (λ p. IsBelow (length new) (operand_of p))
  pub same : IfOk r (λ p. (set : List ℕ) → joint_at true set (values_at set new) others ≡ true
      → value_at new (operand_of p) set ≡ value_at new o set)

-- what is left of operands: the gates came to be by adding some behind the first ones, and all that is left is true exactly where
-- all of the operands are; nothing is left to be found where they are never all true
abbrev pub LeavesOf : List Operand → List Gate → Option (Vec Literal Global) → Type 0
LeavesOf os new None = (set : List ℕ) → joint_at true set (values_at set new) os ≡ false
LeavesOf os new (Some ls) = AreBelow (length new) (literal_operands ls.items)
    × ((set : List ℕ) → joint_at true set (values_at set new) (literal_operands ls.items) ≡ joint_at true set (values_at set new) os)

pub record Absorbs (os : List Operand) (old new : List Gate) (r : Result (Option (Vec Literal Global)) Unshared) : Type 0 where
  pub grows : GainsGates old new
  pub left : IfOk r (λ found. LeavesOf os new found)

-- Gates that are shared: what is known of the operands that were made.
use Rattle.std.specs.Prelude.{◌≡◌, ℕ, true, List, length, Result, IfOk}
use Rattle.gate_sharing.specs.declared.unshared.Unshared.{Unshared}
use Rattle.eq_core.specs.Gates as g
use Rattle.eq_core.specs.Ordered.{AreBelow}
use Rattle.eq_core.specs.Values.{joint_at, values_at, value_at}
use Rattle.eq_core.specs.ValuesInside.{IsBelow, GainsGates}
use Rattle.eq_core.specs.Views.{operand_of}
use Rattle.eq_core.specs.declared.joints.Operand.{Operand}

-- the operand is true at each set exactly where all of the operands os are
pub record IsAllOf (gates : List g.Gate) (o : g.Operand) (os : List g.Operand) : Type 0 where
  pub below : IsBelow (length gates) o
  pub operands : AreBelow (length gates) os
  pub same : (set : List ℕ) → value_at gates o set ≡ joint_at true set (values_at set gates) os

-- the gates came to be by adding some behind the first ones, and the operand that was made is true exactly where all of the
-- operands os are
pub record AddsGates (os : List g.Operand) (old new : List g.Gate) (r : Result Operand Unshared) : Type 0 where
  pub grows : GainsGates old new
  pub made : IfOk r (λ o. IsAllOf new (operand_of o) os)

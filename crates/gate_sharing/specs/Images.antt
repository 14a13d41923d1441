-- What stands for the gates and operands of a table in the simplified one.
use Rattle.std.specs.Prelude.{◌≡◌, ◌⊎◌, ℕ, Bool, true, false, List, length, map, slice_index_or, Result, IfOk}
use Rattle.ar_base.specs.Lists.{Stands}
use Rattle.gate_sharing.specs.declared.unshared.Unshared.{Unshared}
use Rattle.eq_core.specs.Gates.{Operand, Always, Never, EventIs, GateIs, Gate, Table, opposite}
use Rattle.eq_core.specs.Values.{signed, joint_at, values_at, value_at}
use Rattle.eq_core.specs.ValuesInside.{IsBelow, GainsGates}
use Rattle.eq_core.specs.Views.{operand_of}
use Rattle.eq_core.specs.declared.joints.Operand as code
use Rattle.eq_core.specs.Cones.{InGateCone}

-- the operand, or its opposite
abbrev pub with_sign : Bool → Operand → Operand
with_sign true o = o
with_sign false o = opposite o

-- what stands for an operand, where these stand for the first gates
abbrev pub image : List Operand → Operand → Operand
image images Always = Always
image images Never = Never
image images (EventIs e sign) = EventIs e sign
image images (GateIs g sign) = with_sign sign (slice_index_or images g Never)

-- what is all needed for a gate of And over these operands, or for the opposite of one of Or
abbrev pub needed_for : Bool → List Operand → List Operand → List Operand
needed_for both images os = map (λ o. with_sign both (image images o)) os

-- the conflict operand or the top operand rests on the gate
abbrev pub RestsOnGate : Table → ℕ → Type 0
RestsOnGate table n = InGateCone table.gates table.conflict n ⊎ InGateCone table.gates table.top n

-- at every set the operand has the value of the gate
pub record IsGateImage (old new : List Gate) (n : ℕ) (o : Operand) : Type 0 where
  pub below : IsBelow (length new) o
  pub same : (set : List ℕ) → value_at new o set ≡ value_at old (GateIs n true) set

-- each needed gate has its image
pub record AreImages (table : Table) (new : List Gate) (images : List Operand) : Type 0 where
  pub each : (n : ℕ) (o : Operand) → Stands images n o → RestsOnGate table n → IsGateImage table.gates new n o

-- the gates came to be by adding some behind the first ones, and where it is needed the operand that was made has
-- the value of a joint for which these operands are all needed
pub record AddsImage (needed both : Bool) (os : List Operand) (old new : List Gate) (r : Result code.Operand Unshared)
    : Type 0 where
  pub grows : GainsGates old new
  pub below : IfOk r (λ o. IsBelow (length new) (operand_of o))
  pub made : IfOk r (λ o. needed ≡ true → (set : List ℕ)
      → value_at new (operand_of o) set ≡ signed both (joint_at true set (values_at set new) os))

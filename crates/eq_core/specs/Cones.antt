-- The gates that an operand rests on.
use Rattle.std.specs.Prelude.{◌≡◌, ℕ, Bool, List}
use Rattle.ar_base.specs.Lists.{Stands, IsOneOf}
use Rattle.eq_core.specs.Gates.{Operand, GateIs, Gate}

-- the gate is the operand's, or one that an operand of such a gate names
pub data InGateCone (gates : List Gate) (o : Operand) : ℕ → Type 0 where
  own : {g : ℕ} {sign : Bool} → o ≡ GateIs g sign → InGateCone gates o g
  named : {g h : ℕ} {gate : Gate} {sign : Bool} → InGateCone gates o g → Stands gates g gate
      → IsOneOf gate.operands (GateIs h sign) → InGateCone gates o h

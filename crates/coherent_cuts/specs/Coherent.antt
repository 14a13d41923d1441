-- Operands that rest on no negation.
use Rattle.std.specs.Prelude.{◌≡◌, ℕ, true, List}
use Rattle.ar_base.specs.Lists.{Stands, IsOneOf}
use Rattle.eq_core.specs.Gates.{Operand, Always, Never, EventIs, GateIs, Gate}
use Rattle.eq_core.specs.Cones.{InGateCone}

-- the operand is not negated
abbrev pub IsPlain : Operand → Type 0
IsPlain Always = Unit {0}
IsPlain Never = Unit {0}
IsPlain (EventIs e sign) = sign ≡ true
IsPlain (GateIs g sign) = sign ≡ true

-- none of the operands is
pub record ArePlain (os : List Operand) : Type 0 where
  pub each : (o : Operand) → IsOneOf os o → IsPlain o

-- neither the operand nor an operand of a gate of its cone is negated
pub record IsCoherent (gates : List Gate) (o : Operand) : Type 0 where
  pub own : IsPlain o
  pub operands : (g : ℕ) (gate : Gate) → InGateCone gates o g → Stands gates g gate → ArePlain gate.operands

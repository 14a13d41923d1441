-- Marks of the gates of a cone.
use Rattle.std.specs.Prelude.{◌≡◌, ◌<◌, ◌⊎◌, ℕ, Bool, true, List, length}
use Rattle.ar_base.specs.Lists.{Stands, IsOneOf}
use Rattle.eq_core.specs.Gates.{Operand, GateIs, Gate}
use Rattle.eq_core.specs.Cones.{InGateCone}

-- a mark for each gate, true exactly for those of the operand's cone
pub record AreConeMarks (gates : List Gate) (o : Operand) (marks : List Bool) : Type 0 where
  pub long : length marks ≡ length gates
  pub sound : (g : ℕ) → Stands marks g true → InGateCone gates o g
  pub whole : (g : ℕ) → InGateCone gates o g → g < length gates → Stands marks g true

-- the gates that these operands name are marked, and those that were so before
pub record MarksOperands (os : List Operand) (old new : List Bool) : Type 0 where
  pub long : length new ≡ length old
  pub kept : (g : ℕ) → Stands old g true → Stands new g true
  pub sound : (g : ℕ) → Stands new g true → Stands old g true ⊎ ((sign : Bool) × IsOneOf os (GateIs g sign))
  pub whole : (g : ℕ) (sign : Bool) → IsOneOf os (GateIs g sign) → Stands new g true

-- What the drawing of gates keeps.
use Rattle.std.specs.Prelude.{◌≡◌, ◌<◌, ℕ, Bool, true, List, length}
use Rattle.ar_base.specs.Lists.{Stands, IsOneOf}
use Rattle.zdd_nodes.specs.Families.{Family}
use Rattle.zdd_nodes.specs.FamiliesInside.{IsInOrder}
use Rattle.zdd_nodes.specs.Nodes.{NodeId, Stored, family, IsFamilyNumber}
use Rattle.eq_core.specs.Gates.{Operand, GateIs, Gate}
use Rattle.eq_core.specs.Ordered.{AreOrdered}
use Rattle.eq_core.specs.Cones.{InGateCone}
use Rattle.gate_diagrams.specs.Needed.{family_at}

-- n is the number of the operand's family
pub record IsDrawn (all : Family) (gates : List Gate) (o : Operand) (s : Stored) (n : ℕ) : Type 0 where
  pub in_store : IsFamilyNumber s n
  pub is : family s n ≡ family_at all gates o

-- the table has the number of the family of the gate that the operand names
pub record IsGateTabled (all : Family) (gates : List Gate) (table : List NodeId) (s : Stored) (o : Operand) : Type 0 where
  pub in_table : (g : ℕ) (sign : Bool) → o ≡ GateIs g sign → g < length table
  pub drawn : (g : ℕ) (sign : Bool) (n : NodeId) → o ≡ GateIs g sign → Stands table g n
      → IsDrawn all gates (GateIs g true) s n.n

-- a gate of the cone can be drawn: the table has the families of the gates that its operands name
pub record IsGateReady (all : Family) (gates : List Gate) (o : Operand) (g : ℕ) (gate : Gate) (table : List NodeId)
    (s : Stored) : Type 0 where
  pub ordered : AreOrdered gates
  pub in_order : IsInOrder all
  pub cone : InGateCone gates o g
  pub stands : Stands gates g gate
  pub operands : (p : Operand) → IsOneOf gate.operands p → IsGateTabled all gates table s p

-- Diagrams against operands over events, at each set of events on paths.
use Rattle.std.specs.Prelude.{◌≡◌, ◌⊎◌, ℕ, suc, Bool, true, List, length}
use Rattle.ar_base.specs.Lists.{Stands, IsOneOf}
use Rattle.eq_core.specs.Gates.{Operand, GateIs, Gate}
use Rattle.eq_core.specs.Values.{joint_at, values_at, value_at}
use Rattle.mode_nodes.specs.Diagrams.{DiagramId, value, IsDiagramNumber}
use Rattle.mode_nodes.specs.Bounds.{Bounded, AreAffordable}
use Rattle.diagram_steps.specs.declared.trees.NumberedEdge.{NumberedEdge}
use Rattle.diagram_steps.specs.declared.trees.NumberedTree.{NumberedTree}
use Rattle.diagram_steps.specs.Trees.{edges_of}
use Rattle.mode_diagrams.specs.Trees.{IsOnPath, IsSetFrom}

-- the diagram agrees with the operand: at the modes of each set of events on paths, where they cost no more than is enough,
-- it has the operand's value at the set
pub record HasOperandValues (trees : List NumberedTree) (gates : List Gate) (o : Operand) (s : Bounded) (n : ℕ) : Type 0 where
  pub number : IsDiagramNumber s.store n
  pub same : (modes set : List ℕ) → IsSetFrom trees 0 modes set → AreAffordable s modes
      → value s.store modes n ≡ value_at gates o set

-- the same of a joint of operands
pub record AgreesJoint (trees : List NumberedTree) (gates : List Gate) (both : Bool) (os : List Operand) (s : Bounded)
    (n : ℕ) : Type 0 where
  pub number : IsDiagramNumber s.store n
  pub same : (modes set : List ℕ) → IsSetFrom trees 0 modes set → AreAffordable s modes
      → value s.store modes n ≡ joint_at both set (values_at set gates) os

-- the table has a diagram that agrees with the gate that the operand names
pub record IsOperandReady (trees : List NumberedTree) (gates : List Gate) (table : List DiagramId) (s : Bounded) (o : Operand)
    : Type 0 where
  pub gate : (g : ℕ) (sign : Bool) (n : DiagramId) → o ≡ GateIs g sign → Stands table g n
      → HasOperandValues trees gates (GateIs g true) s n.n

-- the same of each of these operands
pub record AreReady (trees : List NumberedTree) (gates : List Gate) (table : List DiagramId) (s : Bounded)
    (os : List Operand) : Type 0 where
  pub each : (o : Operand) → IsOneOf os o → IsOperandReady trees gates table s o

-- where the event is on the path to mode m the number is 1, else 0
abbrev pub IsPathTold : List NumberedEdge → ℕ → ℕ → DiagramId → Type 0
IsPathTold edges e m n = ((n.n ≡ 1) × IsOnPath edges e m) ⊎ ((n.n ≡ 0) × (IsOnPath edges e m → ⊥))

-- so many numbers, each told so of the mode at its place
pub record AreToldModes (tree : NumberedTree) (e : ℕ) (ns : List DiagramId) : Type 0 where
  pub long : length ns ≡ suc (length (edges_of tree))
  pub each : (m : ℕ) (n : DiagramId) → Stands ns m n → IsPathTold (edges_of tree) e m n

-- the number for the mode that an edge enters: 1 where the edge has the event, else that of the mode that it leaves
pub record IsToldAt (ns : List DiagramId) (edge : NumberedEdge) (e : ℕ) (n : DiagramId) : Type 0 where
  pub here : edge.event.n ≡ e → n.n ≡ 1
  pub above : (edge.event.n ≡ e → ⊥) → Stands ns edge.from n

-- the marked gates, of which each operand's gate is marked, and that of the root
pub record AreClosedMarks (gates : List Gate) (root : Operand) (marks : List Bool) : Type 0 where
  pub long : length marks ≡ length gates
  pub own : (g : ℕ) (sign : Bool) → root ≡ GateIs g sign → Stands marks g true
  pub operands : (g h : ℕ) (gate : Gate) (sign : Bool) → Stands marks g true → Stands gates g gate
      → IsOneOf gate.operands (GateIs h sign) → Stands marks h true

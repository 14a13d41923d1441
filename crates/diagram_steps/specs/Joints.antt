-- Diagrams that are made of others.
use Rattle.std.specs.Prelude.{◌≡◌, ℕ, Bool, true, false, cond, not, ◌&&◌, ◌||◌, List, [], ◌∷◌}
use Rattle.ar_base.specs.Lists.{Stands}
use Rattle.mode_nodes.specs.Diagrams.{DiagramId, StoredDiagrams, value, IsDiagramNumber}
use Rattle.mode_nodes.specs.Bounds.{Bounded, AreAffordable}

-- r is n, or its opposite where the sign is false, at the modes that cost no more than is enough
pub record IsSigned (s : Bounded) (n : ℕ) (sign : Bool) (t : StoredDiagrams) (r : ℕ) : Type 0 where
  pub number : IsDiagramNumber t r
  pub same : (modes : List ℕ) → AreAffordable s modes
      → value t modes r ≡ cond sign (value s.store modes n) (not (value s.store modes n))

-- the table has numbers of the store
pub record AreTabled (table : List DiagramId) (s : StoredDiagrams) : Type 0 where
  pub each : (g : ℕ) (n : DiagramId) → Stands table g n → IsDiagramNumber s n.n

-- whether all of these diagrams are true at the modes, or, where not all are needed, whether one is
abbrev pub joint_value : Bool → StoredDiagrams → List ℕ → List DiagramId → Bool
joint_value all s modes [] = all
joint_value true s modes (n ∷ ns) = value s modes n.n && joint_value true s modes ns
joint_value false s modes (n ∷ ns) = value s modes n.n || joint_value false s modes ns

-- r has these values of these diagrams, at the modes that cost no more than is enough
pub record IsDiagramJoint (all : Bool) (s : Bounded) (ns : List DiagramId) (t : StoredDiagrams) (r : ℕ) : Type 0 where
  pub number : IsDiagramNumber t r
  pub same : (modes : List ℕ) → AreAffordable s modes → value t modes r ≡ joint_value all s.store modes ns

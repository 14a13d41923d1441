-- The families that were made, and the numbers that were copied.
use Rattle.std.specs.Prelude.{◌≡◌, ◌⊎◌, ℕ, ◌+◌, Bool, true, ◌&&◌, eqb, List, length, Some}
use Rattle.std.specs.Map.{lookup}
use Rattle.ar_base.specs.Lists.{Stands}
use Rattle.zdd_nodes.specs.Nodes.{NodeId, Stored, family, IsFamilyNumber}
use Rattle.mode_nodes.specs.Bounds.{Bounded}
use Rattle.diagram_steps.specs.declared.trees.NumberedTree.{NumberedTree}
use Rattle.mode_diagrams.specs.declared.held.State.{State}
use Rattle.mode_diagrams.specs.Sets.{HasSets, with_most, IsTrueFrom}

-- whether two states are one
abbrev pub state_eq : State → State → Bool
state_eq a b = eqb a.place b.place && (eqb a.most b.most && eqb a.diagram.n b.diagram.n)

-- every state that is held was held before or is this one, with this number
pub record Remembers (k : State) (n : NodeId) (old new : List (State × NodeId)) : Type 0 where
  pub each : (q : State) (m : NodeId) → lookup (state_eq q) new ≡ Some m
      → (lookup (state_eq q) old ≡ Some m) ⊎ ((state_eq k q ≡ true) × (m ≡ n))

-- the family of a state has these sets, in the trees from its place on, by its diagram and by what is left at it
abbrev pub IsTrueIn : List NumberedTree → Bounded → State → List ℕ → Type 0
IsTrueIn trees s k set = IsTrueFrom trees k.place (with_most s k.most) k.diagram.n set

-- n is the number of the state's family
pub record IsStateFamily (trees : List NumberedTree) (s : Bounded) (made : Stored) (k : State) (n : ℕ) : Type 0 where
  pub in_store : IsFamilyNumber made n
  pub sets : HasSets (IsTrueIn trees s k) (family made n)

-- the same of each state that is held
pub record AreHeld (trees : List NumberedTree) (s : Bounded) (made : Stored) (entries : List (State × NodeId))
    : Type 0 where
  pub each : (k : State) (n : NodeId) → lookup (state_eq k) entries ≡ Some n → IsStateFamily trees s made k n.n

-- for each number of the first store that of the same family in the second, or 0 where it is not copied yet
pub record AreCopied (source made : Stored) (copies : List NodeId) : Type 0 where
  pub long : length copies ≡ length source.families + 2
  pub each : (k : ℕ) (n : NodeId) → Stands copies k n
      → (n.n ≡ 0) ⊎ (IsFamilyNumber made n.n × (family made n.n ≡ family source k))

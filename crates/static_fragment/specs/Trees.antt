-- The trees of the state variables of units that move.
use Rattle.std.specs.Prelude.{◌≡◌, ◌<◌, ℕ, Bool, true, List}
use Rattle.ar_base.specs.Lists.{Stands}
use Rattle.gts_core.specs.declared.system.Variable.{Variable}
use Rattle.gts_core.specs.declared.system.GtsParts.{GtsParts}
use Rattle.mode_trees.specs.declared.forests.ModeTree.{ModeTree}
use Rattle.mode_search.specs.declared.searching.Reach.{Reach}
use Rattle.mode_trees.specs.Below.{AreEdgesBelow}
use Rattle.static_fragment.specs.Units.{IsMovingState}

-- the tree of one of the first so many variables, a state variable of a unit that moves
pub record IsTreeAt (p : GtsParts) (moving : List Bool) (reaches : List Reach) (count : ℕ) (tree : ModeTree) : Type 0
  where
    pub below : tree.variable.n < count
    pub state : IsMovingState p moving tree.variable.n
    pub first : tree.first ≡ state.variable.value
    pub reach : Reach
    pub stands : Stands reaches tree.variable.n reach
    pub edges : AreEdgesBelow reach.edges.items tree.first 0 tree.edges.items

-- the trees of those of the first so many variables, each once, by number
pub record AreTreesBelow (p : GtsParts) (moving : List Bool) (reaches : List Reach) (count : ℕ) (trees : List ModeTree)
    :
    Type 0 where
  pub sound : (k : ℕ) (tree : ModeTree) → Stands trees k tree → IsTreeAt p moving reaches count tree
  pub whole : (n : ℕ) → n < count → IsMovingState p moving n
      → (k : ℕ) × (tree : ModeTree) × Stands trees k tree × (tree.variable.n ≡ n)
  pub ascend : (j k : ℕ) (s t : ModeTree) → j < k → Stands trees j s → Stands trees k t → s.variable.n < t.variable.n

-- the variable is a state variable of a unit that moves
pub record HasTree (moving : List Bool) (x : Variable) : Type 0 where
  pub is_state : x.is_state ≡ true
  pub moves : Stands moving x.unit.n true

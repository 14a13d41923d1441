-- Trees and their numbered forms.
use Rattle.std.specs.Prelude.{◌≡◌, ◌⊎◌, ℕ, ◌<◌, ◌≤◌, List, [], ◌∷◌, length, map}
use Rattle.std.specs.List.Sorted.{IsPermutation}
use Rattle.ar_base.specs.Lists.{Stands, IsOneOf}
use Rattle.domains.specs.declared.Value.{Value}
use Rattle.ar_firing.specs.Forest.{Row, ModeTree}
use Rattle.ar_firing.specs.Trees.{AreTrees}
use Rattle.firable_families.specs.FirableInside.{IsFirableOf}
use Rattle.diagram_steps.specs.declared.trees.NumberedEdge.{NumberedEdge}
use Rattle.diagram_steps.specs.declared.trees.NumberedTree.{NumberedTree}
use Rattle.diagram_steps.specs.Order.{Ascend}
use Rattle.diagram_steps.specs.Trees.{edges_of}
use Rattle.mode_diagrams.specs.Costs.{HaveDifferentEvents}
use Rattle.mode_diagrams.specs.Trees.{AreNumbered, AreApart, IsSetFrom}

-- a tree's modes by number: its first is 0, and then come those that its edges enter
abbrev pub modes_in : ModeTree → List Value
modes_in tree = tree.first ∷ map (λ (r : Row). r.to) tree.edges

-- n is the number of the mode, which is the first or is entered by one of the first so many edges
pub record IsModeNumber (tree : ModeTree) (place : ℕ) (mode : Value) (n : ℕ) : Type 0 where
  pub early : n ≤ place
  pub stands : Stands (modes_in tree) n mode

-- the mode is the first, or one of the first so many edges enters it
abbrev pub IsEnteredBefore : ModeTree → ℕ → Value → Type 0
IsEnteredBefore tree place mode =
    (mode ≡ tree.first) ⊎ ((j : ℕ) × (q : Row) × (j < place) × Stands tree.edges j q × (q.to ≡ mode))

-- each edge has its event, and leaves its mode by number
pub record IsNumberOf (tree : ModeTree) (n : NumberedTree) : Type 0 where
  pub long : length (edges_of n) ≡ length tree.edges
  pub event : (k : ℕ) (r : Row) (e : NumberedEdge) → Stands tree.edges k r → Stands (edges_of n) k e
      → e.event.n ≡ r.label.event
  pub from : (k : ℕ) (r : Row) (e : NumberedEdge) → Stands tree.edges k r → Stands (edges_of n) k e
      → IsModeNumber tree k r.from e.from

-- at most 64 edges
abbrev pub HasFewEdges : NumberedTree → Type 0
HasFewEdges n = length (edges_of n) ≤ 64

-- more than 64 edges
abbrev pub IsWideTree : ModeTree → Type 0
IsWideTree tree = 64 < length tree.edges

-- one of the trees has more than 64 edges
pub record HasWideTree (trees : List ModeTree) : Type 0 where
  pub tree : ModeTree
  pub one : IsOneOf trees tree
  pub wide : IsWideTree tree

-- tree by tree, where trees with no edge are passed over
pub data AreNumberedTrees : List ModeTree → List NumberedTree → Type 0 where
  none : AreNumberedTrees [] []
  passed : {tree : ModeTree} {trees : List ModeTree} {ns : List NumberedTree} → tree.edges ≡ [] → AreNumberedTrees trees ns
      → AreNumberedTrees (tree ∷ trees) ns
  one_and : {tree : ModeTree} {n : NumberedTree} {trees : List ModeTree} {ns : List NumberedTree} → IsNumberOf tree n
      → AreNumberedTrees trees ns → AreNumberedTrees (tree ∷ trees) (n ∷ ns)

-- what numbered trees say of the trees
pub record IsByModes (trees : List ModeTree) (ns : List NumberedTree) : Type 0 where
  pub numbered : AreNumbered ns
  pub apart : AreApart ns
  pub different : HaveDifferentEvents ns
  pub modes : (set : List ℕ) → IsFirableOf trees set → (modes : List ℕ) × IsSetFrom ns 0 modes set
  pub firable : (modes set : List ℕ) → IsSetFrom ns 0 modes set → IsFirableOf trees set

abbrev pub FirableByModes : Type 0
FirableByModes = (trees : List ModeTree) (numbers ns : List NumberedTree) → AreTrees trees → AreNumberedTrees trees numbers
    → IsPermutation numbers ns → Ascend ns → IsByModes trees ns

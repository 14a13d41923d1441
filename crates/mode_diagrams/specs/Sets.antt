-- Families by their sets, and sets with more events.
use Rattle.std.specs.Prelude.{◌≡◌, ◌↔◌, ◌⊎◌, ◌≤◌, ◌<◌, ℕ, true, List, length}
use Rattle.ar_base.specs.Lists.{Stands, IsOneOf}
use Rattle.ar_base.specs.Sets.{Within}
use Rattle.zdd_nodes.specs.Families.{Family, has}
use Rattle.mode_nodes.specs.Diagrams.{mode_of, value}
use Rattle.mode_nodes.specs.Bounds.{Bounded, total_cost}
use Rattle.diagram_steps.specs.declared.trees.NumberedEdge.{NumberedEdge}
use Rattle.diagram_steps.specs.declared.trees.NumberedTree.{NumberedTree}
use Rattle.diagram_steps.specs.Trees.{edges_of}
use Rattle.mode_diagrams.specs.Trees.{IsOnPath, IsSetFrom}

-- no tree has more edges than there are numbers for its modes
pub record AreSmall (trees : List NumberedTree) : Type 0 where
  pub each : (k : ℕ) (tree : NumberedTree) → Stands trees k tree → length (edges_of tree) ≤ 4294967294

-- the family has the sets with P, in order, and no other
pub record HasSets (P : List ℕ → Type 0) (f : Family) : Type 0 where
  pub sound : (s : List ℕ) → has f s ≡ true → P s
  pub whole : (s : List ℕ) → P s → (t : List ℕ) × (has f t ≡ true) × Within s t × Within t s

-- the members of t are the events on the path to mode m and the members of s
pub record IsWithPath (edges : List NumberedEdge) (m : ℕ) (s t : List ℕ) : Type 0 where
  pub each : (e : ℕ) → IsOneOf t e ↔ (IsOnPath edges e m ⊎ IsOneOf s e)

-- g has the sets of f, each with the events on the path to mode m, and no other
pub record HasPathEvents (edges : List NumberedEdge) (m : ℕ) (f g : Family) : Type 0 where
  pub sound : (t : List ℕ) → has g t ≡ true → (s : List ℕ) × (has f s ≡ true) × IsWithPath edges m s t
  pub whole : (s : List ℕ) → has f s ≡ true → (t : List ℕ) × (has g t ≡ true) × IsWithPath edges m s t

-- the same store, where so much is enough
abbrev pub with_most : Bounded → ℕ → Bounded
with_most s most = record { store = s.store; costs = s.costs; most = most }

-- the set has the events on paths in the trees from place i on, the modes of these trees cost no more than is enough, and the
-- diagram is true at them
pub record IsTrueFrom (trees : List NumberedTree) (i : ℕ) (s : Bounded) (n : ℕ) (set : List ℕ) : Type 0 where
  pub modes : List ℕ
  pub are : IsSetFrom trees i modes set
  pub cheap : total_cost s.costs i modes ≤ s.most
  pub holds : value s.store modes n ≡ true

-- such a set, where tree i is at mode m
pub record IsTrueAtMode (trees : List NumberedTree) (i : ℕ) (s : Bounded) (n m : ℕ) (set : List ℕ) : Type 0 where
  pub modes : List ℕ
  pub mode : mode_of modes i ≡ m
  pub are : IsSetFrom trees i modes set
  pub cheap : total_cost s.costs i modes ≤ s.most
  pub holds : value s.store modes n ≡ true

-- such a set, where tree i is at one of its first so many modes
abbrev pub IsTrueBelow : List NumberedTree → ℕ → Bounded → ℕ → ℕ → List ℕ → Type 0
IsTrueBelow trees i s n mode set = (m : ℕ) × (m < mode) × IsTrueAtMode trees i s n m set

-- Trees that are taken one after the other, over new numbers of their events.
use Rattle.std.specs.Prelude.{◌≡◌, ◌<◌, ◌^◌, ◌+◌, ◌⊎◌, ℕ, List, map, Some}
use Rattle.std.specs.HashMap.{HashMap}
use Rattle.ar_base.specs.Lists.{Stands}
use Rattle.ar_base.specs.NumbersInside.{EventId}
use Rattle.diagram_steps.specs.declared.trees.NumberedEdge.{NumberedEdge}
use Rattle.diagram_steps.specs.declared.trees.NumberedTree.{NumberedTree}
use Rattle.diagram_steps.specs.Trees.{edges_of, TreeHasEvent}
use Rattle.mode_diagrams.specs.Lacking.{tree_place_of, IsTreePut}
use Rattle.event_order.specs.Renumbered.{AreDistinct, IsNamed, AreRenumbered}
use Rattle.event_order.specs.declared.numbering.Numbering.{Numbering}

-- for each named event the map has its place among the names, and no other
pub record AreNumbersOf {S : Type 0} (names : List EventId) (numbers : HashMap EventId ℕ S) : Type 0 where
  pub distinct : AreDistinct names
  pub fit : (e : ℕ) → IsNamed names e → e < 2 ^ 32
  pub sound : (e : EventId) (i : ℕ) → tree_place_of numbers e ≡ Some i → (n : EventId) × Stands names i n × (n.n ≡ e.n)
  pub whole : (e : EventId) → IsNamed names e.n → IsTreePut numbers e

-- the events of edges
abbrev pub events_of : List NumberedEdge → List EventId
events_of edges = map (λ (e : NumberedEdge). e.event) edges

-- the tree has an event, and none of its events has a number
pub record IsNew (names : List EventId) (tree : NumberedTree) : Type 0 where
  pub some : ℕ
  pub has_some : TreeHasEvent tree some
  pub none : (e : ℕ) → TreeHasEvent tree e → IsNamed names e → ⊥

-- the events of the tree are numbered from this number on
pub record IsFrom (start : ℕ) (tree : NumberedTree) : Type 0 where
  pub each : (j : ℕ) (e : NumberedEdge) → Stands (edges_of tree) j e → e.event.n ≡ start + j

-- the events that have numbers so far
abbrev pub names_in : Numbering → List EventId
names_in n = n.numbers.names.items

-- trees were taken, and their events have numbers
pub record AreTaken (trees : List NumberedTree) (n : Numbering) : Type 0 where
  pub trees_are : AreRenumbered (names_in n) trees n.trees.items
  pub numbers_are : AreNumbersOf (names_in n) n.numbers.numbers

-- the event is one of the tree at this place
pub record IsOfTreeAt (trees : List NumberedTree) (place x : ℕ) : Type 0 where
  pub tree : NumberedTree
  pub stands : Stands trees place tree
  pub has : TreeHasEvent tree x

-- the events are of one tree
pub record AreOfOneTree (trees : List NumberedTree) (e x : ℕ) : Type 0 where
  pub place : ℕ
  pub tree : NumberedTree
  pub stands : Stands trees place tree
  pub first : TreeHasEvent tree e
  pub second : TreeHasEvent tree x

-- the tree at this place was taken, and no other one
pub record Takes (trees : List NumberedTree) (place : ℕ) (old new : Numbering) : Type 0 where
  pub taken : AreTaken trees new
  pub kept : (x : ℕ) → IsNamed (names_in old) x → IsNamed (names_in new) x
  pub met : (tree : NumberedTree) (e : ℕ) → Stands trees place tree → TreeHasEvent tree e → IsNamed (names_in new) e
  pub fresh : (x : ℕ) → IsNamed (names_in new) x → IsNamed (names_in old) x ⊎ IsOfTreeAt trees place x

-- trees are only taken, and each tree with this event is, and no other one
pub record Meets (trees : List NumberedTree) (e : ℕ) (old new : Numbering) : Type 0 where
  pub taken : AreTaken trees new
  pub kept : (x : ℕ) → IsNamed (names_in old) x → IsNamed (names_in new) x
  pub met : (k : ℕ) (tree : NumberedTree) → Stands trees k tree → TreeHasEvent tree e → IsNamed (names_in new) e
  pub fresh : (x : ℕ) → IsNamed (names_in new) x → IsNamed (names_in old) x ⊎ AreOfOneTree trees e x

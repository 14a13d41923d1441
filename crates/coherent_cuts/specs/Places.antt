-- Where each event has its edge.
use Rattle.std.specs.Prelude.{◌≡◌, ◌⊎◌, ◌<◌, ◌+◌, ℕ, List, Option, Some}
use Rattle.std.specs.HashMap.{HashMap, get}
use Rattle.ar_base.specs.Lists.{Stands, IsOneOf}
use Rattle.ar_base.specs.NumbersInside.{EventId}
use Rattle.diagram_steps.specs.declared.trees.NumberedEdge.{NumberedEdge}
use Rattle.diagram_steps.specs.declared.trees.NumberedTree.{NumberedTree}
use Rattle.diagram_steps.specs.Trees.{edges_of, TreeHasEvent}
use Rattle.mode_diagrams.specs.Lacking.{same_event}
use Rattle.coherent_cuts.specs.declared.paths.EdgePlace.{EdgePlace}

-- the place that is put for an event
abbrev pub place_of : {S : Type 0} → HashMap EventId EdgePlace S → EventId → Option EdgePlace
place_of places e = get same_event places e

-- a place is put for the event
abbrev pub IsPut : {S : Type 0} → HashMap EventId EdgePlace S → EventId → Type 0
IsPut places e = (p : EdgePlace) × (place_of places e ≡ Some p)

-- an edge of the event enters this mode
pub record Enters (edges : List NumberedEdge) (e m : ℕ) : Type 0 where
  pub place : ℕ
  pub edge : NumberedEdge
  pub stands : Stands edges place edge
  pub event : edge.event.n ≡ e
  pub mode : m ≡ place + 1

-- what is put for an event is the place of such an edge, and for the events of the first so many trees a place is put
pub record ArePlaced {S : Type 0} (trees : List NumberedTree) (count : ℕ) (places : HashMap EventId EdgePlace S)
    : Type 0 where
  pub sound : (e : EventId) (p : EdgePlace) → place_of places e ≡ Some p
      → (tree : NumberedTree) × Stands trees p.tree tree × Enters (edges_of tree) e.n p.mode
  pub whole : (k : ℕ) (tree : NumberedTree) (e : EventId) → k < count → Stands trees k tree → TreeHasEvent tree e.n
      → IsPut places e

-- places are put for the events of these edges of a tree, and nothing else changed
pub record Puts {S : Type 0} (edges : List NumberedEdge) (tree : ℕ) (old new : HashMap EventId EdgePlace S) : Type 0 where
  pub sound : (e : EventId) (p : EdgePlace) → place_of new e ≡ Some p
      → (place_of old e ≡ Some p) ⊎ ((p.tree ≡ tree) × Enters edges e.n p.mode)
  pub kept : (e : EventId) → IsPut old e → IsPut new e
  pub put : (e : EventId) (edge : NumberedEdge) → IsOneOf edges edge → edge.event.n ≡ e.n → IsPut new e

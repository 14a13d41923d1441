-- Where each event has its tree, and operands over events that no tree has.
use Rattle.std.specs.Prelude.{◌≡◌, ◌⊎◌, ◌<◌, ℕ, Bool, true, ◌&&◌, eqb, List, length, Option, Some}
use Rattle.std.specs.HashMap.{HashMap, get}
use Rattle.ar_base.specs.Lists.{Stands, IsOneOf}
use Rattle.ar_base.specs.NumbersInside.{EventId}
use Rattle.eq_core.specs.Gates.{Operand, EventIs, Gate}
use Rattle.mode_nodes.specs.Diagrams.{StoredDiagrams}
use Rattle.mode_nodes.specs.declared.store.DiagramFault.{DiagramFault}
use Rattle.mode_nodes.specs.declared.store.DiagramFault.TheVariants as fault
use Rattle.diagram_steps.specs.declared.trees.NumberedEdge.{NumberedEdge}
use Rattle.diagram_steps.specs.declared.trees.NumberedTree.{NumberedTree}
use Rattle.diagram_steps.specs.Trees.{TreeHasEvent}
use Rattle.mode_diagrams.specs.declared.undrawn.Undrawn.{Undrawn}
use Rattle.mode_diagrams.specs.declared.undrawn.Undrawn.TheVariants as undrawn

-- whether two events are one
abbrev pub same_event : EventId → EventId → Bool
same_event a b = eqb a.n b.n && true

-- the place that is put for an event
abbrev pub tree_place_of : {S : Type 0} → HashMap EventId ℕ S → EventId → Option ℕ
tree_place_of places e = get same_event places e

-- a place is put for the event
abbrev pub IsTreePut : {S : Type 0} → HashMap EventId ℕ S → EventId → Type 0
IsTreePut places e = (p : ℕ) × (tree_place_of places e ≡ Some p)

-- what is put for an event is the place of a tree that has it, and for the events of the first so many trees a place is put
pub record HavePlacedEvents {S : Type 0} (trees : List NumberedTree) (count : ℕ) (places : HashMap EventId ℕ S) : Type 0 where
  pub sound : (e : EventId) (p : ℕ) → tree_place_of places e ≡ Some p
      → (tree : NumberedTree) × Stands trees p tree × TreeHasEvent tree e.n
  pub whole : (k : ℕ) (tree : NumberedTree) (e : EventId) → k < count → Stands trees k tree → TreeHasEvent tree e.n
      → IsTreePut places e

-- this place is put for the events of these edges, and nothing else changed
pub record PutsTree {S : Type 0} (edges : List NumberedEdge) (place : ℕ) (old new : HashMap EventId ℕ S) : Type 0 where
  pub sound : (e : EventId) (p : ℕ) → tree_place_of new e ≡ Some p → (tree_place_of old e ≡ Some p)
      ⊎ ((p ≡ place) × (edge : NumberedEdge) × IsOneOf edges edge × (edge.event.n ≡ e.n))
  pub kept : (e : EventId) → IsTreePut old e → IsTreePut new e
  pub put : (e : EventId) (edge : NumberedEdge) → IsOneOf edges edge → edge.event.n ≡ e.n → IsTreePut new e

-- no tree has the event
pub record HasNoTree (trees : List NumberedTree) (e : ℕ) : Type 0 where
  pub none : (k : ℕ) (tree : NumberedTree) → Stands trees k tree → TreeHasEvent tree e → ⊥

-- the operand is an event that no tree has
pub record Lacks (trees : List NumberedTree) (o : Operand) : Type 0 where
  pub event : ℕ
  pub sign : Bool
  pub is : o ≡ EventIs event sign
  pub none : HasNoTree trees event

-- one of these operands is
pub record LacksOne (trees : List NumberedTree) (os : List Operand) : Type 0 where
  pub operand : Operand
  pub one : IsOneOf os operand
  pub lacks : Lacks trees operand

-- the root is, or an operand of a marked gate
pub data LacksSome (trees : List NumberedTree) (gates : List Gate) (root : Operand) (marks : List Bool) : Type 0 where
  own : Lacks trees root → LacksSome trees gates root marks
  named : (g : ℕ) (gate : Gate) → Stands marks g true → Stands gates g gate → LacksOne trees gate.operands
      → LacksSome trees gates root marks

-- the store has its limit of nodes
abbrev pub IsFull : StoredDiagrams → Type 0
IsFull s = length s.nodes ≡ s.limit

-- why there is no diagram, where the store gave no node
abbrev pub undrawn_of : DiagramFault → Undrawn
undrawn_of fault.Full = undrawn.Beyond
undrawn_of fault.Memory = undrawn.Memory

-- Trees and operands whose events are numbered anew: the number of an event is its place in a list.
use Rattle.std.specs.Prelude.{◌≡◌, ◌⊎◌, ◌≤◌, ◌+◌, ℕ, List, length}
use Rattle.ar_base.specs.Lists.{Stands, AreDifferent, Along}
use Rattle.ar_base.specs.NumbersInside.{EventId}
use Rattle.eq_core.specs.Gates.{Operand, Always, Never, EventIs, GateIs, Gate}
use Rattle.diagram_steps.specs.declared.trees.NumberedEdge.{NumberedEdge}
use Rattle.diagram_steps.specs.declared.trees.NumberedTree.{NumberedTree}
use Rattle.diagram_steps.specs.Order.{Ascend}
use Rattle.diagram_steps.specs.Trees.{edges_of, TreeHasEvent}

-- no event stands at two places
pub record AreDistinct (names : List EventId) : Type 0 where
  pub one : (i j : ℕ) (m n : EventId) → Stands names i m → Stands names j n → m.n ≡ n.n → i ≡ j

-- the event has a new number
pub record IsNamed (names : List EventId) (e : ℕ) : Type 0 where
  pub number : ℕ
  pub name : EventId
  pub stands : Stands names number name
  pub is : name.n ≡ e

-- the new tree is the old one, and its events have their new numbers, one after the other
pub record IsRenumbered (names : List EventId) (old new : NumberedTree) : Type 0 where
  pub long : length (edges_of new) ≡ length (edges_of old)
  pub from : (j : ℕ) (a b : NumberedEdge) → Stands (edges_of old) j a → Stands (edges_of new) j b → b.from ≡ a.from
  pub event : (j : ℕ) (a b : NumberedEdge) → Stands (edges_of old) j a → Stands (edges_of new) j b
      → Stands names b.event.n a.event
  pub start : ℕ
  pub next : (j : ℕ) (b : NumberedEdge) → Stands (edges_of new) j b → b.event.n ≡ start + j

-- the same of the old tree at this place
pub record IsRenumberedAt (names : List EventId) (olds : List NumberedTree) (place : ℕ) (new : NumberedTree) : Type 0 where
  pub old : NumberedTree
  pub stands : Stands olds place old
  pub is : IsRenumbered names old new

-- the new trees are some of the old ones, each once, over the new numbers of their events, and no other event has a new number
pub record AreRenumbered (names : List EventId) (olds news : List NumberedTree) : Type 0 where
  pub places : List ℕ
  pub once : AreDifferent places
  pub trees : Along (IsRenumberedAt names olds) places news
  pub used : (i : ℕ) (n : EventId) → Stands names i n → (k : ℕ) × (new : NumberedTree) × Stands news k new × TreeHasEvent new i
  pub distinct : AreDistinct names
  pub ascend : Ascend news

-- i is the event's new number, or, where it has none, a number that no event has
abbrev pub IsNumberFor : List EventId → ℕ → ℕ → Type 0
IsNumberFor names e i =
    ((n : EventId) × Stands names i n × (n.n ≡ e)) ⊎ ((length names ≤ i) × (IsNamed names e → ⊥))

-- the new operand is the old one over new numbers
abbrev pub IsRenamed : List EventId → Operand → Operand → Type 0
IsRenamed names Always new = new ≡ Always
IsRenamed names Never new = new ≡ Never
IsRenamed names (EventIs e sign) new = (i : ℕ) × (new ≡ EventIs i sign) × IsNumberFor names e i
IsRenamed names (GateIs g sign) new = new ≡ GateIs g sign

-- the same of each operand of a gate
pub record IsRenamedGate (names : List EventId) (old new : Gate) : Type 0 where
  pub both : new.both ≡ old.both
  pub operands : Along (IsRenamed names) old.operands new.operands

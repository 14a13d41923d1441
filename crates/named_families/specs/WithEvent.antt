-- Families that an event was put into.
use Rattle.std.specs.Prelude.{◌≡◌, ℕ, Bool, true, ◌&&◌, eqb, Some}
use Rattle.std.specs.HashMap.{HashMap, get}
use Rattle.zdd_nodes.specs.Nodes.{NodeId, Stored, family, IsFamilyNumber}
use Rattle.diagram_steps.specs.Putting.{HasWith}

-- whether two numbers are one
abbrev pub same_number : NodeId → NodeId → Bool
same_number a b = eqb a.n b.n && true

-- the second family has the sets of the first, each with the event
pub record IsWithEvent (event : ℕ) (s : Stored) (k n : ℕ) : Type 0 where
  pub old : IsFamilyNumber s k
  pub new : IsFamilyNumber s n
  pub sets : HasWith event (family s k) (family s n)

-- what is held for a number is that of its sets with the event
pub record AreWithEvent {S : Type 0} (event : ℕ) (s : Stored) (put : HashMap NodeId NodeId S) : Type 0 where
  pub each : (k n : NodeId) → get same_number put k ≡ Some n → IsWithEvent event s k.n n.n

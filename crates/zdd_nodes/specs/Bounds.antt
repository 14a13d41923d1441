-- Families by a bound of events.
use Rattle.std.specs.Prelude.{ℕ, ◌<◌, ◌≤◌, List, map}
use Rattle.std.specs.List.{AllByRecursion}
use Rattle.ar_base.specs.Lists.{IsOneOf}
use Rattle.zdd_nodes.specs.Nodes.{NodeId, Stored, family, IsNode}

-- the numbers of the families
abbrev pub node_numbers : List NodeId → List ℕ
node_numbers nodes = map (λ (n : NodeId). n.n) nodes

-- each event of the set is at or above the bound
abbrev pub AtLeast : ℕ → List ℕ → Type 0
AtLeast i s = AllByRecursion (λ x. i ≤ x) s

-- the family has no event below the bound
pub record EndsBelow (s : Stored) (to n : ℕ) : Type 0 where
  pub at_least : AllByRecursion (AtLeast to) (family s n)

-- the family is that of a node whose event is below the bound
pub record HasBelow (s : Stored) (to n event lo hi : ℕ) : Type 0 where
  pub node : IsNode s.families n event lo hi
  pub below : event < to

-- no entry has an event below the bound
pub record AllEnd (s : Stored) (to : ℕ) (entries : List ℕ) : Type 0 where
  pub each : (e : ℕ) → IsOneOf entries e → EndsBelow s to e

-- the number has an event below the bound
pub record NodeHasEvent (s : Stored) (to n : ℕ) : Type 0 where
  pub event : ℕ
  pub lo : ℕ
  pub hi : ℕ
  pub has : HasBelow s to n event lo hi

-- the entry has an event below the bound
pub record IsReference (s : Stored) (to : ℕ) (entries : List ℕ) (e : ℕ) : Type 0 where
  pub is_entry : IsOneOf entries e
  pub event : NodeHasEvent s to e

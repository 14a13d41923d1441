-- Families that are named part by part.
use Rattle.std.specs.Prelude.{◌≡◌, ◌⊎◌, ℕ, ◌+◌, true, List, length}
use Rattle.ar_base.specs.Lists.{Stands, IsOneOf}
use Rattle.ar_base.specs.NumbersInside.{EventId}
use Rattle.zdd_nodes.specs.Families.{Family, has}
use Rattle.zdd_nodes.specs.Nodes.{NodeId, Stored, family, IsFamilyNumber}
use Rattle.named_families.specs.Names.{AreNamed}

-- these are numbers of the store
pub record AreNumbers (s : Stored) (numbers : List NodeId) : Type 0 where
  pub each : (k : ℕ) (n : NodeId) → Stands numbers k n → IsFamilyNumber s n.n

-- the family has exactly the sets that one of the numbered families has
pub record HasAllSets (s : Stored) (numbers : List NodeId) (f : Family) : Type 0 where
  pub sound : (x : List ℕ) → has f x ≡ true → (n : NodeId) × IsOneOf numbers n × (has (family s n.n) x ≡ true)
  pub whole : (n : NodeId) (x : List ℕ) → IsOneOf numbers n → has (family s n.n) x ≡ true → has f x ≡ true

-- for each number of the source that of the named family, or 0 where it is not known yet
pub record AreKept (names : List EventId) (source s : Stored) (kept : List NodeId) : Type 0 where
  pub long : length kept ≡ length source.families + 2
  pub each : (k : ℕ) (n : NodeId) → Stands kept k n → (n.n ≡ 0)
      ⊎ (IsFamilyNumber s n.n × AreNamed names (family source k) (family s n.n))

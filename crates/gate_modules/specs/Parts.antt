-- The sets of events below a bound.
use Rattle.std.specs.Prelude.{◌≡◌, ◌≢◌, ℕ, true, List, [], ◌++◌}
use Rattle.zdd_nodes.specs.Families.{Family, has}
use Rattle.zdd_nodes.specs.FamiliesInside.{IsFamily}
use Rattle.zdd_nodes.specs.Sections.{section}
use Rattle.zdd_nodes.specs.Behind.{behind_events}
use Rattle.zdd_nodes.specs.Nodes.{Stored, family}

-- these are the sets of events below the bound that sets of the family begin with
pub record AreHeads (b : ℕ) (f heads : Family) : Type 0 where
  pub is_family : IsFamily heads
  pub sound : (a : List ℕ) → has heads a ≡ true → section b a f ≢ []
  pub whole : (a : List ℕ) → section b a f ≢ [] → has heads a ≡ true

-- the same without the empty set
pub record AreSomeHeads (b : ℕ) (f heads : Family) : Type 0 where
  pub is_family : IsFamily heads
  pub sound : (a : List ℕ) → has heads a ≡ true → (a ≢ []) × (section b a f ≢ [])
  pub whole : (a : List ℕ) → a ≢ [] → section b a f ≢ [] → has heads a ≡ true

-- the sets of events below the bound that sets of number n begin with were added, behind the events that were taken
-- before
pub record AddsHeads (s : Stored) (b n : ℕ) (taken : List ℕ) (old new : Family) : Type 0 where
  pub heads : Family
  pub are_heads : AreHeads b (family s n) heads
  pub is : new ≡ old ++ behind_events taken heads

-- the same without the empty set
pub record AddsSomeHeads (s : Stored) (b n : ℕ) (old new : Family) : Type 0 where
  pub heads : Family
  pub are_heads : AreSomeHeads b (family s n) heads
  pub is : new ≡ old ++ heads

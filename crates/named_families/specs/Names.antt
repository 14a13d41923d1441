-- Events that are numbered by their places in a list, and sets of them.
use Rattle.std.specs.Prelude.{◌≡◌, ℕ, true, List}
use Rattle.ar_base.specs.Lists.{Stands, IsOneOf}
use Rattle.ar_base.specs.NumbersInside.{EventId}
use Rattle.zdd_nodes.specs.Families.{Family, has}

-- the new set has exactly the places of the old set's events
pub record IsNamedBy (names : List EventId) (new old : List ℕ) : Type 0 where
  pub sound : (e : ℕ) → IsOneOf old e
      → (i : ℕ) × (n : EventId) × IsOneOf new i × Stands names i n × (n.n ≡ e)
  pub whole : (i : ℕ) → IsOneOf new i → (n : EventId) × Stands names i n × IsOneOf old n.n

-- each set of the old family is named by one of the new, and each of the new names one of the old
pub record AreNamed (names : List EventId) (new old : Family) : Type 0 where
  pub sound : (s : List ℕ) → has old s ≡ true → (t : List ℕ) × (has new t ≡ true) × IsNamedBy names t s
  pub whole : (t : List ℕ) → has new t ≡ true → (s : List ℕ) × (has old s ≡ true) × IsNamedBy names t s

-- each event of each set is a place of the list
pub record HaveNames (names : List EventId) (f : Family) : Type 0 where
  pub each : (s : List ℕ) → has f s ≡ true → (i : ℕ) → IsOneOf s i → (n : EventId) × Stands names i n

-- How events are gathered in the ranges of units.
use Rattle.std.specs.Prelude.{◌≡◌, ◌↔◌, ◌⊎◌, ◌+◌, ◌<◌, ℕ, suc, true, List, length, Some}
use Rattle.ar_base.specs.Lists.{Stands}
use Rattle.ar_base.specs.NumbersInside.{UnitId}
use Rattle.hierarchy.specs.declared.tree.MemNode.{MemNode}
use Rattle.hierarchy.specs.declared.tree.UnitNode.{UnitNode}
use Rattle.gate_modules.specs.Modules.{lies}
use Rattle.gate_modules.specs.declared.ranges.Range.{Range}

-- each unit has a greater number than the unit above it
pub record StandBehindOwners (nodes : List UnitNode) : Type 0 where
  pub each : (u : ℕ) (d : UnitNode) (o : UnitId) → Stands nodes u d → d.owner ≡ Some o → o.n < u

-- unit number k has a unit above it, and is number u or above it
pub data IsOver (nodes : List UnitNode) (k : ℕ) : ℕ → Type 0 where
  here : {d : UnitNode} {o : UnitId} → Stands nodes k d → d.owner ≡ Some o → IsOver nodes k k
  above : {u : ℕ} {d : UnitNode} {o : UnitId} → Stands nodes u d → d.owner ≡ Some o → IsOver nodes k o.n
      → IsOver nodes k u

-- event number e is one of unit number k, which has a unit above it, or of a unit below that
pub record IsOf (nodes : List UnitNode) (events : List MemNode) (k e : ℕ) : Type 0 where
  pub event : MemNode
  pub is_event : Stands events e event
  pub over : IsOver nodes k event.unit.n

-- the unit is the same, and the numbers with the property come to its events
pub record Gains (P : ℕ → Type 0) (old new : Range) : Type 0 where
  pub unit : new.unit.n ≡ old.unit.n
  pub events : (x : ℕ) → (lies new x ≡ true) ↔ ((lies old x ≡ true) ⊎ P x)

-- the range at place k comes from the one that stood there
pub record GainsAt (P : ℕ → ℕ → Type 0) (old : List Range) (k : ℕ) (new : Range) : Type 0 where
  pub before : Range
  pub stood : Stands old k before
  pub gains : Gains (P k) before new

-- each range has its numbers besides, by the range's place
pub record AllGain (P : ℕ → ℕ → Type 0) (old new : List Range) : Type 0 where
  pub long : length new ≡ length old
  pub each : (k : ℕ) (r : Range) → Stands new k r → GainsAt P old k r

-- the event, at this place
abbrev pub IsAt : ℕ → ℕ → ℕ → ℕ → Type 0
IsAt place event k x = (x ≡ event) × (k ≡ place)

-- the event, at the place of a unit that is unit number u or above it
abbrev pub IsAtOver : List UnitNode → ℕ → ℕ → ℕ → ℕ → Type 0
IsAtOver nodes u event k x = (x ≡ event) × IsOver nodes (suc k) u

-- one of the first n events, at the place of a unit of which it is one
abbrev pub IsAtFirst : List UnitNode → List MemNode → ℕ → ℕ → ℕ → Type 0
IsAtFirst nodes events n k x = (x < n) × IsOf nodes events (suc k) x

-- the range is that of the unit behind number k, without events
pub record IsEmpty (k : ℕ) (r : Range) : Type 0 where
  pub unit : r.unit.n ≡ suc k
  pub from : r.from ≡ 0
  pub to : r.to ≡ 0

-- ranges without events of this number of units, but for the first of them
pub record AreEmptyRanges (count : ℕ) (ranges : List Range) : Type 0 where
  pub long : 0 < count → length ranges + 1 ≡ count
  pub each : (k : ℕ) (r : Range) → Stands ranges k r → IsEmpty k r

-- the numbers of the range reach up to the event: behind each of them comes another one, or the event
pub record ReachesTo (event : ℕ) (r : Range) : Type 0 where
  pub next : (x : ℕ) → lies r x ≡ true → (suc x ≡ event) ⊎ (lies r (suc x) ≡ true)

-- the ranges of unit number u and of the units above it reach up to the event
pub record AllReach (nodes : List UnitNode) (u event : ℕ) (ranges : List Range) : Type 0 where
  pub each : (k : ℕ) (r : Range) → Stands ranges k r → IsOver nodes (suc k) u → ReachesTo event r

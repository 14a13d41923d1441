-- Events that are marked, units that have transitions, and the first state variable of each unit.
use Rattle.std.specs.Prelude.{◌≡◌, ◌<◌, ◌≤◌, ◌⊎◌, ℕ, Bool, true, false, List, length, map, Option, Some, None}
use Rattle.ar_base.specs.Lists.{Stands, IsOneOf}
use Rattle.ar_base.specs.Numbers.{VarId, WayId}
use Rattle.ar_base.specs.NumbersInside.{EventId}
use Rattle.ar_meaning.specs.Found.{IsAnswer}
use Rattle.gts_core.specs.declared.system.Event.{Event}
use Rattle.gts_core.specs.declared.system.Way.{Way}
use Rattle.gts_core.specs.declared.system.WayBody.{WayBody}
use Rattle.gts_core.specs.declared.system.WayBody.TheVariants.{Local, Sync}
use Rattle.gts_core.specs.declared.system.GtsParts.{GtsParts}
use Rattle.mode_search.specs.Modes.{IsStateAt}

-- the least number that has P, or none where no number has
abbrev pub IsLeastNumber : (ℕ → Type 0) → Option ℕ → Type 0
IsLeastNumber P None = (n : ℕ) → P n → ⊥
IsLeastNumber P (Some n) = P n × ((k : ℕ) → P k → n ≤ k)

-- the plain numbers of events
abbrev pub plain_event_numbers : List EventId → List ℕ
plain_event_numbers events = map (λ (e : EventId). e.n) events

-- for each of so many events whether it is one of these
pub record AreMarks (count : ℕ) (dropped : List ℕ) (marks : List Bool) : Type 0 where
  pub long : length marks ≡ count
  pub mark : (n : ℕ) (b : Bool) → Stands marks n b → IsAnswer b (IsOneOf dropped n)

-- a way of this body is synchronised
abbrev pub IsSync : WayBody → Type 0
IsSync (Local guard action) = ⊥
IsSync (Sync parts) = Unit {0}

-- the way of this number is synchronised
pub record IsJoint (p : GtsParts) (n : ℕ) : Type 0 where
  pub way : Way
  pub stands : Stands p.ways.items n way
  pub is_sync : IsSync way.body

-- one of these ways is synchronised
pub record HasJoint (p : GtsParts) (ways : List WayId) : Type 0 where
  pub way : WayId
  pub is_one : IsOneOf ways way
  pub is_joint : IsJoint p way.n

-- the event of this number has a synchronised way
pub record IsJointAt (p : GtsParts) (n : ℕ) : Type 0 where
  pub event : Event
  pub stands : Stands p.events.items n event
  pub has : HasJoint p event.ways.items

-- one of the first so many events that are not marked is of the unit and has a way
pub record MovesUnit (p : GtsParts) (marks : List Bool) (count unit : ℕ) : Type 0 where
  pub number : ℕ
  pub below : number < count
  pub event : Event
  pub stands : Stands p.events.items number event
  pub is_unit : event.unit.n ≡ unit
  pub mark : Stands marks number false
  pub way : WayId
  pub has : Stands event.ways.items 0 way

-- for each unit whether it moves
pub record AreMoving (p : GtsParts) (marks : List Bool) (count : ℕ) (moving : List Bool) : Type 0 where
  pub long : length moving ≡ length p.units.items
  pub moves : (unit : ℕ) (b : Bool) → Stands moving unit b → IsAnswer b (MovesUnit p marks count unit)

-- the first of the first so many variables that is a state variable of the unit, or none
abbrev pub IsFirstBelow : GtsParts → ℕ → ℕ → Option VarId → Type 0
IsFirstBelow p count unit None = (n : ℕ) → n < count → IsStateAt p unit n → ⊥
IsFirstBelow p count unit (Some x) = (x.n < count) × IsStateAt p unit x.n × ((n : ℕ) → n < x.n → IsStateAt p unit n → ⊥)

-- for each unit the first of the first so many variables that is a state variable of it
pub record AreFirstStates (p : GtsParts) (count : ℕ) (firsts : List (Option VarId)) : Type 0 where
  pub long : length firsts ≡ length p.units.items
  pub first : (unit : ℕ) (found : Option VarId) → Stands firsts unit found → IsFirstBelow p count unit found

-- the one that was found, or else this one, where it is a state variable
abbrev pub first_with : Option VarId → Bool → VarId → Option VarId
first_with (Some y) is_state x = Some y
first_with None true x = Some x
first_with None false x = None

-- the unit moved before, or an event of these ways, which is not marked, has one
abbrev pub StillMoves : Bool → Bool → List WayId → Type 0
StillMoves moved marked ways = (moved ≡ true) ⊎ ((marked ≡ false) × (w : WayId) × Stands ways 0 w)

-- the unit moves and has no state variable
pub record IsStateless (moving : List Bool) (firsts : List (Option VarId)) (unit : ℕ) : Type 0 where
  pub moves : Stands moving unit true
  pub none : Stands firsts unit None

-- The expansion of synchronisations: rule L14, the ways of the events, and the limits on ways.
use Rattle.std.specs.Prelude.{◌≡◌, ℕ, ◌<◌, ◌≤◌, ◌^◌, Bool, List, length, Vec, Result, Ok}
use Rattle.std.specs.Global.{Global}
use Rattle.ar_base.specs.Lists.{Stands, IsOneOf, Along}
use Rattle.ar_base.specs.NumbersInside.{EventId}
use Rattle.ar_base.specs.Stages.{Then, Keeps, Fits}
use Rattle.ar_base.specs.declared.counts.Count.TheVariants.{Ways as TheWays, WayParts}
use Rattle.ar_base.specs.declared.faults.RuleFault.{RuleFault}
use Rattle.ar_base.specs.declared.places.Place.{Place}
use Rattle.ar_meaning.specs.Systems.{Way, Tree}
use Rattle.ar_meaning.specs.Expand.{EventDeclaration, Ways, LeadsBack}
use Rattle.gts_core.specs.Bound.{declared_from}
use Rattle.gts_core.specs.declared.bound.DeclaredEvent.{DeclaredEvent}
use Rattle.gts_core.specs.declared.bound.DeclaredWay.TheVariants.{Sync}
use Rattle.sync_expand.specs.Counting.{way_rules, most_ways, way_parts}

-- declared events that can be expanded: each part's number is that of an event, there are no more
-- events than a model may have, and the places of an event's ways are numbers of 32 bits
pub record AreExpandable (events : List DeclaredEvent) : Type 0 where
  pub few : length events ≤ 16384
  pub short : (n : ℕ) (d : DeclaredEvent) → Stands events n d → length d.ways.items < 2 ^ 32
  pub parts : (n k : ℕ) (d : DeclaredEvent) (parts : Vec (Bool × EventId) Global) (at : Place)
      → Stands events n d → Stands d.ways.items k (Sync parts at) → (part : Bool × EventId)
      → IsOneOf parts.items part
      → part.1.n < length events

-- a synchronisation of an event from which the event is reached again; its name stands at the place
pub record BreaksNumberedSynchronisation (events : List DeclaredEvent) (p : Place) : Type 0 where
  pub event : ℕ
  pub declared : DeclaredEvent
  pub stands : Stands events event declared
  pub number : ℕ
  pub parts : Vec (Bool × EventId) Global
  pub is_way : Stands declared.ways.items number (Sync parts p)
  pub back : LeadsBack (declared_from 0 events) event number

-- rule n is broken at the place
pub data BreaksNumberedWayRule (events : List DeclaredEvent) : ℕ → Place → Type 0 where
  l14 : {p : Place} → BreaksNumberedSynchronisation events p → BreaksNumberedWayRule events 14 p

-- these are the ways of the events, event by event
abbrev pub AreWays : {L : Type 0} → List (EventDeclaration L ℕ) → List (List (Tree L)) → Type 0
AreWays events ways = Along (λ d ts. Ways events d.key ts) events ways

-- each event has its place in the list as what stands for it
pub record AreByNumber {L : Type 0} (events : List (EventDeclaration L ℕ)) : Type 0 where
  pub numbered : (n : ℕ) (d : EventDeclaration L ℕ) → Stands events n d → d.key ≡ n

-- the declared events have these ways
pub data HaveDeclaredWays (events : List DeclaredEvent) : Result (List (List (Way ℕ))) RuleFault
    → Type 0 where
  have : {ways : List (List (Way ℕ))} → AreWays (declared_from 0 events) ways
      → HaveDeclaredWays events (Ok ways)

-- the stage: rule L14, the ways of the events, and the limits of an event's ways and of the parts
-- of all ways
abbrev pub ExpandsWays : List DeclaredEvent → Result (List (List (Way ℕ))) RuleFault → Type 0
ExpandsWays = Then (Keeps way_rules BreaksNumberedWayRule)
    (Then HaveDeclaredWays (Then (Fits TheWays most_ways) (Fits WayParts way_parts)))

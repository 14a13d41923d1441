-- Which synchronisations may lead an event back to itself, told by ranks.
use Rattle.std.specs.Prelude.{◌≡◌, ℕ, ◌+◌, ◌<◌, ◌≤◌, Bool, List, Option, Some, None, Vec, slice_index}
use Rattle.std.specs.Global.{Global}
use Rattle.ar_base.specs.Breach.{IsEarlier}
use Rattle.ar_base.specs.Lists.{Stands, IsOneOf}
use Rattle.ar_base.specs.NumbersInside.{EventId}
use Rattle.ar_base.specs.declared.places.Place.{Place}
use Rattle.ar_meaning.specs.Expand.{HasPart}
use Rattle.gts_core.specs.Bound.{declared_from}
use Rattle.gts_core.specs.declared.bound.DeclaredEvent.{DeclaredEvent}
use Rattle.gts_core.specs.declared.bound.DeclaredWay.{DeclaredWay}
use Rattle.gts_core.specs.declared.bound.DeclaredWay.TheVariants.{Sync}
use Rattle.sync_expand.specs.declared.links.Link.{Link}

-- the rank of the second event is at least that of the first and `gap` more; an event without a
-- rank has 0
abbrev pub Climbs : List ℕ → ℕ → ℕ → ℕ → Type 0
Climbs ranks gap event part = slice_index ranks event + gap ≤ slice_index ranks part

-- one of the parts of a synchronisation, by which the rank climbs
pub record IsClimbAmong (parts : List (Bool × EventId)) (event : EventId) (ranks : List ℕ) (gap : ℕ)
    (part : EventId) : Type 0 where
  pub must : Bool
  pub is_part : IsOneOf parts (must, part)
  pub climbs : Climbs ranks gap event.n part.n

-- a link of the event: this way is the synchronisation at its place, and names its part, by which
-- the rank climbs
pub record IsClimbOf (way : DeclaredWay) (event : EventId) (ranks : List ℕ) (gap : ℕ)
    (l : Link) : Type 0 where
  pub parts : Vec (Bool × EventId) Global
  pub is : way ≡ Sync parts l.at
  pub event_is : l.event ≡ event
  pub climb : IsClimbAmong parts.items event ranks gap l.part

-- the same of one of the event's ways
pub record IsClimbIn (ways : List DeclaredWay) (event : EventId) (ranks : List ℕ) (gap : ℕ)
    (l : Link) : Type 0 where
  pub way : DeclaredWay
  pub is_way : IsOneOf ways way
  pub climb : IsClimbOf way event ranks gap l

-- the same of some event
pub record IsClimb (events : List DeclaredEvent) (ranks : List ℕ) (gap : ℕ)
    (l : Link) : Type 0 where
  pub declared : DeclaredEvent
  pub stands : Stands events l.event.n declared
  pub climb : IsClimbIn declared.ways.items l.event ranks gap l

-- no link has P, or this one has it and none before it
pub data IsFirstLink (P : Link → Type 0) : Option Link → Type 0 where
  nowhere : ((l : Link) → P l → ⊥) → IsFirstLink P None
  there : {l : Link} → P l → ((k : Link) → IsEarlier k.at l.at → P k → ⊥) → IsFirstLink P (Some l)

-- the last is the earlier one of the first two, as far as there are any
pub data IsEarlierLink : Option Link → Option Link → Option Link → Type 0 where
  no_first : {g : Option Link} → IsEarlierLink None g g
  no_second : {l : Link} → IsEarlierLink (Some l) None (Some l)
  first : {l k : Link} → (IsEarlier k.at l.at → ⊥) → IsEarlierLink (Some l) (Some k) (Some l)
  second : {l k : Link} → IsEarlier k.at l.at → IsEarlierLink (Some l) (Some k) (Some k)

-- some number below n has P at the link
pub record UntilLink (P : ℕ → Link → Type 0) (n : ℕ) (l : Link) : Type 0 where
  pub k : ℕ
  pub below : k < n
  pub holds : P k l

-- the event is a part of one of the ways
pub record IsPartOfWays (ways : List DeclaredWay) (x : EventId) : Type 0 where
  pub parts : Vec (Bool × EventId) Global
  pub at : Place
  pub is_way : IsOneOf ways (Sync parts at)
  pub must : Bool
  pub is_part : IsOneOf parts.items (must, x)

-- each part has a lesser rank than the event whose synchronisation names it
pub record Falls (events : List DeclaredEvent) (ranks : List ℕ) : Type 0 where
  pub falls : (e p : ℕ) → HasPart (declared_from 0 events) e p
      → slice_index ranks p < slice_index ranks e

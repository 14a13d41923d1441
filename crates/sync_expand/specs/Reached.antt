-- Which events are reached from one, told by marks.
use Rattle.std.specs.Prelude.{◌≡◌, ℕ, suc, ◌+◌, ◌<◌, ◌⊎◌, Bool, true, false, List, [], ◌∷◌, length, slice_index}
use Rattle.ar_base.specs.Lists.{Stands, IsOneOf}
use Rattle.ar_base.specs.NumbersInside.{EventId}
use Rattle.ar_meaning.specs.Expand.{ReachesPart}
use Rattle.gts_core.specs.Bound.{declared_from}
use Rattle.gts_core.specs.declared.bound.DeclaredEvent.{DeclaredEvent}
use Rattle.sync_expand.specs.declared.reach.Walk.{Walk}

-- the second event is the first or is reached from it
abbrev pub IsEventReached : List DeclaredEvent → ℕ → ℕ → Type 0
IsEventReached events from to = (from ≡ to) ⊎ ReachesPart (declared_from 0 events) from to

-- exactly the event itself and the events that are reached from it are marked
pub record AreReachedFrom (events : List DeclaredEvent) (from : ℕ) (marks : List Bool) : Type 0 where
  pub long : length marks ≡ length events
  pub only : (n : ℕ) → Stands marks n true → IsEventReached events from n
  pub all : (n : ℕ) → IsEventReached events from n → Stands marks n true

-- how many events are marked
abbrev pub marked : List Bool → ℕ
marked [] = 0
marked (true ∷ marks) = suc (marked marks)
marked (false ∷ marks) = marked marks

-- so many events are reached from the event, itself among them
pub record IsReachCount (events : List DeclaredEvent) (event count : ℕ) : Type 0 where
  pub marks : List Bool
  pub are : AreReachedFrom events event marks
  pub is : count ≡ marked marks

-- the same of each event
pub record AreReachCounts (events : List DeclaredEvent) (counts : List ℕ) : Type 0 where
  pub each : (n : ℕ) → n < length events → IsReachCount events n (slice_index counts n)

-- an event of this number that has P was met for the first time, and is ahead
pub record IsFirstMet (P : EventId → Type 0) (ahead : List EventId) (n : ℕ) : Type 0 where
  pub event : EventId
  pub has : P event
  pub number : event.n ≡ n
  pub is_ahead : IsOneOf ahead event

-- the events that have P are marked besides those of the old marks; those that were not marked before are ahead
pub record OpensEvents (P : EventId → Type 0) (old new : Walk) : Type 0 where
  pub long : length new.marks.items ≡ length old.marks.items
  pub kept : (n : ℕ) → Stands old.marks.items n true → Stands new.marks.items n true
  pub all : (x : EventId) → P x → Stands new.marks.items x.n true
  pub only : (n : ℕ) → Stands new.marks.items n true → Stands old.marks.items n true ⊎ IsFirstMet P new.ahead.items n
  pub waits : (x : EventId) → IsOneOf old.ahead.items x → IsOneOf new.ahead.items x
  pub ahead : (x : EventId) → IsOneOf new.ahead.items x → IsOneOf old.ahead.items x ⊎ Stands new.marks.items x.n true
  pub spent : marked new.marks.items + length old.ahead.items ≡ marked old.marks.items + length new.ahead.items

-- one of the parts
pub record IsAmong (parts : List (Bool × EventId)) (x : EventId) : Type 0 where
  pub must : Bool
  pub is_part : IsOneOf parts (must, x)

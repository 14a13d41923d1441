-- Events with two live edges, and the events that have one.
use Rattle.std.specs.Prelude.{◌≡◌, ◌<◌, ◌++◌, ℕ, nat_lt, if◌then◌else◌, List, [], ◌∷◌, length, replicate, Option, Some, None, slice_set}
use Rattle.ar_base.specs.Lists.{Stands}
use Rattle.ar_base.specs.NumbersInside.{EventId}
use Rattle.mode_search.specs.Events.{IsLeastNumber}
use Rattle.mode_search.specs.declared.listing.Live.{Live}
use Rattle.mode_search.specs.declared.sharing.Sharing.{Sharing}

-- the events of the live edges are among the first so many
pub record HaveEventsWithin (count : ℕ) (live : List Live) : Type 0 where
  pub within : (x : ℕ) (l : Live) → Stands live x l → l.edge.event.n < count

-- the first live edge of an event stands at place x
pub record IsFirstOf (live : List Live) (event x : ℕ) : Type 0 where
  pub live_edge : Live
  pub stands : Stands live x live_edge
  pub is_event : live_edge.edge.event.n ≡ event
  pub before : (k : ℕ) (l : Live) → k < x → Stands live k l → l.edge.event.n ≡ event → ⊥

-- the first live edge of an event is one of the first so many, and of the variable of number n
pub record HasFirstLive (live : List Live) (count event n : ℕ) : Type 0 where
  pub place : ℕ
  pub below : place < count
  pub first : IsFirstOf live event place
  pub number : first.live_edge.variable.n ≡ n

-- what is known of an event: the variable of its first live edge among the first so many, or that there is none
abbrev pub IsEventKnown : List Live → ℕ → ℕ → Option ℕ → Type 0
IsEventKnown live count event None = (k : ℕ) (l : Live) → k < count → Stands live k l → l.edge.event.n ≡ event → ⊥
IsEventKnown live count event (Some n) = HasFirstLive live count event n

-- some event has two live edges among the first so many, and its first is of the variable of number n
pub record IsShared (live : List Live) (count n : ℕ) : Type 0 where
  pub event : ℕ
  pub first : HasFirstLive live count event n
  pub place : ℕ
  pub below : place < count
  pub after : first.place < place
  pub second : Live
  pub stands : Stands live place second
  pub is_event : second.edge.event.n ≡ event

-- the lesser of what was found and a number
abbrev pub lesser_found : Option ℕ → ℕ → ℕ
lesser_found None n = n
lesser_found (Some m) n = if nat_lt n m then n else m

-- one of the first so many live edges is of the event
pub record IsLiveIn (live : List Live) (count : ℕ) (event : EventId) : Type 0 where
  pub place : ℕ
  pub below : place < count
  pub live_edge : Live
  pub stands : Stands live place live_edge
  pub is_event : live_edge.edge.event ≡ event

-- what is shared among the first so many live edges
pub record IsSharing (events : ℕ) (live : List Live) (count : ℕ) (s : Sharing) : Type 0 where
  pub long : length s.firsts.items ≡ events
  pub firsts : (e : ℕ) (o : Option ℕ) → Stands s.firsts.items e o → IsEventKnown live count e o
  pub sound : (k : ℕ) (e : EventId) → Stands s.events.items k e → IsLiveIn live count e
  pub whole : (k : ℕ) (l : Live) → k < count → Stands live k l
      → (j : ℕ) × (e : EventId) × Stands s.events.items j e × (e.n ≡ l.edge.event.n)
  pub different : (j k : ℕ) (d e : EventId) → Stands s.events.items j d → Stands s.events.items k e → d.n ≡ e.n → j ≡ k
  pub least : IsLeastNumber (IsShared live count) s.least

-- nothing of so many events
pub record IsEmptySharing (count : ℕ) (s : Sharing) : Type 0 where
  pub firsts : s.firsts.items ≡ replicate count None
  pub events : s.events.items ≡ []
  pub least : s.least ≡ None

-- one live edge more, of this event and variable
pub data Notes (event : EventId) (variable : ℕ) (old new : Sharing) : Type 0 where
  again : {v : ℕ} → Stands old.firsts.items event.n (Some v) → new.firsts.items ≡ old.firsts.items
      → new.events.items ≡ old.events.items → new.least ≡ Some (lesser_found old.least v)
      → Notes event variable old new
  fresh : Stands old.firsts.items event.n None → new.firsts.items ≡ slice_set old.firsts.items event.n (Some variable)
      → new.events.items ≡ old.events.items ++ event ∷ [] → new.least ≡ old.least
      → Notes event variable old new

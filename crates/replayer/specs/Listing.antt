-- Which ways can fire, as a test of their numbers, and as a list in the order of the text.
use Rattle.std.specs.Prelude.{ℕ, ◌≡◌, ◌<◌, Bool, true, if◌then◌else◌, List, [], ◌∷◌, ◌++◌, filter, length}
use Rattle.ar_base.specs.Lists.{Stands}
use Rattle.ar_base.specs.Numbers.{WayId}
use Rattle.domains.specs.declared.Value.{Value}
use Rattle.ar_meaning.specs.Systems.{Way}
use Rattle.ar_meaning.specs.Facts.{HasValue}
use Rattle.ar_meaning.specs.Found.{IsAnswer}
use Rattle.ar_meaning.specs.Ways.{Can}
use Rattle.gts_core.specs.View.{net_of, IsWayAt}
use Rattle.gts_core.specs.declared.system.Event.{Event}
use Rattle.gts_core.specs.declared.system.GtsParts.{GtsParts}
use Rattle.replayer.specs.declared.ready.Ready.{Ready}

-- the test says of each way whether it can fire
pub record AreAnswers (p : GtsParts) (t : List Value) (can : ℕ → Bool) : Type 0 where
  pub each : (n : ℕ) (w : Way ℕ) → IsWayAt p n w → IsAnswer (can n) (Can (HasValue (net_of p) t) w)

-- each of these ways is one of the system's
pub record AreInside (p : GtsParts) (ways : List WayId) : Type 0 where
  pub each : (k : ℕ) (w : WayId) → Stands ways k w → w.n < length p.ways.items

-- the ways of those of these events that are visible, by event and way
abbrev pub visible_ways : List Event → List WayId
visible_ways [] = []
visible_ways (e ∷ es) = (if e.hidden then [] else e.ways.items) ++ visible_ways es

-- those of these ways that can fire by the test
abbrev pub able : (ℕ → Bool) → List WayId → List WayId
able can ways = filter (λ (w : WayId). can w.n) ways

-- these are the visible ways that can fire under the valuation, by event and way
pub record AreReadyWays (p : GtsParts) (t : List Value) (ways : List WayId) : Type 0 where
  pub are : (can : ℕ → Bool) → AreAnswers p t can → ways ≡ able can (visible_ways p.events.items)

-- the visible ways are known, and where those of them that can fire are found, these are they
pub record IsListReady (p : GtsParts) (t : List Value) (ready : Ready) : Type 0 where
  pub visible : ready.visible.items ≡ visible_ways p.events.items
  pub ways : ready.found ≡ true → AreReadyWays p t ready.ways.items

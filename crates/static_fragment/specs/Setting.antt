-- What the layers below found of a system: its kept ways, what its variables reach, and its live edges.
use Rattle.std.specs.Prelude.{ℕ, Bool, List, length}
use Rattle.ar_meaning.specs.Systems.{System}
use Rattle.ar_meaning.specs.Runs.{Label}
use Rattle.gts_core.specs.View.{Views}
use Rattle.gts_core.specs.Sound.{IsSound}
use Rattle.gts_core.specs.declared.system.GtsParts.{GtsParts}
use Rattle.mode_search.specs.Events.{AreMarks}
use Rattle.mode_search.specs.Kept.{AreKeptWaysBefore}
use Rattle.mode_search.specs.declared.kept.KeptWay.{KeptWay}
use Rattle.mode_trees.specs.declared.forests.Edge.{Edge}
use Rattle.mode_trees.specs.Views.{number_in}
use Rattle.mode_search.specs.declared.searching.Reach.{Reach}
use Rattle.mode_search.specs.declared.listing.Live.{Live}
use Rattle.mode_search.specs.Reaches.{AreReaches}
use Rattle.mode_search.specs.Live.{AreLive}

-- these are the kept ways of the system that the parts stand for, where these events are dropped
pub record AreKeptWays (p : GtsParts) (system : System ℕ) (dropped : List ℕ) (kept : List KeptWay) : Type 0 where
  pub views : Views p system
  pub sound : IsSound p
  pub marks : List Bool
  pub marked : AreMarks (length p.events.items) dropped marks
  pub are : AreKeptWaysBefore p marks (length p.events.items) 0 kept

-- and this is what each variable reaches
pub record AreReached (p : GtsParts) (system : System ℕ) (dropped : List ℕ) (kept : List KeptWay) (reaches : List Reach)
    :
    Type 0 where
  pub ways : AreKeptWays p system dropped kept
  pub are : AreReaches p kept (length p.variables.items) reaches

-- and these are the live edges
pub record AreLiveEdges (p : GtsParts) (system : System ℕ) (dropped : List ℕ) (kept : List KeptWay)
    (reaches : List Reach) (live : List Live) : Type 0 where
  pub reached : AreReached p system dropped kept reaches
  pub are : AreLive reaches (length reaches) live

-- the label of an edge
abbrev pub label_in : GtsParts → Edge → Label
label_in p e = record { event = e.event.n; way = number_in p e.way.n }

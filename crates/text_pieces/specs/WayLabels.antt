-- The labels of ways by their numbers in a flat system.
use Rattle.std.specs.Prelude.{◌-◌, ℕ, List, length, Option, Some, None, slice_get}
use Rattle.ar_base.specs.Texts.{text_at}
use Rattle.ar_meaning.specs.Runs as runs
use Rattle.ar_meaning.specs.TraceText.{way_text}
use Rattle.gts_core.specs.declared.system.Event.{Event}
use Rattle.gts_core.specs.declared.system.GtsParts.{GtsParts}
use Rattle.gts_core.specs.declared.system.Way.{Way}
use Rattle.gts_flatten.specs.Flat.{naming_of_parts}

-- the label of a way that was looked up
abbrev pub way_label_found : Option Way → runs.Label
way_label_found (Some w) = record { event = w.event.n; way = w.number - 1 }
way_label_found None = record { event = 0; way = 0 }

-- the label of the way of this number
abbrev pub numbered_label : GtsParts → ℕ → runs.Label
numbered_label p n = way_label_found (slice_get p.ways.items n)

-- how many ways an event has that was looked up
abbrev pub ways_found : Option Event → ℕ
ways_found None = 0
ways_found (Some e) = length e.ways.items

-- the canonical label of the way of this number
abbrev pub way_label : GtsParts → ℕ → List ℕ
way_label p n = let l : runs.Label = numbered_label p n in
    way_text (text_at (naming_of_parts p).events l.event) (ways_found (slice_get p.events.items l.event)) l.way

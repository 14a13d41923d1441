-- Definitions beside those of Shortened, of which clauses inside the program speak: what the whole program promises
-- does not rest on them.
use Rattle.std.specs.Prelude.{ℕ, List, map}
use Rattle.zdd_nodes.specs.Families.{Family}
use Rattle.ar_base.specs.NumbersInside.{EventId, UnitId}
use Rattle.gate_modules.specs.declared.ranges.Range.{Range}
use Rattle.gate_modules.specs.declared.ranges.EventSet.{EventSet}
use Rattle.gate_modules.specs.declared.ranges.Module.{Module}
use Rattle.gate_modules.specs.declared.ranges.Short.{Short}
use Rattle.gate_modules.specs.declared.ranges.ShortSet.{ShortSet}
use Rattle.gate_modules.specs.Shortened.{UnitSets, ShortForm, IsShortened}

-- Families in short as the code keeps them

-- the numbers of the events
abbrev pub event_numbers : List EventId → List ℕ
event_numbers events = map (λ (e : EventId). e.n) events

-- a set of events
abbrev pub set_of : EventSet → List ℕ
set_of s = event_numbers s.events.items

-- a module
abbrev pub module_of : Module → UnitSets
module_of m = record { unit = m.unit.n; sets = map set_of m.sets.items }

-- a short form
abbrev pub short_form_of : ShortSet → ShortForm
short_form_of s = record { units = map (λ (u : UnitId). u.n) s.units.items; events = event_numbers s.events.items }

-- what is kept is the family in short
abbrev pub Shortens : Family → List Range → Short → Type 0
Shortens f ranges s = IsShortened f ranges (map module_of s.modules.items) (map short_form_of s.sets.items)

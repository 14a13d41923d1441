-- A table of the ways of events.
use Rattle.std.specs.Prelude.{◌≡◌, ◌<◌, ℕ, List, [], ◌∷◌, ◌++◌, map, length, Option, Some, None, Result, Ok, IsErr, slice_get, slice_set}
use Rattle.ar_base.specs.Lists.{Stands, IsOneOf}
use Rattle.ar_base.specs.Numbers.{WayId}
use Rattle.ar_base.specs.Texts.{line}
use Rattle.ar_meaning.specs.Flows.{FlowFault}
use Rattle.ar_meaning.specs.Runs.{Label}
use Rattle.flow_propagate.specs.Answers.{fault_of}
use Rattle.flow_propagate.specs.declared.propagation.FlowFault.{FlowFault as FoundFault}
use Rattle.gts_core.specs.declared.system.GtsParts.{GtsParts}
use Rattle.mode_trees.specs.declared.forests.Edge.{Edge}
use Rattle.stepper.specs.declared.faults.StepFault.{StepFault}
use Rattle.stepper.specs.declared.faults.StepFault.TheVariants as step
use Rattle.ar_base.specs.declared.faults.Memory.{Memory}
use Rattle.text_pieces.specs.WayLabels.{numbered_label, way_label}
use Rattle.cut_text.specs.Texts.{braced}

-- the table has the way of each of these edges at the number of its event
pub record HasEdgeWays (edges : List Edge) (ways : List WayId) : Type 0 where
  pub each : (x : Edge) → IsOneOf edges x
      → (way : WayId) × Stands ways x.event.n way × (way.n ≡ x.way.n)

-- the number of a way that was looked up
abbrev pub way_found : Option WayId → ℕ
way_found (Some w) = w.n
way_found None = 0

-- the number of the way of an event
abbrev pub way_at : List WayId → ℕ → ℕ
way_at ways e = way_found (slice_get ways e)

-- the canonical labels of the ways of these events
abbrev pub texts_at : GtsParts → List WayId → List ℕ → List (List ℕ)
texts_at p ways events = map (λ e. way_label p (way_at ways e)) events

-- the labels of the ways of these events
abbrev pub labels_at : GtsParts → List WayId → List ℕ → List Label
labels_at p ways events = map (λ e. numbered_label p (way_at ways e)) events

-- the lines of these sets
abbrev pub lines_at : GtsParts → List WayId → List (List ℕ) → List ℕ
lines_at p ways [] = []
lines_at p ways (events ∷ more) = line (braced (texts_at p ways events)) ++ lines_at p ways more

-- the table has a way of the system for the event
pub record HasWay (p : GtsParts) (ways : List WayId) (e : ℕ) : Type 0 where
  pub way : WayId
  pub stands : Stands ways e way
  pub inside : way.n < length p.ways.items

-- the same for each of these events
pub record HaveWays (p : GtsParts) (ways : List WayId) (events : List ℕ) : Type 0 where
  pub each : (e : ℕ) → IsOneOf events e → HasWay p ways e

-- the same for the events of each of these sets
pub record AllHaveWays (p : GtsParts) (ways : List WayId) (sets : List (List ℕ)) : Type 0 where
  pub each : (events : List ℕ) → IsOneOf sets events → HaveWays p ways events

-- the table with the way of each of these edges at the number of its event
abbrev pub with_ways : List Edge → List WayId → List WayId
with_ways [] ways = ways
with_ways (x ∷ xs) ways = with_ways xs (slice_set ways x.event.n x.way)

-- the fault that was found is this one
abbrev pub IsMet : FlowFault → Option FoundFault → Type 0
IsMet fault None = ⊥
IsMet fault (Some found) = fault_of found ≡ fault

-- the fault of a step is that of its flows, or none such; want of memory is one of its own
abbrev pub TellsFlow : StepFault → Result (Option FoundFault) Memory → Type 0
TellsFlow (step.Flow f) answer = answer ≡ Ok (Some f)
TellsFlow step.Memory answer = IsErr answer
TellsFlow step.NotEnabled answer = answer ≡ Ok None
TellsFlow (step.Clash x) answer = answer ≡ Ok None
TellsFlow (step.Range x) answer = answer ≡ Ok None

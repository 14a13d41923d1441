-- Definitions beside those of Naming, of which clauses inside the program speak: what the whole program promises does
-- not rest on them.
use Rattle.std.specs.Prelude.{◌<◌, ℕ, List, map, length, Result, Ok, Err, Vec}
use Rattle.std.specs.Global.{Global}
use Rattle.ar_base.specs.Lists.{IsOneOf}
use Rattle.ar_base.specs.NumbersInside.{EventId}
use Rattle.gts_core.specs.declared.system.GtsParts.{GtsParts}
use Rattle.gts_flatten.specs.Elaborating.{Elaborated}
use Rattle.job_inputs.specs.declared.reading.ListFault.{ListFault}
use Rattle.job_inputs.specs.declared.reading.ListFault.TheVariants.{NoEvent, Memory}
use Rattle.job_inputs.specs.Naming.{NamesEvents, HasUnknown}

-- each is an event of the system
pub record AreEventsOf (p : GtsParts) (events : List EventId) : Type 0 where
  pub each : (e : EventId) → IsOneOf events e → e.n < length p.events.items

-- what the reading of such a list answers: the events, which are the system's, or that a part names none
abbrev pub AnswersEvents : Elaborated → GtsParts → List ℕ → Result (Vec EventId Global) ListFault → Type 0
AnswersEvents x p text (Ok events) =
    NamesEvents x text (map (λ (e : EventId). e.n) events.items) × AreEventsOf p events.items
AnswersEvents x p text (Err NoEvent) = HasUnknown x text
AnswersEvents x p text (Err Memory) = Unit {0}

-- What the reading of an observer and a value answers.
use Rattle.std.specs.Prelude.{◌<◌, ℕ, List, length, Option, Some, None, Result, Ok, Err}
use Rattle.gts_core.specs.declared.system.GtsParts.{GtsParts}
use Rattle.gts_flatten.specs.Elaborating.{Elaborated}
use Rattle.job_inputs.specs.Wanting.{NamesObserver, IsWanted, NamesNone, WantsNone}
use Rattle.job_inputs.specs.declared.wanting.Wanted.{Wanted}
use Rattle.job_inputs.specs.declared.wanting.WantedFault.{WantedFault}
use Rattle.job_inputs.specs.declared.wanting.WantedFault.TheVariants.{NoObserver, NoValue, Memory}

-- the observer that a text names, or none
abbrev pub AnswersObserver : Elaborated → List ℕ → Option ℕ → Type 0
AnswersObserver x text (Some n) = NamesObserver x text n
AnswersObserver x text None = NamesNone x text

-- the observer, which is one of the flat system, with the value; or that none is named, or no value is asked for
abbrev pub AnswersWanted : Elaborated → GtsParts → List ℕ → Option (List ℕ) → Result Wanted WantedFault → Type 0
AnswersWanted x p observer word (Ok w) =
    IsWanted x observer word w.observer w.value × (w.observer < length p.observers.items)
AnswersWanted x p observer word (Err NoObserver) = NamesNone x observer
AnswersWanted x p observer word (Err NoValue) = WantsNone x observer word
AnswersWanted x p observer word (Err Memory) = Unit {0}

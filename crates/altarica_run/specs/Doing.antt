-- What the calls that do a job answer.
use Rattle.std.specs.Prelude.{◌≡◌, ◌≤◌, ℕ, true, false, List, Some, None, Result, Ok, Err, length}
use Rattle.ar_base.specs.Counts.{limit_of}
use Rattle.ar_base.specs.declared.counts.Count.TheVariants.{ModelBytes}
use Rattle.ar_io.specs.Loads.{Load}
use Rattle.ar_io.specs.Outside.{Told}
use Rattle.ar_io.specs.Writing.{SinkState}
use Rattle.run_words.specs.Commands.{shape_of}
use Rattle.run_words.specs.CommandsInside.{is_second}
use Rattle.run_words.specs.Jobs.{IsAsked}
use Rattle.run_words.specs.declared.jobs.Asked.{Asked}
use Rattle.job_stages.specs.Files.{files_of, Loads}
use Rattle.job_stages.specs.Jobs.{IsNoJob}
use Rattle.job_stages.specs.Loading.{texts_of}
use Rattle.job_stages.specs.Passing.{IsThere}
use Rattle.job_stages.specs.Refusals.{line_of, status_of}
use Rattle.altarica_run.specs.Reading.{SaysBy, AreLoadsOf, EndsBy}
use Rattle.altarica_run.specs.Says.{EndsSo}
use Rattle.job_stages.specs.Stages.{Ready, Passes, Stages, has_table, observer_asked}
use Rattle.job_stages.specs.Telling.{IsWrittenFor}
use Rattle.job_stages.specs.Tells.{Tells}
use Rattle.job_stages.specs.declared.loading.Texts.{Texts}
use Rattle.job_stages.specs.declared.refusals.FileKind.{FileKind}
use Rattle.job_stages.specs.declared.refusals.Refusal.{Refusal}
use Rattle.job_stages.specs.declared.refusals.Refusal.TheVariants.{Usage, NotRead}
use Rattle.job_stages.specs.declared.status.Status.{Status}
use Rattle.job_stages.specs.declared.stops.Stop.{Stop}
use Rattle.job_stages.specs.declared.stops.Stop.TheVariants.{Refused, Memory}

-- Commands

-- what a command of the words is given: a model within its limit, a second file where it reads one, an observer where it
-- asks for the value of one, a list of dropped events and a number of events only where it takes them, and a limit of nodes
pub record AreGiven (asked : Asked) (texts : Texts) : Type 0 where
  pub model : length texts.model.items ≤ limit_of ModelBytes
  pub second : is_second (shape_of asked.job.command).files ≡ true → IsThere texts.script
  pub observer : has_table asked.job.command ≡ true → (path : List ℕ) × (observer_asked asked ≡ Some path)
  pub dropped : (shape_of asked.job.command).dropped ≡ false → asked.job.dropped ≡ None
  pub order : (shape_of asked.job.command).order ≡ false → asked.order ≡ None
  pub nodes : asked.job.nodes ≤ 16777216

-- the job's text is written once all its stages are passed; or a stage refuses, or memory is refused, and the sink is as
-- it was
abbrev pub AnswersFor : Asked → Texts → SinkState → SinkState → Result Status Stop → Type 0
AnswersFor asked texts old new (Ok status) =
    (w : Ready) × Stages asked (texts_of asked texts) texts.model.items (Ok w)
    × IsWrittenFor asked (Tells asked w) old new status
AnswersFor asked texts old new (Err (Refused r)) =
    Stages asked (texts_of asked texts) texts.model.items (Err r) × (new ≡ old)
AnswersFor asked texts old new (Err Memory) = new ≡ old

-- Words

-- the words are refused: they are no job, or a stage of the job refuses, or a file was not read
pub data RefusesWords (files : List ℕ → Told) (rose : List ℕ → Type 0) (words : List (List ℕ)) : Refusal → Type 0 where
  no_job : IsNoJob words → RefusesWords files rose words Usage
  stage : {r : Refusal} (asked : Asked) → IsAsked words asked → Passes files asked (Err r) → RefusesWords files rose words r
  not_read : {kind : FileKind} {name : List ℕ} (asked : Asked) → IsAsked words asked → Loads files (files_of asked) kind name
      → rose name
      → RefusesWords files rose words (NotRead kind)

-- the words were answered; or they are refused, or memory is refused, and the sink is as it was
abbrev pub AnswersWords : (List ℕ → Told) → (List ℕ → Type 0) → List (List ℕ) → SinkState → SinkState
    → Result Status Stop → Type 0
AnswersWords files rose words old new (Ok status) = EndsSo files rose words old new status
AnswersWords files rose words old new (Err (Refused r)) = RefusesWords files rose words r × (new ≡ old)
AnswersWords files rose words old new (Err Memory) = new ≡ old

-- the same by the loads that were made: the words were answered by what they gave; or they are refused, or memory is
-- refused, and the sink is as it was
abbrev pub AnswersReading : List (List ℕ) → SinkState → SinkState → Result Status Stop → List Load → Type 0
AnswersReading words old new (Ok status) loads = EndsBy loads words old new status
AnswersReading words old new (Err (Refused r)) loads = SaysBy loads words (line_of r) (status_of r) × (new ≡ old)
AnswersReading words old new (Err Memory) loads = AreLoadsOf words loads × (new ≡ old)

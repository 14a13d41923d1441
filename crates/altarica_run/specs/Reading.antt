-- What words say over the files that a call read, and how the call ends.
use Rattle.std.specs.Prelude.{◌≡◌, ◌⊎◌, ℕ, List, [], Ok, Err}
use Rattle.ar_io.specs.Loads.{Load}
use Rattle.ar_io.specs.Outside.{Rose}
use Rattle.ar_io.specs.Writing.{SinkState, Appended, WroteFront}
use Rattle.run_words.specs.declared.jobs.Asked.{Asked}
use Rattle.run_words.specs.declared.verbs.Verb.TheVariants.{Replay}
use Rattle.run_words.specs.Jobs.{IsAsked}
use Rattle.job_stages.specs.Files.{files_of}
use Rattle.job_stages.specs.Jobs.{IsNoJob}
use Rattle.job_stages.specs.Logs.{AreLoads, Grew, PassesBy}
use Rattle.job_stages.specs.Refusals.{line_of, status_of}
use Rattle.job_stages.specs.Stages.{Ready}
use Rattle.job_stages.specs.Tells.{Tells}
use Rattle.job_stages.specs.declared.refusals.Refusal.{Refusal}
use Rattle.job_stages.specs.declared.refusals.Refusal.TheVariants.{Usage}
use Rattle.job_stages.specs.declared.status.Status.{Status}
use Rattle.job_stages.specs.declared.status.Status.TheVariants as status

-- the words over what these loads gave say this text and end so: they are no job, and nothing was loaded; or a file did
-- not come, or a stage of the job refuses; or all stages are passed
pub data SaysBy (loads : List Load) (words : List (List ℕ)) : List ℕ → Status → Type 0 where
  usage : IsNoJob words → loads ≡ [] → SaysBy loads words (line_of Usage) (status_of Usage)
  refuses : (asked : Asked) (r : Refusal) → IsAsked words asked → PassesBy loads asked (Err r)
      → SaysBy loads words (line_of r) (status_of r)
  tells : {text : List ℕ} {ends : Status} (asked : Asked) (w : Ready) → IsAsked words asked → PassesBy loads asked (Ok w)
      → Tells asked w text ends
      → SaysBy loads words text ends

-- the loads are those of the files of the words' job, in their order, up to the first file that did not come, or there
-- are none: words that are no job load nothing, and memory may be refused before the first load
abbrev pub AreLoadsOf : List (List ℕ) → List Load → Type 0
AreLoadsOf words loads = (loads ≡ []) ⊎ ((asked : Asked) × IsAsked words asked × AreLoads (files_of asked) loads)

-- How a call ends that made these loads: it says what its words say over what they gave; or the sink's count rose, and
-- it has some first bytes of that.
-- But where the sink's count rose it is as it was: no fault of the sink passes unseen.
-- Where memory is refused the sink is as it was, but that a replay, which writes as it goes, may have written some first
-- bytes of its trace.
pub data EndsBy (loads : List Load) (words : List (List ℕ)) (old new : SinkState) : Status → Type 0 where
  says : {text : List ℕ} {ends : Status} → SaysBy loads words text ends → Appended old.bytes new.bytes text
      → new.faults ≡ old.faults
      → EndsBy loads words old new ends
  not_written : {text : List ℕ} {ends : Status} → SaysBy loads words text ends → Rose old.faults new.faults
      → WroteFront old.bytes new.bytes text
      → EndsBy loads words old new status.Write
  no_memory : AreLoadsOf words loads → new ≡ old → EndsBy loads words old new status.Memory
  replay_stopped : {text : List ℕ} {ends : Status} (asked : Asked) (w : Ready) → IsAsked words asked → asked.job.command ≡ Replay
      → PassesBy loads asked (Ok w) → Tells asked w text ends
      → WroteFront old.bytes new.bytes text → new.faults ≡ old.faults
      → EndsBy loads words old new status.Memory

-- what a call of these words answers by the log of its shelf: the log grew by loads, which are those of the job's files
-- and no others, and by what they gave the call ends so; each of log and sink before and after the call
abbrev pub AnswersBy : List (List ℕ) → List Load → List Load → SinkState → SinkState → Status → Type 0
AnswersBy words log_old log_new old new s = Grew log_old log_new (λ loads. EndsBy loads words old new s)

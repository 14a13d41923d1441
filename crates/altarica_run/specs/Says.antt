-- What words say: their text and how they end, and how a call of them may end.
use Rattle.std.specs.Prelude.{◌≡◌, ℕ, List, [], Ok, Err}
use Rattle.ar_io.specs.Outside.{Told, Rose}
use Rattle.ar_io.specs.Writing.{SinkState, Appended, WroteFront}
use Rattle.run_words.specs.declared.jobs.Asked.{Asked}
use Rattle.run_words.specs.declared.verbs.Verb.TheVariants.{Replay}
use Rattle.run_words.specs.Jobs.{IsAsked}
use Rattle.job_stages.specs.Files.{files_of, Loads}
use Rattle.job_stages.specs.Jobs.{IsNoJob}
use Rattle.job_stages.specs.Refusals.{line_of, status_of}
use Rattle.job_stages.specs.Stages.{Ready, Passes}
use Rattle.job_stages.specs.Tells.{Tells}
use Rattle.job_stages.specs.declared.refusals.FileKind.{FileKind}
use Rattle.job_stages.specs.declared.refusals.Refusal.{Refusal}
use Rattle.job_stages.specs.declared.refusals.Refusal.TheVariants.{Usage, NotRead}
use Rattle.job_stages.specs.declared.status.Status.{Status}
use Rattle.job_stages.specs.declared.status.Status.TheVariants as status

-- the words over these files say this text and end so: they are no job, or a stage of the job refuses, or all stages
-- are passed
pub data Says (files : List ℕ → Told) (words : List (List ℕ)) : List ℕ → Status → Type 0 where
  usage : IsNoJob words → Says files words (line_of Usage) (status_of Usage)
  refuses : (asked : Asked) (r : Refusal) → IsAsked words asked → Passes files asked (Err r)
      → Says files words (line_of r) (status_of r)
  tells : {text : List ℕ} {ends : Status} (asked : Asked) (w : Ready) → IsAsked words asked → Passes files asked (Ok w)
      → Tells asked w text ends
      → Says files words text ends

-- a text of which the call may have written first bytes: nothing, what the words say, or the line of a file that was
-- not read
pub data Begins (files : List ℕ → Told) (rose : List ℕ → Type 0) (words : List (List ℕ)) : List ℕ → Type 0 where
  nothing : Begins files rose words []
  said : {text : List ℕ} {ends : Status} → Says files words text ends → Begins files rose words text
  not_read : {kind : FileKind} {name : List ℕ} (asked : Asked) → IsAsked words asked → Loads files (files_of asked) kind name
      → rose name
      → Begins files rose words (line_of (NotRead kind))

-- How a call ends: it says what its words say; or a file was not read, whose count of faults rose; or the sink's count
-- rose, and it has some first bytes of a text that the call may write; or memory was refused.
-- But where the sink's count rose it is as it was: no fault of the sink passes unseen.
-- Where memory is refused the sink is as it was, but that a replay, which writes as it goes, may have written some first
-- bytes of what the words say.
pub data EndsSo (files : List ℕ → Told) (rose : List ℕ → Type 0) (words : List (List ℕ)) (old new : SinkState) : Status
    → Type 0 where
  says : {text : List ℕ} {ends : Status} → Says files words text ends → Appended old.bytes new.bytes text
      → new.faults ≡ old.faults
      → EndsSo files rose words old new ends
  not_read : {kind : FileKind} {name : List ℕ} (asked : Asked) → IsAsked words asked → Loads files (files_of asked) kind name
      → rose name
      → Appended old.bytes new.bytes (line_of (NotRead kind)) → new.faults ≡ old.faults
      → EndsSo files rose words old new status.Read
  not_written : {text : List ℕ} → Begins files rose words text → Rose old.faults new.faults
      → WroteFront old.bytes new.bytes text
      → EndsSo files rose words old new status.Write
  no_memory : new ≡ old → EndsSo files rose words old new status.Memory
  replay_stopped : {text : List ℕ} {ends : Status} (asked : Asked) → IsAsked words asked → asked.job.command ≡ Replay
      → Says files words text ends → WroteFront old.bytes new.bytes text
      → new.faults ≡ old.faults
      → EndsSo files rose words old new status.Memory

-- What each way to end means.
use Rattle.std.specs.Prelude.{◌≡◌, ℕ, List, Ok, Err}
use Rattle.run_words.specs.declared.jobs.Asked.{Asked}
use Rattle.run_words.specs.Jobs.{IsAsked}
use Rattle.job_stages.specs.Files.{files_of, Loads}
use Rattle.altarica_run.specs.Follows.{Call, RoseAt, SinkRose, Wrote}
use Rattle.job_stages.specs.Jobs.{IsNoJob}
use Rattle.job_stages.specs.Refusals.{line_of, status_of}
use Rattle.job_stages.specs.Stages.{Ready, Passes}
use Rattle.job_stages.specs.Tells.{Tells}
use Rattle.job_stages.specs.declared.refusals.FileKind.{FileKind}
use Rattle.job_stages.specs.declared.refusals.Refusal.{Refusal}
use Rattle.job_stages.specs.declared.refusals.Refusal.TheVariants as refusal
use Rattle.job_stages.specs.declared.status.Status.{Status}
use Rattle.job_stages.specs.declared.status.Status.TheVariants.{Done, Usage, Syntax, Rule, Outside, Fault, Nodes, Read, Write, Memory, Size, Script}

-- all stages of the job are passed, and its whole text was written
pub record IsWholeTold (c : Call) (status : Status) : Type 0 where
  pub asked : Asked
  pub is_job : IsAsked c.words asked
  pub ready : Ready
  pub passes : Passes c.files asked (Ok ready)
  pub text : List ℕ
  pub tells : Tells asked ready text status
  pub wrote : Wrote c text

-- a stage of the job refuses, its line was written, and the status is its own
pub record IsRefused (c : Call) (status : Status) : Type 0 where
  pub asked : Asked
  pub is_job : IsAsked c.words asked
  pub refusal : Refusal
  pub stage : Passes c.files asked (Err refusal)
  pub is_status : status ≡ status_of refusal
  pub wrote : Wrote c (line_of refusal)

-- a file was to be loaded, its own count of faults rose, and the line that says so was written
pub record IsNotRead (c : Call) : Type 0 where
  pub asked : Asked
  pub is_job : IsAsked c.words asked
  pub kind : FileKind
  pub name : List ℕ
  pub loads : Loads c.files (files_of asked) kind name
  pub rose : RoseAt c name
  pub wrote : Wrote c (line_of (refusal.NotRead kind))

-- what each status means
abbrev pub Meaning_of : Call → Status → Type 0
Meaning_of c Done = IsWholeTold c Done
Meaning_of c Usage = IsNoJob c.words × Wrote c (line_of refusal.Usage)
Meaning_of c Syntax = IsRefused c Syntax
Meaning_of c Rule = IsRefused c Rule
Meaning_of c Outside = IsRefused c Outside
Meaning_of c Fault = IsWholeTold c Fault
Meaning_of c Nodes = IsWholeTold c Nodes
Meaning_of c Read = IsNotRead c
Meaning_of c Write = SinkRose c
Meaning_of c Memory = Unit {0}
Meaning_of c Size = IsRefused c Size
Meaning_of c Script = IsRefused c Script

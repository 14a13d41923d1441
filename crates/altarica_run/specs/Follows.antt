-- Calls, and what may follow of one in single statements.
use Rattle.std.specs.Prelude.{ℕ, List, Option}
use Rattle.ar_io.specs.Outside.{Told, Bytes, Absent, Untold, Rose}
use Rattle.ar_io.specs.Writing.{SinkState, Appended, WroteFront}
use Rattle.altarica_run.specs.Answers.{Answers, IsUntouched}
use Rattle.run_words.specs.declared.jobs.Asked.{Asked}
use Rattle.job_stages.specs.Refusals.{line_of}
use Rattle.altarica_run.specs.Says.{Says, Begins}
use Rattle.job_stages.specs.declared.refusals.FileKind.TheVariants.{Model, Script}
use Rattle.job_stages.specs.declared.refusals.Refusal.TheVariants.{NotRead}
use Rattle.job_stages.specs.declared.status.Status.{Status}

-- a call: its words, and what is told of files, the counts of faults of names, the sink's bytes and the sink's count,
-- each before and after
pub record Call : Type 0 where
  pub words : List (List ℕ)
  pub files : List ℕ → Told
  pub files_new : List ℕ → Told
  pub faults_old : List ℕ → ℕ
  pub faults_new : List ℕ → ℕ
  pub old : Option (List ℕ)
  pub new : Option (List ℕ)
  pub sink_old : ℕ
  pub sink_new : ℕ

-- the call answers with this status
abbrev pub Gave : Call → Status → Type 0
Gave c status =
    Answers c.words c.files c.files_new c.faults_old c.faults_new c.old c.new c.sink_old c.sink_new status

-- the count of faults of this name rose
abbrev pub RoseAt : Call → List ℕ → Type 0
RoseAt c name = Rose (c.faults_old name) (c.faults_new name)

-- the sink's count of faults rose
abbrev pub SinkRose : Call → Type 0
SinkRose c = Rose c.sink_old c.sink_new

-- no count of faults rose
pub record IsQuiet (c : Call) : Type 0 where
  pub read : (name : List ℕ) → RoseAt c name → ⊥
  pub written : SinkRose c → ⊥

-- the sink before and after the call
abbrev pub sink_before : Call → SinkState
sink_before c = record { bytes = c.old; faults = c.sink_old }

abbrev pub sink_after : Call → SinkState
sink_after c = record { bytes = c.new; faults = c.sink_new }

-- the sink has its old bytes and then exactly this text
abbrev pub Wrote : Call → List ℕ → Type 0
Wrote c text = Appended c.old c.new text

-- something is told of the file: its bytes, or that there is none
abbrev pub IsKnown : Told → Type 0
IsKnown (Bytes bytes) = Unit {0}
IsKnown Absent = Unit {0}
IsKnown Untold = ⊥

-- nothing of the shelf changed: of no name what is told of it, nor its count of faults
pub record IsShelfSame (c : Call) : Type 0 where
  pub each : (name : List ℕ) → IsUntouched (c.files name) (c.files_new name) (c.faults_old name) (c.faults_new name)

-- the line says that a file of the job was not read, and that file's count rose: it is the script, or the model before it
pub data LacksScript (c : Call) (asked : Asked) (name : List ℕ) : Type 0 where
  script : RoseAt c name → Wrote c (line_of (NotRead Script)) → LacksScript c asked name
  model : RoseAt c asked.job.model → Wrote c (line_of (NotRead Model)) → LacksScript c asked name

-- the text that the words say was written, and the status is theirs
pub record IsTextSaid (c : Call) (status : Status) : Type 0 where
  pub text : List ℕ
  pub said : Says c.files c.words text status
  pub wrote : Wrote c text

-- the sink has its old bytes and then the first bytes of a text that the call may write, or all of them
pub record IsPrefix (c : Call) : Type 0 where
  pub text : List ℕ
  pub begins : Begins c.files (RoseAt c) c.words text
  pub front : WroteFront c.old c.new text

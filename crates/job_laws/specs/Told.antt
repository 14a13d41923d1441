-- How a call ends of whose job it is known what stands ready for it, or why it is refused.
use Rattle.std.specs.Prelude.{◌≡◌, ◌⊎◌, ℕ, List}
use Rattle.run_words.specs.declared.jobs.Asked.{Asked}
use Rattle.altarica_run.specs.Follows.{Call, SinkRose, Wrote}
use Rattle.job_stages.specs.Refusals.{line_of, status_of}
use Rattle.job_stages.specs.Stages.{Ready}
use Rattle.altarica_run.specs.Statuses.{IsNotRead}
use Rattle.job_stages.specs.Tells.{Tells}
use Rattle.job_stages.specs.declared.refusals.Refusal.{Refusal}
use Rattle.job_stages.specs.declared.status.Status.{Status}
use Rattle.job_stages.specs.declared.status.Status.TheVariants.{Read, Write, Memory}

-- a file of the job was not read, whose count of faults rose and of which the line says so; or the sink's count rose;
-- or memory was refused
abbrev pub IsStopped : Call → Status → Type 0
IsStopped c s = ((s ≡ Read) × IsNotRead c) ⊎ (((s ≡ Write) × SinkRose c) ⊎ (s ≡ Memory))

-- a text that the job tells was written whole, and the call ends as this text does
pub record IsAnswered (c : Call) (asked : Asked) (w : Ready) (s : Status) : Type 0 where
  pub text : List ℕ
  pub tells : Tells asked w text s
  pub wrote : Wrote c text

-- the call ends with this status, and a text with P was written whole
abbrev pub IsToldWith : Call → Status → Status → (List ℕ → Type 0) → Type 0
IsToldWith c s ends P = (s ≡ ends) × ((text : List ℕ) × P text × Wrote c text)

-- the call ends with this refusal, its line and its status, or it was stopped
abbrev pub IsToldAs : Call → Status → Refusal → Type 0
IsToldAs c s r = ((s ≡ status_of r) × Wrote c (line_of r)) ⊎ IsStopped c s

-- What a call of the program answers.
use Rattle.std.specs.Prelude.{◌≡◌, ℕ, List, Option}
use Rattle.ar_io.specs.Outside.{Told, Rose}
use Rattle.job_stages.specs.Jobs.{LoadsNothing}
use Rattle.altarica_run.specs.Says.{EndsSo}
use Rattle.job_stages.specs.declared.status.Status.{Status}

-- what is told of the file and its count of faults are as they were
pub record IsUntouched (told_old told_new : Told) (faults_old faults_new : ℕ) : Type 0 where
  pub told : told_new ≡ told_old
  pub faults : faults_new ≡ faults_old

-- the words, what is told of files, the counts of faults of names and the sink's bytes and count, each before and
-- after, and the status
pub record Answers (words : List (List ℕ)) (files_old files_new : List ℕ → Told) (faults_old faults_new : List ℕ → ℕ)
    (old new : Option (List ℕ)) (sink_old sink_new : ℕ) (status : Status) : Type 0 where
  pub ends : EndsSo files_old (λ name. Rose (faults_old name) (faults_new name)) words
      (record { bytes = old; faults = sink_old }) (record { bytes = new; faults = sink_new }) status
  pub untouched : LoadsNothing words
      → (name : List ℕ) → IsUntouched (files_old name) (files_new name) (faults_old name) (faults_new name)

-- Sources of which words ask one thing, and what words say of a source.
use Rattle.std.specs.Prelude.{◌≡◌, ◌⊎◌, ℕ, true, List, Ok, Err}
use Rattle.ar_meaning.specs.FactsInside.{AreKeyed}
use Rattle.gts_flatten.specs.Elaborating.{Elaborated}
use Rattle.run_words.specs.declared.jobs.Asked.{Asked}
use Rattle.job_laws.specs.Named.{NamesOnce}
use Rattle.job_stages.specs.Refusals.{line_of, status_of}
use Rattle.job_stages.specs.Stages.{Ready, Readies, lists_cuts}
use Rattle.job_stages.specs.Tells.{Tells, nodes_line}
use Rattle.job_stages.specs.declared.refusals.Refusal.{Refusal}
use Rattle.job_stages.specs.declared.status.Status.{Status}
use Rattle.job_stages.specs.declared.status.Status.TheVariants.{Nodes}

-- labels, paths and words name one thing each in the source, and no two variables have one key
pub record IsDefinite (x : Elaborated) : Type 0 where
  pub names : NamesOnce x
  pub keyed : AreKeyed x.system.net

-- the stages behind the source refuse the job, whose files have these texts, with this line and status; or all of them
-- are passed, and the job has this text and ends so
pub data SaysOf (asked : Asked) (texts : List (List ℕ)) (x : Elaborated) : List ℕ → Status → Type 0 where
  refuses : {r : Refusal} → Readies asked texts x (Err r) → SaysOf asked texts x (line_of r) (status_of r)
  tells : {w : Ready} {text : List ℕ} {ends : Status} → Readies asked texts x (Ok w) → Tells asked w text ends
      → SaysOf asked texts x text ends

-- the text is the line `nodes: N` of the limit that the job gives, with its status
abbrev pub SaysNodes : Asked → List ℕ → Status → Type 0
SaysNodes asked text ends = (text ≡ nodes_line asked.job.nodes) × (ends ≡ Nodes)

-- the texts are one, and both end alike; or cuts are asked for, and one of the two is the line `nodes: N`
abbrev pub AgreeButNodes : Asked → List ℕ → Status → List ℕ → Status → Type 0
AgreeButNodes asked s a t b =
    ((s ≡ t) × (a ≡ b)) ⊎ ((lists_cuts asked.job.command ≡ true) × (SaysNodes asked s a ⊎ SaysNodes asked t b))

-- What follows where no more nodes than the limit may be needed.
use Rattle.std.specs.Prelude.{ℕ, List, Ok}
use Rattle.ar_firing.specs.Cuts.{MeetsConflict}
use Rattle.firable_families.specs.Firable.{AndUpTo}
use Rattle.run_words.specs.declared.jobs.Asked.{Asked}
use Rattle.run_words.specs.declared.verbs.Verb.{Verb}
use Rattle.run_words.specs.declared.verbs.Verb.TheVariants.{Cuts, Make, CheckCuts, Modules}
use Rattle.altarica_run.specs.Follows.{Call}
use Rattle.job_stages.specs.Stages.{Ready, Passes}
use Rattle.job_stages.specs.Tells.{IsCutsText, IsMakeText, IsCheckedText, IsShortText, MayNeedMore}

-- some set of events that are not dropped, of at most as many as are asked for, meets a conflict
abbrev pub HasConflict : Ready → Type 0
HasConflict w = (set : List ℕ) × AndUpTo w.order (MeetsConflict w.source.system w.dropped) set

-- what the command writes of the cuts
abbrev pub IsTextOfCuts : Verb → Asked → Ready → List ℕ → Type 0
IsTextOfCuts Cuts asked w text = IsCutsText w asked.job.nodes text
IsTextOfCuts Make asked w text = IsMakeText w asked.job.number asked.job.nodes text
IsTextOfCuts CheckCuts asked w text = IsCheckedText w asked.job.nodes text
IsTextOfCuts Modules asked w text = IsShortText w asked.job.nodes text
IsTextOfCuts _ asked w text = ⊥

-- however the job's text is read, what stands ready then needs no more nodes than the job's limit
abbrev pub HasEnough : Call → Asked → Type 0
HasEnough c asked = (w : Ready) → Passes c.files asked (Ok w) → MayNeedMore w asked.job.nodes → ⊥

-- P holds of all that stands ready for the job, however its text is read
abbrev pub OfAllReady : Call → Asked → (Ready → Type 0) → Type 0
OfAllReady c asked P = (w : Ready) → Passes c.files asked (Ok w) → P w

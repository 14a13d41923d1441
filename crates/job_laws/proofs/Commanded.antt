-- A call of a job that is answered, or stopped, by command.
use Rattle.std.proofs.Common.{◌≡◌, ◌⊎◌, ℕ, List, Some, inl, inr, subst}
use Rattle.replayer.specs.Replays.{IsReplay}
use Rattle.replayer.specs.Settles.{IsFaultLine}
use Rattle.replayer.specs.declared.ends.End.{End}
use Rattle.gts_flatten.specs.Flat.{naming_of}
use Rattle.hierarchy.specs.Listing.{variables}
use Rattle.job_inputs.specs.declared.wanting.Wanted.{Wanted}
use Rattle.run_words.specs.declared.jobs.Asked.{Asked}
use Rattle.run_words.specs.declared.verbs.Verb.{Verb}
use Rattle.run_words.specs.declared.verbs.Verb.TheVariants as verb
use Rattle.table_text.specs.Texts.{IsTableText}
use Rattle.altarica_run.specs.Follows.{Call, Wrote}
use Rattle.job_stages.specs.Stages.{Ready}
use Rattle.job_stages.specs.Tells.{Tells, IsExplained, status_at}
use Rattle.job_stages.specs.declared.status.Status.{Status}
use Rattle.job_stages.specs.declared.status.Status.TheVariants.{Done, Fault}
use Rattle.job_laws.specs.Told.{IsStopped, IsAnswered, IsToldWith}
use Rattle.job_laws.proofs.Asking.{same_some}
use Rattle.job_laws.proofs.Enough.{told_with}
use Rattle.job_laws.proofs.Telling.{Well, Replayed, TableTold, Explained, Told, told_by}

-- what is told is what this command tells
by_command : (asked : Asked) (w : Ready) (s : Status) (v : Verb) → asked.job.command ≡ v → (text : List ℕ) → Tells asked w text s
    → Told v asked w text s
by_command asked w s v e text t = subst (λ (u : Verb). Told u asked w text s) e (told_by asked w text s t)

module _ (c : Call) (asked : Asked) (w : Ready) (s : Status) (answer : IsAnswered c asked w s ⊎ IsStopped c s) where
  -- a text with which each job of the command ends well
  pub well_or_stopped : (v : Verb) → asked.job.command ≡ v → (P : List ℕ → Type 0)
      → ((text : List ℕ) → Told v asked w text s → Well P text s) → IsToldWith c s Done P ⊎ IsStopped c s
  well_or_stopped v e P well =
      told_with c asked w s Done P (λ text t. let h = well text (by_command asked w s v e text t) in (h.1, h.0)) answer

  -- the gate table of the observer and the value that are asked for
  pub table_or_stopped : asked.job.command ≡ verb.Equations → (wanted : Wanted) → w.wanted ≡ Some wanted
      → IsToldWith c s Done (λ text. IsTableText (variables w.source.declarations.model w.source.declarations.units)
      (naming_of w.source.declarations) w.source.system w.dropped wanted.observer wanted.value text)
      ⊎ IsStopped c s
  table_or_stopped e wanted are =
      well_or_stopped verb.Equations e _ (λ text h. (at text h.0, h.1))
    where
      at : (text : List ℕ) → TableTold w text
          → IsTableText (variables w.source.declarations.model w.source.declarations.units)
          (naming_of w.source.declarations) w.source.system w.dropped wanted.observer wanted.value text
      at text t =
          subst
          (λ (z : Wanted). IsTableText (variables w.source.declarations.model w.source.declarations.units)
          (naming_of w.source.declarations) w.source.system w.dropped z.observer z.value text)
          (same_some w.wanted t.wanted wanted t.are are) t.is_text

-- The trace of a run, with the status of its end

module _ (c : Call) (asked : Asked) (w : Ready) (s : Status) where
  abbrev IsRun : Type 0
  IsRun =
      (last : End)
      × IsToldWith c s (status_at last)
      (λ text. IsReplay (naming_of w.source.declarations) w.source.system w.commands text last)

  run_of : (text : List ℕ) → Replayed w text s → Wrote c text → IsRun
  run_of text r a = (r.last, (r.is_status, (text, r.replay, a)))

  pub run_or_stopped : asked.job.command ≡ verb.Replay → IsAnswered c asked w s ⊎ IsStopped c s → IsRun ⊎ IsStopped c s
  run_or_stopped e (inl a) = inl (run_of a.text (by_command asked w s verb.Replay e a.text a.tells) a.wrote)
  run_or_stopped e (inr h) = inr h

  -- an explanation, or the line of the fault in which the run ends
  abbrev IsReason : Type 0
  IsReason =
      IsToldWith c s Done (IsExplained w)
      ⊎ IsToldWith c s Fault (IsFaultLine (naming_of w.source.declarations) w.source.system w.commands)

  reason_of : (text : List ℕ) → Explained w text s → Wrote c text → IsReason
  reason_of text (inl h) a = inl (h.1, (text, h.0, a))
  reason_of text (inr h) a = inr (h.1, (text, h.0, a))

  pub reason_or_stopped : asked.job.command ≡ verb.Explain → IsAnswered c asked w s ⊎ IsStopped c s → IsReason ⊎ IsStopped c s
  reason_or_stopped e (inl a) =
      inl (reason_of a.text (by_command asked w s verb.Explain e a.text a.tells) a.wrote)
  reason_or_stopped e (inr h) = inr h

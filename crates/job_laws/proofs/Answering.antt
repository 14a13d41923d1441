-- A call whose job has one answer gives it, or is stopped.
use Rattle.std.proofs.Common.{◌≡◌, ◌⊎◌, ℕ, true, false, List, Result, Ok, Err, inl, inr, refl, sym, ◌∙◌, ap, subst}
use Rattle.run_words.specs.declared.jobs.Asked.{Asked}
use Rattle.run_words.specs.Jobs.{IsAsked}
use Rattle.altarica_run.specs.Follows.{Call, Gave, Wrote}
use Rattle.job_stages.specs.Refusals.{line_of, status_of}
use Rattle.altarica_run.specs.Says.{Says, tells}
use Rattle.job_stages.specs.Stages.{Ready, Passes, lists_cuts}
use Rattle.altarica_run.specs.Statuses.{IsWholeTold, IsRefused}
use Rattle.job_stages.specs.Tells.{Tells}
use Rattle.job_stages.specs.declared.refusals.Refusal.{Refusal}
use Rattle.job_stages.specs.declared.status.Status.{Status}
use Rattle.job_stages.specs.declared.status.Status.TheVariants as status
use Rattle.altarica_run.proofs.FollowLemmas.{meaning_of}
use Rattle.source_laws.specs.Answers.{SameAnswer}
use Rattle.job_laws.specs.Ready.{SameReady}
use Rattle.job_laws.specs.Definite.{AgreeButNodes}
use Rattle.job_laws.specs.Told.{IsStopped, IsAnswered, IsToldAs}

-- what a job tells that stands ready like this one, this one tells too
abbrev pub TellsBack : Type 0
TellsBack = (w v : Ready) → SameReady w v → (asked : Asked) (text : List ℕ) (ends : Status) → Tells asked v text ends
    → Tells asked w text ends

module _ (c : Call) (asked : Asked) (one : (a b : Asked) → IsAsked c.words a → IsAsked c.words b → a ≡ b)
    (is : IsAsked c.words asked) where
  -- a call that tells a text of a job, or a refusal of it, was not stopped; each other one of words that give a job was
  module _ (Answers : Status → Type 0) (told : (s : Status) → IsWholeTold c s → Answers s)
      (refused : (s : Status) → IsRefused c s → Answers s) where
    answers : (s : Status) → Gave c s → Answers s ⊎ IsStopped c s
    answers status.Done g = inl (told status.Done (meaning_of c status.Done g))
    answers status.Usage g = absurd ((meaning_of c status.Usage g).0 asked is)
    answers status.Syntax g = inl (refused status.Syntax (meaning_of c status.Syntax g))
    answers status.Rule g = inl (refused status.Rule (meaning_of c status.Rule g))
    answers status.Outside g = inl (refused status.Outside (meaning_of c status.Outside g))
    answers status.Fault g = inl (told status.Fault (meaning_of c status.Fault g))
    answers status.Nodes g = inl (told status.Nodes (meaning_of c status.Nodes g))
    answers status.Read g = inr (inl (refl, meaning_of c status.Read g))
    answers status.Write g = inr (inr (inl (refl, meaning_of c status.Write g)))
    answers status.Memory g = inr (inr (inr refl))
    answers status.Size g = inl (refused status.Size (meaning_of c status.Size g))
    answers status.Script g = inl (refused status.Script (meaning_of c status.Script g))

  -- what a job of the words passes, this one passes: it is the same
  passes_here : (j : Asked) → IsAsked c.words j → (a : Result Ready Refusal) → Passes c.files j a → Passes c.files asked a
  passes_here j i a h = subst (λ (z : Asked). Passes c.files z a) (one j asked i is) h

  module _ (alike : (a b : Result Ready Refusal) → Passes c.files asked a → Passes c.files asked b
      → SameAnswer SameReady a b) where
    module _ (r : Refusal) (p : Passes c.files asked (Err r)) where
      abbrev IsGiven : Status → Type 0
      IsGiven s = (s ≡ status_of r) × Wrote c (line_of r)

      not_told : (s : Status) → IsWholeTold c s → IsGiven s
      not_told s m = absurd (alike (Ok m.ready) (Err r) (passes_here m.asked m.is_job (Ok m.ready) m.passes) p)

      given : (s : Status) → IsRefused c s → IsGiven s
      given s m =
          let e : m.refusal ≡ r = alike (Err m.refusal) (Err r)
          (passes_here m.asked m.is_job (Err m.refusal) m.stage) p in
          (m.is_status ∙ ap status_of e, subst (λ (z : Refusal). Wrote c (line_of z)) e m.wrote)

      pub refused_or_stopped : (s : Status) → Gave c s → IsToldAs c s r
      refused_or_stopped s g = answers IsGiven not_told given s g

    module _ (w : Ready) (p : Passes c.files asked (Ok w)) (back : TellsBack) where
      answered : (s : Status) → IsWholeTold c s → IsAnswered c asked w s
      answered s m =
          let same : SameReady w m.ready = alike (Ok w) (Ok m.ready) p
          (passes_here m.asked m.is_job (Ok m.ready) m.passes) in
          let here = subst (λ (z : Asked). Tells z m.ready m.text s) (one m.asked asked m.is_job is) m.tells in
          record { text = m.text; tells = back w m.ready same asked m.text s here; wrote = m.wrote }

      not_refused : (s : Status) → IsRefused c s → IsAnswered c asked w s
      not_refused s m =
          absurd (alike (Err m.refusal) (Ok w) (passes_here m.asked m.is_job (Err m.refusal) m.stage) p)

      pub told_or_stopped : (s : Status) → Gave c s → IsAnswered c asked w s ⊎ IsStopped c s
      told_or_stopped s g = answers (IsAnswered c asked w) answered not_refused s g

      -- a job that does not tell of cuts has one text
      module _ (others : lists_cuts asked.job.command ≡ false)
          (one_text : (t u : List ℕ) (a b : Status) → Says c.files c.words t a → Says c.files c.words u b
          → ((t ≡ u) × (a ≡ b)) ⊎ ((j : Asked) × IsAsked c.words j × AgreeButNodes j t a u b)) where
        not_of_cuts : {A : Type 0} (j : Asked) → IsAsked c.words j → lists_cuts j.job.command ≡ true → A
        not_of_cuts j i e =
            let h : false ≡ true = sym others ∙ ap (λ (z : Asked). lists_cuts z.job.command) (one asked j is i) ∙ e in absurd cc

        agreed : (t u : List ℕ) (a b : Status) (j : Asked) → IsAsked c.words j → AgreeButNodes j t a u b
            → (t ≡ u) × (a ≡ b)
        agreed t u a b j i (inl e) = e
        agreed t u a b j i (inr h) = not_of_cuts j i h.0

        just_one : (t u : List ℕ) (a b : Status)
            → ((t ≡ u) × (a ≡ b)) ⊎ ((j : Asked) × IsAsked c.words j × AgreeButNodes j t a u b) → (t ≡ u) × (a ≡ b)
        just_one t u a b (inl e) = e
        just_one t u a b (inr h) = agreed t u a b h.0 h.1 h.2

        module _ (text : List ℕ) (ends : Status) (t : Tells asked w text ends) where
          exactly : (s : Status) → IsAnswered c asked w s ⊎ IsStopped c s
              → ((s ≡ ends) × Wrote c text) ⊎ IsStopped c s
          exactly s (inl a) =
              let e = just_one a.text text s ends
              (one_text a.text text s ends (tells asked w is p a.tells) (tells asked w is p t)) in
              inl (e.1, subst (λ (z : List ℕ). Wrote c z) e.0 a.wrote)
          exactly s (inr h) = inr h

          pub exact_or_stopped : (s : Status) → Gave c s → ((s ≡ ends) × Wrote c text) ⊎ IsStopped c s
          exact_or_stopped s g = exactly s (told_or_stopped s g)

-- How a call ends by the loads of its shelf, as the calls in it answer.
use Rattle.std.proofs.Common.{◌≡◌, ℕ, List, [], Result, Ok, Err, refl, sym, ◌∙◌, ap, subst, inl, inr, append-nil}
use Rattle.ar_io.specs.Loads.{Load}
use Rattle.ar_io.specs.Writing.{SinkState}
use Rattle.run_words.specs.declared.jobs.Asked.{Asked}
use Rattle.run_words.specs.Jobs.{IsAsked}
use Rattle.job_stages.specs.Files.{files_of, IsText}
use Rattle.job_stages.specs.JobsInside.{AnswersJob}
use Rattle.job_stages.specs.Loading.{AnswersLoads, texts_of}
use Rattle.job_stages.specs.Logs.{AreLoads, Grew, PassesBy, not_come, come}
use Rattle.job_stages.specs.Refusals.{line_of, status_of}
use Rattle.job_stages.specs.Stages.{Ready}
use Rattle.job_stages.specs.Telling.{IsWritten, whole, cut, nothing, IsWrittenFor, written, stopped}
use Rattle.job_stages.specs.Tells.{Tells}
use Rattle.job_stages.specs.declared.loading.Texts.{Texts}
use Rattle.job_stages.specs.declared.refusals.Refusal.{Refusal}
use Rattle.job_stages.specs.declared.status.Status.{Status}
use Rattle.job_stages.specs.declared.status.Status.TheVariants as status
use Rattle.job_stages.specs.declared.stops.Stop.{Stop}
use Rattle.job_stages.specs.declared.stops.Stop.TheVariants.{Refused, Memory}
use Rattle.altarica_run.specs.Doing.{AnswersFor, AnswersReading}
use Rattle.altarica_run.specs.Reading.{SaysBy, usage, refuses, tells, AreLoadsOf, EndsBy, says, not_written, no_memory, replay_stopped, AnswersBy}

-- Which loads were made

passing_loads : (loads : List Load) (asked : Asked) (x : Result Ready Refusal) → PassesBy loads asked x
    → AreLoads (files_of asked) loads
passing_loads loads asked x (not_come {r = r} c) = (Err (Refused r), c)
passing_loads loads asked x (come texts c is s) = (Ok texts, c)

saying_loads : (loads : List Load) (words : List (List ℕ)) (text : List ℕ) (ends : Status)
    → SaysBy loads words text ends → AreLoadsOf words loads
saying_loads loads words text ends (usage h e) = inl e
saying_loads loads words text ends (refuses asked r is p) = inr (asked, is, passing_loads loads asked (Err r) p)
saying_loads loads words text ends (tells asked w is p t) = inr (asked, is, passing_loads loads asked (Ok w) p)

-- the loads of a call are those of its words' job
pub ending_loads : (loads : List Load) (words : List (List ℕ)) (old new : SinkState) (s : Status)
    → EndsBy loads words old new s → AreLoadsOf words loads
ending_loads loads words old new s (says {text = text} {ends = ends} h a k) = saying_loads loads words text ends h
ending_loads loads words old new s (not_written {text = text} {ends = ends} h r c) =
    saying_loads loads words text ends h
ending_loads loads words old new s (no_memory are e) = are
ending_loads loads words old new s (replay_stopped asked w is e p t c k) =
    inr (asked, is, passing_loads loads asked (Ok w) p)

-- What was written

module _ (loads : List Load) (words : List (List ℕ)) (old new : SinkState) where
  -- the texts that are written are among those that the words say
  said : (told : List ℕ → Status → Type 0)
      → ((text : List ℕ) (ends : Status) → told text ends → SaysBy loads words text ends) → AreLoadsOf words loads
      → (s : Status) → IsWritten told old new s
      → EndsBy loads words old new s
  said told f are s (whole {text = text} t a k) = says (f text s t) a k
  said told f are s (cut {text = text} {ends = ends} t c k) = not_written (f text ends t) k c
  said told f are s (nothing e) = no_memory are e

  -- the text of the job was written
  job_told : (asked : Asked) (w : Ready) → IsAsked words asked → PassesBy loads asked (Ok w) → (s : Status)
      → IsWrittenFor asked (Tells asked w) old new s
      → EndsBy loads words old new s
  job_told asked w is p s (written h) =
      said (Tells asked w) (λ text ends t. tells asked w is p t) (inr (asked, is, passing_loads loads asked (Ok w) p)) s h
  job_told asked w is p s (stopped e t c k) = replay_stopped asked w is e p t c k

  -- the line of a refusal was written
  line_told : (r : Refusal) → SaysBy loads words (line_of r) (status_of r) → (s : Status)
      → IsWritten (λ text ends. (text ≡ line_of r) × (ends ≡ status_of r)) old new s
      → EndsBy loads words old new s
  line_told r h s k =
      said (λ text ends. (text ≡ line_of r) × (ends ≡ status_of r))
      (λ text ends t. subst (λ (z : Status). SaysBy loads words text z) (sym t.1)
      (subst (λ (z : List ℕ). SaysBy loads words z (status_of r)) (sym t.0) h))
      (saying_loads loads words (line_of r) (status_of r) h) s k

-- The words, the files, and the command over them

module _ (words : List (List ℕ)) (old : SinkState) (a b : List Load) where
  at_stop : (new : SinkState) (r : Result Status Stop) (d e : Stop) → r ≡ Err d → d ≡ e
      → Grew a b (AnswersReading words old new (Err e))
      → Grew a b (AnswersReading words old new r)
  at_stop new r d e i j g =
      (g.0, g.1, subst (λ (z : Result Status Stop). AnswersReading words old new z g.0) (sym (i ∙ ap Err j)) g.2)

  -- the words are refused
  pub words_stop : b ≡ a → (r : Result Status Stop) (d e : Stop) → r ≡ Err d → d ≡ e → AnswersJob words (Err e)
      → Grew a b (AnswersReading words old old r)
  words_stop same r d e i j h = at_stop old r d e i j ([], same ∙ sym (append-nil a), go e h)
    where
      go : (e : Stop) → AnswersJob words (Err e) → AnswersReading words old old (Err e) []
      go (Refused r) h =
          (subst (λ (z : Refusal). SaysBy [] words (line_of z) (status_of z)) (sym h.0) (usage h.1 refl), refl)
      go Memory h = (inl refl, refl)

  module _ (asked : Asked) (is : IsAsked words asked) where
    -- a file did not come
    pub files_stop : (r : Result Status Stop) (d e : Stop) → r ≡ Err d → d ≡ e
        → Grew a b (AnswersLoads {X = Texts} (texts_of asked) (files_of asked) (Err e))
        → Grew a b (AnswersReading words old old r)
    files_stop r d e i j g = at_stop old r d e i j (g.0, g.1, go e g.0 g.2)
      where
        go : (e : Stop) (loads : List Load) → AnswersLoads {X = Texts} (texts_of asked) (files_of asked) (Err e) loads
            → AnswersReading words old old (Err e) loads
        go (Refused r) loads c = (refuses asked r is (not_come c), refl)
        go Memory loads c = (inr (asked, is, c), refl)

    -- the files came
    pub job_done : (new : SinkState) (t : Texts) → Grew a b (AnswersLoads (texts_of asked) (files_of asked) (Ok t))
        → IsText asked (texts_of asked t) t.model.items
        → (r : Result Status Stop) → AnswersFor asked t old new r → Grew a b (AnswersReading words old new r)
    job_done new t g text r h = (g.0, g.1, go r h)
      where
        go : (r : Result Status Stop) → AnswersFor asked t old new r → AnswersReading words old new r g.0
        go (Ok s) h = job_told g.0 words old new asked h.0 is (come (texts_of asked t) g.2 text h.1) s h.2
        go (Err (Refused r)) h = (refuses asked r is (come (texts_of asked t) g.2 text h.0), h.1)
        go (Err Memory) h = (inr (asked, is, (Ok (texts_of asked t), g.2)), h)

-- How the call ends

module _ (words : List (List ℕ)) (old mid : SinkState) (a b : List Load) where
  pub refused_by : (r : Refusal) → Grew a b (AnswersReading words old mid (Err (Refused r))) → (new : SinkState)
      (s : Status) → IsWritten (λ text ends. (text ≡ line_of r) × (ends ≡ status_of r)) mid new s
      → AnswersBy words a b old new s
  refused_by r g new s k = (
    g.0,
    g.1,
    line_told g.0 words old new r g.2.0 s
        (subst (λ (z : SinkState). IsWritten (λ text ends. (text ≡ line_of r) × (ends ≡ status_of r)) z new s)
        g.2.1 k),
  )

  pub memory_by : Grew a b (AnswersReading words old mid (Err Memory)) → AnswersBy words a b old mid status.Memory
  memory_by g = (g.0, g.1, no_memory g.2.0 g.2.1)

-- How a call ends, as the calls in it answer.
use Rattle.std.proofs.Common.{◌≡◌, ℕ, List, Result, Ok, Err, refl, sym, ◌∙◌, ap, subst}
use Rattle.ar_io.specs.Outside.{Told}
use Rattle.ar_io.specs.Writing.{SinkState, Appended, WroteFront}
use Rattle.run_words.specs.declared.jobs.Asked.{Asked}
use Rattle.run_words.specs.Jobs.{IsAsked}
use Rattle.altarica_run.specs.Answers.{IsUntouched}
use Rattle.job_stages.specs.Files.{files_of, Loads}
use Rattle.altarica_run.specs.Doing.{AnswersFor, RefusesWords, no_job, stage, not_read, AnswersWords}
use Rattle.job_stages.specs.JobsInside.{AnswersJob}
use Rattle.job_stages.specs.Loading.{RefusesFiles, AnswersTexts, AreTexts, texts_of}
use Rattle.job_stages.specs.Loading as loading
use Rattle.job_stages.specs.Refusals.{line_of, status_of}
use Rattle.altarica_run.specs.Says.{Says, usage, refuses, tells, EndsSo}
use Rattle.altarica_run.specs.Says as says
use Rattle.job_stages.specs.Stages.{Ready, Passes, not_loaded, loaded}
use Rattle.job_stages.specs.Telling.{IsWritten, whole, cut, nothing, IsWrittenFor, written, stopped}
use Rattle.job_stages.specs.Tells.{Tells}
use Rattle.job_stages.specs.declared.loading.Texts.{Texts}
use Rattle.job_stages.specs.declared.refusals.FileKind.{FileKind}
use Rattle.job_stages.specs.declared.refusals.Refusal.{Refusal}
use Rattle.job_stages.specs.declared.refusals.Refusal.TheVariants.{NotRead}
use Rattle.job_stages.specs.declared.status.Status.{Status}
use Rattle.job_stages.specs.declared.status.Status.TheVariants as status
use Rattle.job_stages.specs.declared.stops.Stop.{Stop}
use Rattle.job_stages.specs.declared.stops.Stop.TheVariants.{Refused, Memory}

module _ (files : List ℕ → Told) (rose : List ℕ → Type 0) (words : List (List ℕ)) (old new : SinkState) where
  -- the texts that are written are among those that the words say
  said : (told : List ℕ → Status → Type 0)
      → ((text : List ℕ) (ends : Status) → told text ends → Says files words text ends) → (s : Status)
      → IsWritten told old new s
      → EndsSo files rose words old new s
  said told f s (whole {text = text} t a k) = says.says (f text s t) a k
  said told f s (cut {text = text} {ends = ends} t c k) = says.not_written (says.said (f text ends t)) k c
  said told f s (nothing e) = says.no_memory e

  -- the text of the job was written
  pub job_told : (asked : Asked) (w : Ready) → IsAsked words asked → Passes files asked (Ok w) → (s : Status)
      → IsWrittenFor asked (Tells asked w) old new s
      → EndsSo files rose words old new s
  job_told asked w is p s (written h) = said (Tells asked w) (λ text ends t. tells asked w is p t) s h
  job_told asked w is p s (stopped e t c k) = says.replay_stopped asked is e (tells asked w is p t) c k

  -- the line of a file that was not read was written
  not_read_told : (kind : FileKind) (name : List ℕ) (asked : Asked) → IsAsked words asked
      → Loads files (files_of asked) kind name → rose name → (s : Status)
      → IsWritten (λ text ends. (text ≡ line_of (NotRead kind)) × (ends ≡ status.Read)) old new s
      → EndsSo files rose words old new s
  not_read_told kind name asked is l k s (whole t a same) =
      subst (λ (z : Status). EndsSo files rose words old new z) (sym t.1)
      (says.not_read asked is l k (subst (λ (z : List ℕ). Appended old.bytes new.bytes z) t.0 a) same)
  not_read_told kind name asked is l k s (cut t c r) =
      says.not_written (says.not_read asked is l k) r (subst (λ (z : List ℕ). WroteFront old.bytes new.bytes z) t.0 c)
  not_read_told kind name asked is l k s (nothing e) = says.no_memory e

  -- the line of what the words say was written
  line_told : (r : Refusal) → Says files words (line_of r) (status_of r) → (s : Status)
      → IsWritten (λ text ends. (text ≡ line_of r) × (ends ≡ status_of r)) old new s
      → EndsSo files rose words old new s
  line_told r h s k =
      said (λ text ends. (text ≡ line_of r) × (ends ≡ status_of r))
      (λ text ends t. subst (λ (z : Status). Says files words text z) (sym t.1)
      (subst (λ (z : List ℕ). Says files words z (status_of r)) (sym t.0) h)) s k

  -- the line of a refusal was written
  pub refusal_told : (r : Refusal) → RefusesWords files rose words r → (s : Status)
      → IsWritten (λ text ends. (text ≡ line_of r) × (ends ≡ status_of r)) old new s
      → EndsSo files rose words old new s
  refusal_told r (no_job h) s k = line_told r (usage h) s k
  refusal_told r (stage asked is p) s k = line_told r (refuses asked r is p) s k
  refusal_told r (not_read {kind} {name} asked is l m) s k = not_read_told kind name asked is l m s k

  -- the same, where nothing was written before
  pub refused_first : (mid : SinkState) → mid ≡ old → (r : Refusal) → RefusesWords files rose words r → (s : Status)
      → IsWritten (λ text ends. (text ≡ line_of r) × (ends ≡ status_of r)) mid new s
      → EndsSo files rose words old new s
  refused_first mid e r h s k =
      refusal_told r h s
      (subst (λ (z : SinkState). IsWritten (λ text ends. (text ≡ line_of r) × (ends ≡ status_of r)) z new s) e k)

  -- memory was refused before anything was written
  pub memory_told : new ≡ old → EndsSo files rose words old new status.Memory
  memory_told e = says.no_memory e

-- The words, the files, and the command over them

module _ (files : List ℕ → Told) (rose : List ℕ → Type 0) (words : List (List ℕ)) (old : SinkState) where
  at_stop : (r : Result Status Stop) (d e : Stop) → r ≡ Err d → d ≡ e → AnswersWords files rose words old old (Err e)
      → AnswersWords files rose words old old r
  at_stop r d e i j h =
      subst (λ (z : Result Status Stop). AnswersWords files rose words old old z) (sym (i ∙ ap Err j)) h

  pub words_stop : (r : Result Status Stop) (d e : Stop) → r ≡ Err d → d ≡ e → AnswersJob words (Err e)
      → AnswersWords files rose words old old r
  words_stop r d e i j h = at_stop r d e i j (go e h)
    where
      go : (e : Stop) → AnswersJob words (Err e) → AnswersWords files rose words old old (Err e)
      go (Refused r) h = (subst (λ (z : Refusal). RefusesWords files rose words z) (sym h.0) (no_job h.1), refl)
      go Memory h = refl

  module _ (asked : Asked) (is : IsAsked words asked) where
    pub files_stop : (r : Result Status Stop) (d e : Stop) → r ≡ Err d → d ≡ e
        → AnswersTexts files rose asked (Err e) → AnswersWords files rose words old old r
    files_stop r d e i j h = at_stop r d e i j (go e h)
      where
        refused : (r : Refusal) → RefusesFiles files rose (files_of asked) r → RefusesWords files rose words r
        refused r (loading.limited l) = stage asked is (not_loaded l)
        refused r (loading.not_read l k) = not_read asked is l k

        go : (e : Stop) → AnswersTexts files rose asked (Err e) → AnswersWords files rose words old old (Err e)
        go (Refused r) h = (refused r h, refl)
        go Memory h = refl

    pub job_done : (new : SinkState) (t : Texts) → AreTexts files asked t → (r : Result Status Stop)
        → AnswersFor asked t old new r → AnswersWords files rose words old new r
    job_done new t l (Ok s) h =
        job_told files rose words old new asked h.0 is (loaded (texts_of asked t) l.loaded l.is_text h.1) s h.2
    job_done new t l (Err (Refused r)) h = (stage asked is (loaded (texts_of asked t) l.loaded l.is_text h.0), h.1)
    job_done new t l (Err Memory) h = h

-- The shelf

-- where the shelf is as it was, so is all that is known of each name
pub same_shelf : {S : Type 0} (holds : S → List ℕ → Told) (faults : S → List ℕ → ℕ) (old new : S) → new ≡ old
    → (name : List ℕ) → IsUntouched (holds old name) (holds new name) (faults old name) (faults new name)
same_shelf {S} holds faults old new e name =
    record { told = ap (λ (z : S). holds z name) e; faults = ap (λ (z : S). faults z name) e }

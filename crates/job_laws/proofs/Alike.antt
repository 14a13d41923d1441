-- What a job says of a source it says of one that is alike; so a text whose sources are alike has one answer.
use Rattle.std.proofs.Common.{◌≡◌, ◌⊎◌, ℕ, List, Option, Result, Ok, Err, inl, inr, refl, ap, subst}
use Rattle.ar_base.specs.Stages.{refuses, passes}
use Rattle.ar_io.specs.Outside.{Told}
use Rattle.parser_laws.specs.Models.{HasOneTree}
use Rattle.gts_flatten.specs.Elaborating.{Elaborated}
use Rattle.run_words.specs.declared.jobs.Asked.{Asked}
use Rattle.run_words.specs.Jobs.{IsAsked}
use Rattle.job_stages.specs.Elaborates.{Elaborates}
use Rattle.job_stages.specs.Files.{File, files_of, Loaded}
use Rattle.job_stages.specs.Refusals.{line_of, status_of}
use Rattle.altarica_run.specs.Says.{Says, usage}
use Rattle.altarica_run.specs.Says as words
use Rattle.job_stages.specs.Stages.{Ready, Readies, Stages, Passes, not_loaded, loaded}
use Rattle.job_stages.specs.Tells.{Tells}
use Rattle.job_stages.specs.declared.refusals.Refusal.{Refusal}
use Rattle.job_stages.specs.declared.status.Status.{Status}
use Rattle.source_laws.specs.Sources.{SameSource}
use Rattle.job_laws.specs.Ready.{SameReady}
use Rattle.job_laws.specs.Definite.{IsDefinite, SaysOf, AgreeButNodes}
use Rattle.job_laws.specs.Definite as says
use Rattle.source_laws.specs.Answers.{SameAnswer}
use Rattle.job_laws.proofs.Asking.{OneList}
use Rattle.job_laws.proofs.Demanding.{readies_one}
use Rattle.job_laws.proofs.Stages.{same_err, ok_err}
use Rattle.job_laws.proofs.Telling.{saying_one}
use Rattle.job_laws.proofs.Unread.{of_text}

-- what the laws of jobs that stand ready alike say
abbrev pub PassAlike : Type 0
PassAlike = (x y : Elaborated) → SameSource x y → (asked : Asked) (texts : List (List ℕ)) (w : Ready)
    → Readies asked texts x (Ok w) → (v : Ready) × Readies asked texts y (Ok v) × SameReady w v

abbrev pub RefuseAlike : Type 0
RefuseAlike = (x y : Elaborated) → SameSource x y → (asked : Asked) (texts : List (List ℕ)) (r : Refusal)
    → Readies asked texts x (Err r) → Readies asked texts y (Err r)

abbrev pub TellAlike : Type 0
TellAlike = (w v : Ready) → SameReady w v → (asked : Asked) (text : List ℕ) (ends : Status) → Tells asked w text ends
    → Tells asked v text ends

module _ (pass : PassAlike) (refuse : RefuseAlike) (one_list : OneList) (x y : Elaborated) (same : SameSource x y)
    (is : IsDefinite y) (asked : Asked) (texts : List (List ℕ)) where
  -- the stages behind sources that are alike have one answer
  pub readies_alike : (a b : Result Ready Refusal) → Readies asked texts x a → Readies asked texts y b
      → SameAnswer SameReady a b
  readies_alike (Ok w) b h k =
      let o = pass x y same asked texts w h in
      subst (λ (z : Result Ready Refusal). SameAnswer SameReady (Ok w) z)
      (readies_one asked texts one_list y is (Ok o.0) b o.1 k) o.2
  readies_alike (Err r) b h k =
      subst (λ (z : Result Ready Refusal). SameAnswer SameReady (Err r) z)
      (readies_one asked texts one_list y is (Err r) b (refuse x y same asked texts r h) k) refl

  module _ (tell : TellAlike) where
    saying_there : (s : List ℕ) (a : Status) → SaysOf asked texts x s a → SaysOf asked texts y s a
    saying_there s a (says.refuses {r = r} h) = says.refuses (refuse x y same asked texts r h)
    saying_there s a (says.tells {w = w} h m) =
        let o = pass x y same asked texts w h in says.tells o.1 (tell w o.0 o.2 asked s a m)

    -- and so has what is said of them
    pub saying_alike : (s t : List ℕ) (a b : Status) → SaysOf asked texts x s a → SaysOf asked texts y t b
        → AgreeButNodes asked s a t b
    saying_alike s t a b h k = saying_one one_list y is asked texts s t a b (saying_there s a h) k

-- However a text is read, its sources are alike

-- the sources of a text from one main block are alike, or it is refused in one way
abbrev pub OneSource : Type 0
OneSource = (main : Option (List ℕ)) (text : List ℕ) (a b : Result Elaborated Refusal) → Elaborates main text a
    → Elaborates main text b → SameAnswer SameSource a b

abbrev pub AllDefinite : Type 0
AllDefinite = (main : Option (List ℕ)) (text : List ℕ) (x : Elaborated) → Elaborates main text (Ok x) → IsDefinite x

module _ (pass : PassAlike) (refuse : RefuseAlike) (one_list : OneList) (definite : AllDefinite)
    (source : OneSource) where
  module _ (asked : Asked) (texts : List (List ℕ)) (text : List ℕ) where
    -- all stages from the text on have one answer
    pub stages_alike : (a b : Result Ready Refusal) → Stages asked texts text a → Stages asked texts text b
        → SameAnswer SameReady a b
    stages_alike _ _ (refuses {r = r} h) (refuses {r = q} k) = source asked.job.main text (Err r) (Err q) h k
    stages_alike _ b (refuses {r = r} h) (passes y k n) = absurd (source asked.job.main text (Err r) (Ok y) h k)
    stages_alike a _ (passes x h m) (refuses {r = q} k) = absurd (source asked.job.main text (Ok x) (Err q) h k)
    stages_alike a b (passes x h m) (passes y k n) =
        readies_alike pass refuse one_list x y (source asked.job.main text (Ok x) (Ok y) h k) (definite asked.job.main text y k) asked
        texts a b m n

    -- and so has what is told
    staged_alike : TellAlike → (w v : Ready) → Stages asked texts text (Ok w) → Stages asked texts text (Ok v) → (s t : List ℕ)
        (a b : Status) → Tells asked w s a → Tells asked v t b → AgreeButNodes asked s a t b
    staged_alike tell w v (passes x h m) (passes y k n) s t a b p q =
        saying_alike pass refuse one_list x y (source asked.job.main text (Ok x) (Ok y) h k) (definite asked.job.main text y k) asked
        texts tell s t a b (says.tells m p) (says.tells n q)

  module _ (files : List ℕ → Told)
      (loading : (fs : List File) (x y : Result (List (List ℕ)) Refusal) → Loaded files fs x → Loaded files fs y
      → x ≡ y)
      (trees : (text : List ℕ) → HasOneTree text) where
    -- of a job over these files
    pub passes_alike : (asked : Asked) (a b : Result Ready Refusal) → Passes files asked a → Passes files asked b
        → SameAnswer SameReady a b
    passes_alike asked _ _ (not_loaded {r = r} h) (not_loaded {r = q} k) =
        same_err r q (loading (files_of asked) (Err r) (Err q) h k)
    passes_alike asked _ b (not_loaded {r = r} h) (loaded texts l t s) =
        ok_err texts r (loading (files_of asked) (Ok texts) (Err r) l h)
    passes_alike asked a b (loaded {text = text} texts l t s) k =
        stages_alike asked texts text a b s (of_text files loading asked texts text l t (trees text) b k)

    told_alike : TellAlike → (asked : Asked) (w v : Ready) → Passes files asked (Ok w) → Passes files asked (Ok v)
        → (s t : List ℕ) (a b : Status) → Tells asked w s a → Tells asked v t b → AgreeButNodes asked s a t b
    told_alike tell asked w v (loaded {text = text} texts l i h) k s t a b p q =
        staged_alike asked texts text tell w v h (of_text files loading asked texts text l i (trees text) (Ok v) k) s t a b p
        q

    module _ (tell : TellAlike) (ws : List (List ℕ)) (one : (a b : Asked) → IsAsked ws a → IsAsked ws b → a ≡ b) where
      moved_job : (j k : Asked) → IsAsked ws j → IsAsked ws k → (a : Result Ready Refusal) → Passes files k a
          → Passes files j a
      moved_job j k i o a h = subst (λ (z : Asked). Passes files z a) (one k j o i) h

      -- words over these files say one text and end in one way
      pub says_alike : (s t : List ℕ) (a b : Status) → Says files ws s a → Says files ws t b
          → ((s ≡ t) × (a ≡ b)) ⊎ ((asked : Asked) × IsAsked ws asked × AgreeButNodes asked s a t b)
      says_alike _ _ _ _ (usage h) (usage k) = inl (refl, refl)
      says_alike _ _ _ _ (usage h) (words.refuses j r i p) = absurd (h j i)
      says_alike _ t _ b (usage h) (words.tells j w i p m) = absurd (h j i)
      says_alike _ _ _ _ (words.refuses j r i p) (usage h) = absurd (h j i)
      says_alike s _ a _ (words.tells j w i p m) (usage h) = absurd (h j i)
      says_alike _ _ _ _ (words.refuses j r i p) (words.refuses k q o n) =
          let e : r ≡ q = passes_alike j (Err r) (Err q) p (moved_job j k i o (Err q) n) in
          inl (ap line_of e, ap status_of e)
      says_alike _ t _ b (words.refuses j r i p) (words.tells k v o n m) =
          absurd (passes_alike j (Err r) (Ok v) p (moved_job j k i o (Ok v) n))
      says_alike s _ a _ (words.tells j w i p m) (words.refuses k q o n) =
          absurd (passes_alike j (Ok w) (Err q) p (moved_job j k i o (Err q) n))
      says_alike s t a b (words.tells j w i p m) (words.tells k v o n l) =
          inr (
            j,
            i,
            told_alike tell j w v p (moved_job j k i o (Ok v) n) s t a b m
                (subst (λ (z : Asked). Tells z v t b) (one k j o i) l),
          )

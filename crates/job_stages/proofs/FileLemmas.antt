-- Files that are loaded one after the other.
use Rattle.std.proofs.Common.{◌≡◌, ◌≤◌, ℕ, Bool, true, false, length, List, [], ◌∷◌, Option, Some, None, Result, Ok, Err, Vec, refl, sym, ◌∙◌, ap, subst, inl, inr}
use Rattle.std.proofs.lemmas.Option.{same_Some}
use Rattle.std.specs.Global.{Global}
use Rattle.ar_base.specs.Counts.{limit_of}
use Rattle.ar_io.specs.Outside.{Told, MayBeLonger, IsFile}
use Rattle.run_words.specs.Generator.{generated}
use Rattle.run_words.specs.declared.jobs.Asked.{Asked}
use Rattle.job_stages.specs.Files.{File, Loaded, none, long, later, whole, Loads, this, next, script_files, files_where, IsText, first, made}
use Rattle.job_stages.specs.Jobs.{makes_model}
use Rattle.job_stages.specs.Loading.{AnswersFile, RefusesFiles, limited, not_read, AnswersFiles, AnswersTexts, AreTexts, script_texts, texts_of, texts_where}
use Rattle.ar_base.specs.declared.counts.Count.TheVariants.{ModelBytes, ScriptBytes}
use Rattle.job_stages.specs.declared.loading.Texts.{Texts}
use Rattle.job_stages.specs.declared.refusals.FileKind.{FileKind}
use Rattle.job_stages.specs.declared.refusals.FileKind.TheVariants.{Script}
use Rattle.job_stages.specs.declared.refusals.Refusal.{Refusal}
use Rattle.job_stages.specs.declared.stops.Stop.{Stop}
use Rattle.job_stages.specs.declared.stops.Stop.TheVariants.{Refused, Memory}

-- The same files

-- what is told of each name after a load is what was told before it
module _ (after told : List ℕ → Told) (same : (name : List ℕ) → after name ≡ told name) where
  is_file_same : (f : File) (text : List ℕ) → IsFile (after f.name) (limit_of f.count) text
      → IsFile (told f.name) (limit_of f.count) text
  is_file_same f text h = subst (λ (t : Told). IsFile t (limit_of f.count) text) (same f.name) h

  loaded_same : (fs : List File) (r : Result (List (List ℕ)) Refusal) → Loaded after fs r → Loaded told fs r
  loaded_same [] r none = none
  loaded_same (f ∷ fs) r (long h) = long (subst (λ (t : Told). MayBeLonger t (limit_of f.count)) (same f.name) h)
  loaded_same (f ∷ fs) r (later {r = x} text h k) = later text (is_file_same f text h) (loaded_same fs (Err x) k)
  loaded_same (f ∷ fs) r (whole {texts = ts} text h k) = whole text (is_file_same f text h) (loaded_same fs (Ok ts) k)

  loads_same : (fs : List File) (kind : FileKind) (name : List ℕ) → Loads after fs kind name → Loads told fs kind name
  loads_same [] kind name h = elim h [ ]
  loads_same (f ∷ fs) kind name this = this
  loads_same (f ∷ fs) kind name (next text h k) = next text (is_file_same f text h) (loads_same fs kind name k)

  -- a count that rose in a part of a call rose in the call
  module _ (part rose : List ℕ → Type 0) (rises : (name : List ℕ) → part name → rose name) where
    refuses_same : (fs : List File) (r : Refusal) → RefusesFiles after part fs r → RefusesFiles told rose fs r
    refuses_same fs r (limited h) = limited (loaded_same fs (Err r) h)
    refuses_same fs r (not_read {kind} {name} l k) = not_read (loads_same fs kind name l) (rises name k)

    pub answers_same : {X : Type 0} (texts : X → List (List ℕ)) (fs : List File) (answer : Result X Stop)
        → AnswersFiles texts after part fs answer
        → AnswersFiles texts told rose fs answer
    answers_same texts fs (Ok x) h = loaded_same fs (Ok (texts x)) h
    answers_same texts fs (Err (Refused r)) h = refuses_same fs r h
    answers_same texts fs (Err Memory) h = tt

-- One file after the other

module _ (told : List ℕ → Told) (rose : List ℕ → Type 0) {X : Type 0} (texts : X → List (List ℕ)) where
  at_stop : (fs : List File) (r : Result X Stop) (d e : Stop) → r ≡ Err d → d ≡ e
      → AnswersFiles texts told rose fs (Err e) → AnswersFiles texts told rose fs r
  at_stop fs r d e i j h = subst (λ (z : Result X Stop). AnswersFiles texts told rose fs z) (sym (i ∙ ap Err j)) h

  -- the first file is refused, and with it all of them
  pub first_stops : (f : File) (fs : List File) (r : Result X Stop) (d e : Stop) → r ≡ Err d → d ≡ e
      → AnswersFile told rose f (Err e)
      → AnswersFiles texts told rose (f ∷ fs) r
  first_stops f fs r d e i j h = at_stop (f ∷ fs) r d e i j (go e h)
    where
      go : (e : Stop) → AnswersFile told rose f (Err e) → AnswersFiles texts told rose (f ∷ fs) (Err e)
      go (Refused r) (inl h) = subst (λ (z : Refusal). RefusesFiles told rose (f ∷ fs) z) (sym h.0) (not_read this h.1)
      go (Refused r) (inr h) = subst (λ (z : Refusal). RefusesFiles told rose (f ∷ fs) z) (sym h.0) (limited (long h.1))
      go Memory h = tt

  -- the first file is there, and one of the others is refused
  pub later_stops : {Y : Type 0} (others : Y → List (List ℕ)) (f : File) (fs : List File) (text : List ℕ)
      → IsFile (told f.name) (limit_of f.count) text
      → (r : Result X Stop) (d e : Stop) → r ≡ Err d → d ≡ e → AnswersFiles {X = Y} others told rose fs (Err e)
      → AnswersFiles texts told rose (f ∷ fs) r
  later_stops {Y} others f fs text is r d e i j h = at_stop (f ∷ fs) r d e i j (go e h)
    where
      refused : (r : Refusal) → RefusesFiles told rose fs r → RefusesFiles told rose (f ∷ fs) r
      refused r (limited h) = limited (later text is h)
      refused r (not_read l k) = not_read (next text is l) k

      go : (e : Stop) → AnswersFiles {X = Y} others told rose fs (Err e) → AnswersFiles texts told rose (f ∷ fs) (Err e)
      go (Refused r) h = refused r h
      go Memory h = tt

  -- the only file is refused
  pub only_stops : (fs : List File) (f : File) → fs ≡ f ∷ [] → (r : Result X Stop) (d e : Stop) → r ≡ Err d → d ≡ e
      → AnswersFile told rose f (Err e)
      → AnswersFiles texts told rose fs r
  only_stops fs f is r d e i j h =
      subst (λ (z : List File). AnswersFiles texts told rose z r) (sym is) (first_stops f [] r d e i j h)

-- What loaded files are

pub only_loaded : (told : List ℕ → Told) (fs : List File) (f : File) (text : List ℕ) → fs ≡ f ∷ []
    → IsFile (told f.name) (limit_of f.count) text
    → Loaded told fs (Ok (text ∷ []))
only_loaded told fs f text is h = subst (λ (z : List File). Loaded told z (Ok (text ∷ []))) (sym is) (whole text h none)

pub loaded_first : (told : List ℕ → Told) (f : File) (fs : List File) (text : List ℕ) (texts : List (List ℕ))
    → Loaded told (f ∷ fs) (Ok (text ∷ texts))
    → IsFile (told f.name) (limit_of f.count) text × Loaded told fs (Ok texts)
loaded_first told f fs text texts (whole t h k) = (h, k)

no_texts : (told : List ℕ → Told) (text : List ℕ) (texts : List (List ℕ)) → Loaded told [] (Ok (text ∷ texts)) → ⊥
no_texts told text texts h = elim h [ ]

some_texts : (told : List ℕ → Told) (f : File) (fs : List File) → Loaded told (f ∷ fs) (Ok []) → ⊥
some_texts told f fs h = elim h [ ]

-- the script is there exactly where it is named, and it is short
pub record IsLoadedScript (name : Option (List ℕ)) (script : Option (Vec ℕ Global)) : Type 0 where
  pub short : (bytes : Vec ℕ Global) → script ≡ Some bytes → length bytes.items ≤ limit_of ScriptBytes
  pub none : name ≡ None → script ≡ None
  pub some : (n : List ℕ) → name ≡ Some n → (bytes : Vec ℕ Global) × (script ≡ Some bytes)

pub loaded_script : (told : List ℕ → Told) (name : Option (List ℕ)) (script : Option (Vec ℕ Global))
    → Loaded told (script_files name) (Ok (script_texts script))
    → IsLoadedScript name script
loaded_script told None None h = record { short = λ b e. cc; none = λ e. refl; some = λ n e. cc }
loaded_script told None (Some bytes) h = absurd (no_texts told bytes.items [] h)
loaded_script told (Some n) None h = absurd (some_texts told _ [] h)
loaded_script told (Some n) (Some bytes) h =
    record {
      short = λ b e. subst (λ (z : Vec ℕ Global). length z.items ≤ limit_of ScriptBytes) (same_Some bytes b e)
          (loaded_first told _ [] bytes.items [] h).0.short;
      none = λ e. cc;
      some = λ m e. (bytes, refl);
    }

-- the script's file, by the name that was looked up
pub named : (name : Option (List ℕ)) (n word : List ℕ) → name ≡ Some n → word ≡ n
    → script_files name ≡ record { kind = Script; name = word; count = ScriptBytes } ∷ []
named name n word e i = ap script_files e ∙ ap (λ (z : List ℕ). script_files (Some z)) (sym i)

-- The texts of a job

module _ (told : List ℕ → Told) (rose : List ℕ → Type 0) (asked : Asked) where
  -- the model is made, and nothing is loaded
  pub made_told : makes_model asked.job.command ≡ true → asked.job.script ≡ None → (t : Texts) → t.script ≡ None
      → t.model.items ≡ generated asked.job.number → length t.model.items ≤ limit_of ModelBytes
      → AnswersTexts told rose asked (Ok t)
  made_told e no_name t no_script is short = record {
    loaded = subst (λ (b : Bool). Loaded told (files_where b asked) (Ok (texts_where b t))) (sym e)
        (subst (λ (s : Option (List ℕ)). Loaded told (script_files s) (Ok (script_texts t.script))) (sym no_name)
        (subst (λ (s : Option (Vec ℕ Global)). Loaded told [] (Ok (script_texts s))) (sym no_script) none));
    is_text = subst (λ (z : List ℕ). IsText asked (texts_of asked t) z) (sym is) (made e);
    short = short;
  }

  -- the files are loaded
  pub files_told : makes_model asked.job.command ≡ false → (r : Result Texts Stop)
      → AnswersFiles (texts_where false) told rose (files_where false asked) r → AnswersTexts told rose asked r
  files_told e (Ok t) h = record {
    loaded = subst (λ (b : Bool). Loaded told (files_where b asked) (Ok (texts_where b t))) (sym e) h;
    is_text = subst (λ (b : Bool). IsText asked (texts_where b t) t.model.items) (sym e) (first e);
    short = (loaded_first told _ _ _ _ h).0.short;
  }
  files_told e (Err (Refused r)) h =
      subst (λ (b : Bool). RefusesFiles told rose (files_where b asked) r) (sym e) h
  files_told e (Err Memory) h = tt

  -- the script is loaded in both cases
  pub script_loaded : (t : Texts) → AreTexts told asked t
      → Loaded told (script_files asked.job.script) (Ok (script_texts t.script))
  script_loaded t h = go (makes_model asked.job.command) h.loaded
    where
      go : (b : Bool) → Loaded told (files_where b asked) (Ok (texts_where b t))
          → Loaded told (script_files asked.job.script) (Ok (script_texts t.script))
      go true l = l
      go false l = (loaded_first told _ _ _ _ l).1

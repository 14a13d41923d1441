-- Loads of files, one behind the other, in a log that grows.
use Rattle.std.proofs.Common.{◌≡◌, ◌≤◌, ℕ, Bool, true, false, List, [], ◌∷◌, ◌++◌, Option, None, Result, Ok, Err, Vec, length, refl, sym, ap, subst, ◌∙◌, append_assoc, append-nil}
use Rattle.std.specs.Global.{Global}
use Rattle.ar_base.specs.Counts.{limit_of}
use Rattle.ar_io.specs.Loads.{Load}
use Rattle.ar_io.specs.Loads.{load_of}
use Rattle.ar_io.specs.declared.outside.LoadFault.{LoadFault}
use Rattle.run_words.specs.declared.jobs.Asked.{Asked}
use Rattle.job_stages.specs.Files.{File, files_of, files_where, script_files}
use Rattle.job_stages.specs.Jobs.{makes_model}
use Rattle.job_stages.specs.Loading.{AnswersLoads, seen, one_text, texts_of, texts_where, script_texts}
use Rattle.job_stages.specs.Logs.{logged, stop_of, Came, none, stops, later, whole, Grew}
use Rattle.job_stages.specs.declared.loading.Texts.{Texts}
use Rattle.job_stages.specs.declared.stops.Stop.{Stop}
use Rattle.job_stages.specs.declared.stops.Stop.TheVariants.{Refused, Memory}

-- One load

module _ (f : File) (n : ℕ) (same : n ≡ limit_of f.count) (a b : List Load) where
  pub one_came : (bytes : Vec ℕ Global) → length bytes.items ≤ n → b ≡ a ++ (load_of f.name n (Ok bytes) ∷ [])
      → Grew a b (λ loads. Came (f ∷ []) loads (Ok (one_text bytes)))
  one_came bytes h e = (
    logged f (Ok bytes.items) ∷ [],
    e ∙ ap (λ (m : ℕ). a ++ (record { name = f.name; most = m; got = Ok bytes.items } ∷ [])) same,
    whole bytes.items (subst (λ (m : ℕ). length bytes.items ≤ m) same h) none,
  )

  pub one_stops : (why got : LoadFault) → got ≡ why → b ≡ a ++ (load_of f.name n (Err got) ∷ [])
      → Grew a b (λ loads. Came (f ∷ []) loads (Err (stop_of f why)))
  one_stops why got is e = (
    logged f (Err why) ∷ [],
    e ∙ ap (λ (x : LoadFault). a ++ (load_of f.name n (Err x) ∷ [])) is
        ∙ ap (λ (m : ℕ). a ++ (record { name = f.name; most = m; got = Err why } ∷ [])) same,
    stops why,
  )

-- what the load of one file was
only_whole : (f : File) (loads : List Load) (text : List ℕ) → Came (f ∷ []) loads (Ok (text ∷ []))
    → (loads ≡ logged f (Ok text) ∷ []) × (length text ≤ limit_of f.count)
only_whole f loads text (whole t h none) = (refl, h)

-- the first file did not come
only_stopped : (f : File) (fs : List File) (loads : List Load) (s : Stop) → Came (f ∷ []) loads (Err s)
    → Came (f ∷ fs) loads (Err s)
only_stopped f fs loads s (stops why) = stops why
only_stopped f fs loads s (later t h c) = elim c [ ]

-- the first file came, and the others came or stopped
came_behind : (f : File) (fs : List File) (loads : List Load) (text : List ℕ) {X : Type 0} (texts : X → List (List ℕ))
    → length text ≤ limit_of f.count → (r : Result X Stop) → Came fs loads (seen texts r)
    → Came (f ∷ fs) (logged f (Ok text) ∷ loads) (seen (λ x. text ∷ texts x) r)
came_behind f fs loads text texts h (Ok x) c = whole text h c
came_behind f fs loads text texts h (Err s) c = later text h c

-- The files of a call

module _ (a b : List Load) where
  -- the only file, by another name for it
  pub only_came : (fs : List File) (f : File) → fs ≡ f ∷ [] → (came : Result (List (List ℕ)) Stop)
      → Grew a b (λ loads. Came (f ∷ []) loads came)
      → Grew a b (λ loads. Came fs loads came)
  only_came fs f is came g = (g.0, g.1, subst (λ (z : List File). Came z g.0 came) (sym is) g.2)

  -- the answer is another name for what stopped the loads
  pub stopped_so : {X : Type 0} (texts : X → List (List ℕ)) (fs : List File) (r : Result X Stop) (d e : Stop) → r ≡ Err d
      → d ≡ e → Grew a b (λ loads. Came fs loads (Err e))
      → Grew a b (λ loads. Came fs loads (seen texts r))
  stopped_so {X} texts fs r d e i j g =
      (g.0, g.1, subst (λ (z : Result X Stop). Came fs g.0 (seen texts z)) (sym (i ∙ ap Err j)) g.2)

  -- nothing is loaded
  pub none_came : (fs : List File) → fs ≡ [] → b ≡ a → Grew a b (λ loads. Came fs loads (Ok []))
  none_came fs is same =
      ([], same ∙ sym (append-nil a), subst (λ (z : List File). Came z [] (Ok [])) (sym is) none)

  -- the first file did not come, and so the others were not loaded
  pub first_stopped : (f g : File) (fs : List File) (s : Stop) → f ≡ g → Grew a b (λ loads. Came (f ∷ []) loads (Err s))
      → Grew a b (λ loads. Came (g ∷ fs) loads (Err s))
  first_stopped f g fs s is p =
      (p.0, p.1, subst (λ (z : File). Came (z ∷ fs) p.0 (Err s)) is (only_stopped f fs p.0 s p.2))

  -- the first file came, and then the others
  pub then_came : (c : List Load) (f g : File) (fs : List File) (text : List ℕ) {X : Type 0} (texts : X → List (List ℕ))
      (r : Result X Stop) → f ≡ g → Grew a b (λ loads. Came (f ∷ []) loads (Ok (text ∷ [])))
      → Grew b c (λ loads. Came fs loads (seen texts r))
      → Grew a c (λ loads. Came (g ∷ fs) loads (seen (λ x. text ∷ texts x) r))
  then_came c f g fs text texts r is p q =
      let one = only_whole f p.0 text p.2 in (
        logged g (Ok text) ∷ q.0,
        q.1 ∙ ap (λ (z : List Load). z ++ q.0) (p.1 ∙ ap (λ (z : List Load). a ++ z)
            (one.0 ∙ ap (λ (z : File). logged z (Ok text) ∷ []) is))
            ∙ append_assoc a (logged g (Ok text) ∷ []) q.0,
        came_behind g fs q.0 text texts (subst (λ (z : File). length text ≤ limit_of z.count) is one.1) r q.2,
      )

-- The texts of a job

module _ (asked : Asked) (a b : List Load) where
  answers : (files : List File) (texts : Texts → List (List ℕ)) (r : Result Texts Stop) (loads : List Load)
      → Came files loads (seen texts r) → AnswersLoads texts files r loads
  answers files texts (Ok t) loads c = c
  answers files texts (Err (Refused r)) loads c = c
  answers files texts (Err Memory) loads c = (Err Memory, c)

  -- the files are loaded
  pub files_came : makes_model asked.job.command ≡ false → (r : Result Texts Stop)
      → Grew a b (λ loads. Came (files_where false asked) loads (seen (texts_where false) r))
      → Grew a b (AnswersLoads (texts_of asked) (files_of asked) r)
  files_came e r g = (
    g.0,
    g.1,
    subst (λ (z : Bool). AnswersLoads (texts_where z) (files_where z asked) r g.0) (sym e)
        (answers (files_where false asked) (texts_where false) r g.0 g.2),
  )

  -- the model is made, and nothing is loaded
  module _ (e : makes_model asked.job.command ≡ true) (no_script : asked.job.script ≡ None) (same : b ≡ a) where
    made_none : Came (files_of asked) [] (Ok [])
    made_none =
        subst (λ (z : Bool). Came (files_where z asked) [] (Ok [])) (sym e)
        (subst (λ (z : Option (List ℕ)). Came (script_files z) [] (Ok [])) (sym no_script) none)

    pub made_came : (t : Texts) → t.script ≡ None → Grew a b (AnswersLoads (texts_of asked) (files_of asked) (Ok t))
    made_came t is = (
      [],
      same ∙ sym (append-nil a),
      subst (λ (z : Bool). Came (files_of asked) [] (Ok (texts_where z t))) (sym e)
          (subst (λ (z : Option (Vec ℕ Global)). Came (files_of asked) [] (Ok (script_texts z))) (sym is) made_none),
    )

    pub made_stopped : (r : Result Texts Stop) (d : Stop) → r ≡ Err d → d ≡ Memory
        → Grew a b (AnswersLoads (texts_of asked) (files_of asked) r)
    made_stopped r d i j = (
      [],
      same ∙ sym (append-nil a),
      subst (λ (z : Result Texts Stop). AnswersLoads (texts_of asked) (files_of asked) z []) (sym (i ∙ ap Err j))
          (Ok [], made_none),
    )

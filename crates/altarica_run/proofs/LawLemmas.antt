-- Laws of jobs and of their files.
use Rattle.std.proofs.Common.{◌≡◌, ◌<◌, ◌≤◌, ◌⊎◌, inl, inr, ℕ, Bool, true, false, List, [], ◌∷◌, Option, Some, None, Result, Ok, Err, length, refl, sym, ◌∙◌, ap, subst, arith}
use Rattle.ar_base.specs.Counts.{limit_of}
use Rattle.ar_base.specs.declared.counts.Count.TheVariants.{ModelBytes, ScriptBytes}
use Rattle.ar_io.specs.Outside.{Told, Bytes, Absent, Untold, MayBeLonger, IsFile}
use Rattle.run_words.specs.declared.jobs.Asked.{Asked}
use Rattle.run_words.specs.declared.verbs.Verb.TheVariants.{Replay}
use Rattle.run_words.specs.Jobs.{IsAsked}
use Rattle.job_stages.specs.Files.{File, model_file, script_files, files_where, files_of, Loaded, none, long, later, whole, Loads, this, next}
use Rattle.altarica_run.specs.Follows.{Call, Gave, IsKnown, IsQuiet, IsShelfSame, LacksScript, script, Wrote, RoseAt, SinkRose, sink_before, sink_after}
use Rattle.altarica_run.specs.Follows as lacks
use Rattle.job_stages.specs.Jobs.{IsNoJob, LoadsNothing, makes_model}
use Rattle.job_stages.specs.Refusals.{line_of, status_of}
use Rattle.altarica_run.specs.Says.{Says, usage, refuses, tells, EndsSo}
use Rattle.altarica_run.specs.Says as says
use Rattle.job_stages.specs.Stages.{Ready, Passes, not_loaded, loaded}
use Rattle.altarica_run.specs.Statuses.{Meaning_of}
use Rattle.job_stages.specs.declared.refusals.FileKind.{FileKind}
use Rattle.job_stages.specs.declared.refusals.FileKind.TheVariants.{Model}
use Rattle.job_stages.specs.declared.refusals.Refusal.{Refusal}
use Rattle.job_stages.specs.declared.refusals.Refusal.TheVariants.{NotRead, Size}
use Rattle.job_stages.specs.declared.status.Status.{Status}
use Rattle.job_stages.specs.declared.status.Status.TheVariants as status
use Rattle.altarica_run.proofs.FollowLemmas.{is_memory, said_no_memory, meaning_of}
use Rattle.job_stages.proofs.JobLemmas.{made_job}

-- Files

-- a file of which something is told is not both within a limit and longer
apart : (t : Told) (most : ℕ) (text : List ℕ) → IsKnown t → IsFile t most text → MayBeLonger t most → ⊥
apart (Bytes b) most text k f l = let e = ap length f.held in let s = f.short in absurd (omega (arith, e, s, l))
apart Absent most text k f l = l
apart Untold most text k f l = k

-- it has one text
one_text : (t : Told) (most : ℕ) (x y : List ℕ) → IsKnown t → IsFile t most x → IsFile t most y → x ≡ y
one_text (Bytes b) most x y k f g = f.held ∙ sym g.held
one_text Absent most x y k f g = absurd f.held
one_text Untold most x y k f g = absurd k

abbrev is_ok : {A B : Type 0} → Result A B → Bool
is_ok (Ok x) = true
is_ok (Err e) = false

not_ok : {A B : Type 0} {C : Type 0} (e : B) (x : A) → Err e ≡ Ok x → C
not_ok e x i = let q : false ≡ true = ap is_ok i in absurd cc

abbrev refusal_or : {A : Type 0} → Refusal → Result A Refusal → Refusal
refusal_or d (Ok x) = d
refusal_or d (Err r) = r

abbrev texts_or : List (List ℕ) → Result (List (List ℕ)) Refusal → List (List ℕ)
texts_or d (Ok x) = x
texts_or d (Err e) = d

module _ (told : List ℕ → Told) (known : (name : List ℕ) → IsKnown (told name)) where
  pub loaded_one : (fs : List File) (x y : Result (List (List ℕ)) Refusal) → Loaded told fs x → Loaded told fs y → x ≡ y
  loaded_one [] x y none none = refl
  loaded_one (f ∷ fs) x y (long h) (long k) = refl
  loaded_one (f ∷ fs) x y (long h) (later text g k) =
      absurd (apart (told f.name) (limit_of f.count) text (known f.name) g h)
  loaded_one (f ∷ fs) x y (long h) (whole text g k) =
      absurd (apart (told f.name) (limit_of f.count) text (known f.name) g h)
  loaded_one (f ∷ fs) x y (later text g k) (long h) =
      absurd (apart (told f.name) (limit_of f.count) text (known f.name) g h)
  loaded_one (f ∷ fs) x y (later {r = r} text g k) (later {r = s} other h l) = loaded_one fs (Err r) (Err s) k l
  loaded_one (f ∷ fs) x y (later {r = r} text g k) (whole {texts = ts} other h l) =
      not_ok r ts (loaded_one fs (Err r) (Ok ts) k l)
  loaded_one (f ∷ fs) x y (whole text g k) (long h) =
      absurd (apart (told f.name) (limit_of f.count) text (known f.name) g h)
  loaded_one (f ∷ fs) x y (whole {texts = ts} text g k) (later {r = r} other h l) =
      not_ok r ts (loaded_one fs (Err r) (Ok ts) l k)
  loaded_one (f ∷ fs) x y (whole {texts = ts} text g k) (whole {texts = us} other h l) =
      let e = one_text (told f.name) (limit_of f.count) text other (known f.name) g h in
      let i : ts ≡ us = ap (texts_or ts) (loaded_one fs (Ok ts) (Ok us) k l) in cc

-- Models that are too long

-- the files of a job whose model is one
model_first : (files : List ℕ → Told) (asked : Asked) → makes_model asked.job.command ≡ false
    → (x : Result (List (List ℕ)) Refusal)
    → Loaded files (files_of asked) x → Loaded files (files_where false asked) x
model_first files asked e x h = subst (λ (b : Bool). Loaded files (files_where b asked) x) e h

module _ (files : List ℕ → Told) (asked : Asked) (loads : makes_model asked.job.command ≡ false) (text : List ℕ)
    (is : files asked.job.model ≡ Bytes text) (over : limit_of ModelBytes < length text) where
  no_file : (other : List ℕ) → IsFile (files asked.job.model) (limit_of ModelBytes) other → ⊥
  no_file other h =
      apart (Bytes text) (limit_of ModelBytes) other tt
      (subst (λ (t : Told). IsFile t (limit_of ModelBytes) other) is h) over

  over_refused : (fs : List File) (r : Refusal) → Loaded files (model_file asked.job.model ∷ fs) (Err r) → r ≡ Size ModelBytes
  over_refused fs r (long h) = refl
  over_refused fs r (later other h k) = absurd (no_file other h)

  over_loaded : (fs : List File) (texts : List (List ℕ)) → Loaded files (model_file asked.job.model ∷ fs) (Ok texts) → ⊥
  over_loaded fs texts (whole other h k) = no_file other h

  pub over_passes : (x : Result Ready Refusal) → Passes files asked x → x ≡ Err (Size ModelBytes)
  over_passes x (not_loaded {r = r} h) = ap Err (over_refused _ r (model_first files asked loads (Err r) h))
  over_passes x (loaded texts h t s) = absurd (over_loaded _ texts (model_first files asked loads (Ok texts) h))

-- Scripts that are too long

module _ (files : List ℕ → Told) (name script : List ℕ) (is : files name ≡ Bytes script)
    (over : limit_of ScriptBytes < length script) where
  no_script : (other : List ℕ) → IsFile (files name) (limit_of ScriptBytes) other → ⊥
  no_script other h =
      apart (Bytes script) (limit_of ScriptBytes) other tt
      (subst (λ (t : Told). IsFile t (limit_of ScriptBytes) other) is h) over

  script_refused : (s : Option (List ℕ)) → s ≡ Some name → (x : Result (List (List ℕ)) Refusal)
      → Loaded files (script_files s) x → x ≡ Err (Size ScriptBytes)
  script_refused None e x h = cc
  script_refused (Some n) e x (long h) = refl
  script_refused (Some n) e x (later other h k) =
      let i : n ≡ name = cc in absurd
      (no_script other (subst (λ (z : List ℕ). IsFile (files z) (limit_of ScriptBytes) other) i h))
  script_refused (Some n) e x (whole other h k) =
      let i : n ≡ name = cc in absurd
      (no_script other (subst (λ (z : List ℕ). IsFile (files z) (limit_of ScriptBytes) other) i h))

  module _ (asked : Asked) (loads : makes_model asked.job.command ≡ false) (named : asked.job.script ≡ Some name) (model : List ℕ)
      (held : files asked.job.model ≡ Bytes model) (short : length model ≤ limit_of ModelBytes) where
    files_refused : (x : Result (List (List ℕ)) Refusal) → Loaded files (files_where false asked) x
        → x ≡ Err (Size ScriptBytes)
    files_refused x (long h) =
        absurd
        (apart (Bytes model) (limit_of ModelBytes) model tt (record { held = refl; short = short })
        (subst (λ (t : Told). MayBeLonger t (limit_of ModelBytes)) held h))
    files_refused x (later {r = r} other h k) =
        let i : r ≡ Size ScriptBytes = ap (refusal_or r) (script_refused asked.job.script named (Err r) k) in ap Err i
    files_refused x (whole {texts = ts} other h k) = not_ok _ _ (sym (script_refused asked.job.script named (Ok ts) k))

    pub script_over : (x : Result Ready Refusal) → Passes files asked x → x ≡ Err (Size ScriptBytes)
    script_over x (not_loaded {r = r} h) =
        let i : r ≡ Size ScriptBytes = ap (refusal_or r) (files_refused (Err r) (model_first files asked loads (Err r) h)) in ap Err i
    script_over x (loaded texts h t s) =
        not_ok _ _ (sym (files_refused (Ok texts) (model_first files asked loads (Ok texts) h)))

module _ (c : Call) (asked : Asked) (one : (a b : Asked) → IsAsked c.words a → IsAsked c.words b → a ≡ b)
    (is : IsAsked c.words asked) where
  -- the job of the words is this one
  same_job : (other : Asked) → IsAsked c.words other → (P : Asked → Type 0) → P other → P asked
  same_job other at P h = subst P (one other asked at is) h

  module _ (loads : makes_model asked.job.command ≡ false) (text : List ℕ) (told : c.files asked.job.model ≡ Bytes text)
      (over : limit_of ModelBytes < length text) where
    refused_over : (r : Refusal) → Passes c.files asked (Err r) → Wrote c (line_of r)
        → (status_of r ≡ status.Size) × Wrote c (line_of (Size ModelBytes))
    refused_over r p a =
        let e : r ≡ Size ModelBytes = ap (refusal_or r) (over_passes c.files asked loads text told over (Err r) p) in
        (ap status_of e, subst (λ (z : Refusal). Wrote c (line_of z)) e a)

    over_said : (said : List ℕ) (s : Status) → Says c.files c.words said s → Wrote c said
        → (s ≡ status.Size) × Wrote c (line_of (Size ModelBytes))
    over_said said s (usage never) a = absurd (never asked is)
    over_said said s (refuses other r at p) a = refused_over r (same_job other at (λ j. Passes c.files j (Err r)) p) a
    over_said said s (tells other w at p t) a =
        not_ok _ _
        (sym (over_passes c.files asked loads text told over (Ok w) (same_job other at (λ j. Passes c.files j (Ok w)) p)))

    module _ (quiet : IsQuiet c) where
      over_ends : (s : Status) → EndsSo c.files (RoseAt c) c.words (sink_before c) (sink_after c) s
          → ((s ≡ status.Size) × Wrote c (line_of (Size ModelBytes))) ⊎ (s ≡ status.Memory)
      over_ends s (says.says {text = said} h a q) = inl (over_said said s h a)
      over_ends s (says.not_read {name = name} other at l r a q) = absurd (quiet.read name r)
      over_ends s (says.not_written b r h) = absurd (quiet.written r)
      over_ends s (says.no_memory e) = inr refl
      over_ends s (says.replay_stopped other at e h k q) = inr refl

      pub over_of : (s : Status) → Gave c s
          → ((s ≡ status.Size) × Wrote c (line_of (Size ModelBytes))) ⊎ (s ≡ status.Memory)
      over_of s g = over_ends s g.ends

  -- Models that are absent

  module _ (loads : makes_model asked.job.command ≡ false) (absent : c.files asked.job.model ≡ Absent) where
    not_held : (other : List ℕ) → IsFile (c.files asked.job.model) (limit_of ModelBytes) other → ⊥
    not_held other h = let f = subst (λ (t : Told). IsFile t (limit_of ModelBytes) other) absent h in f.held

    no_loading : (fs : List File) (x : Result (List (List ℕ)) Refusal) → Loaded c.files (model_file asked.job.model ∷ fs) x
        → ⊥
    no_loading fs x (long h) = subst (λ (t : Told). MayBeLonger t (limit_of ModelBytes)) absent h
    no_loading fs x (later other h k) = not_held other h
    no_loading fs x (whole other h k) = not_held other h

    no_passing : (x : Result Ready Refusal) → Passes c.files asked x → ⊥
    no_passing x (not_loaded {r = r} h) = no_loading _ _ (model_first c.files asked loads (Err r) h)
    no_passing x (loaded texts h t s) = no_loading _ _ (model_first c.files asked loads (Ok texts) h)

    absent_said : (said : List ℕ) (s : Status) → Says c.files c.words said s → ⊥
    absent_said said s (usage never) = never asked is
    absent_said said s (refuses other r at p) = no_passing (Err r) (same_job other at (λ j. Passes c.files j (Err r)) p)
    absent_said said s (tells other w at p t) = no_passing (Ok w) (same_job other at (λ j. Passes c.files j (Ok w)) p)

    -- the model alone is asked for
    model_asked : (fs : List File) (kind : FileKind) (name : List ℕ)
        → Loads c.files (model_file asked.job.model ∷ fs) kind name → RoseAt c name → Wrote c (line_of (NotRead kind))
        → RoseAt c asked.job.model × Wrote c (line_of (NotRead Model))
    model_asked fs kind name this r a = (r, a)
    model_asked fs kind name (next text h k) r a = absurd (not_held text h)

    absent_ends : (s : Status) → EndsSo c.files (RoseAt c) c.words (sink_before c) (sink_after c) s
        → ((s ≡ status.Read) × RoseAt c asked.job.model × Wrote c (line_of (NotRead Model)))
        ⊎ (SinkRose c ⊎ (s ≡ status.Memory))
    absent_ends s (says.says {text = said} h a q) = absurd (absent_said said s h)
    absent_ends s (says.not_read {kind} {name} other at l r a q) =
        let sought = same_job other at (λ j. Loads c.files (files_of j) kind name) l in
        let m = model_asked _ kind name (subst (λ (b : Bool). Loads c.files (files_where b asked) kind name) loads sought)
        r a in
        inl (refl, m.0, m.1)
    absent_ends s (says.not_written b r h) = inr (inl r)
    absent_ends s (says.no_memory e) = inr (inr refl)
    absent_ends s (says.replay_stopped other at e h k q) = inr (inr refl)

    pub absent_of : (s : Status) → Gave c s
        → ((s ≡ status.Read) × RoseAt c asked.job.model × Wrote c (line_of (NotRead Model)))
        ⊎ (SinkRose c ⊎ (s ≡ status.Memory))
    absent_of s g = absent_ends s g.ends

  -- Models that are made

  module _ (made : makes_model asked.job.command ≡ true) where
    nothing_loaded : (s : Option (List ℕ)) → s ≡ None → (kind : FileKind) (name : List ℕ)
        → Loads c.files (script_files s) kind name → ⊥
    nothing_loaded None e kind name h = elim h [ ]
    nothing_loaded (Some n) e kind name h = cc

    not_asked : (kind : FileKind) (name : List ℕ) → Loads c.files (files_of asked) kind name → ⊥
    not_asked kind name h =
        nothing_loaded asked.job.script (made_job c.words asked is made).script kind name
        (subst (λ (b : Bool). Loads c.files (files_where b asked) kind name) made h)

    pub never_read : (s : Status) → Gave c s → s ≡ status.Read → ⊥
    never_read s g e =
        let m = subst (Meaning_of c) e (meaning_of c s g) in
        not_asked m.kind m.name (same_job m.asked m.is_job (λ j. Loads c.files (files_of j) m.kind m.name) m.loads)

  -- Refusals that are the only answer of the stages

  module _ (r : Refusal) (only : (x : Result Ready Refusal) → Passes c.files asked x → x ≡ Err r) (quiet : IsQuiet c)
    where
      only_refused : (other : Refusal) → Passes c.files asked (Err other) → Wrote c (line_of other)
          → (status_of other ≡ status_of r) × Wrote c (line_of r)
      only_refused other p a =
          let e : other ≡ r = ap (refusal_or other) (only (Err other) p) in
          (ap status_of e, subst (λ (z : Refusal). Wrote c (line_of z)) e a)

      only_said : (said : List ℕ) (s : Status) → Says c.files c.words said s → Wrote c said
          → (s ≡ status_of r) × Wrote c (line_of r)
      only_said said s (usage never) a = absurd (never asked is)
      only_said said s (refuses other x at p) a =
          only_refused x (same_job other at (λ j. Passes c.files j (Err x)) p) a
      only_said said s (tells other w at p t) a =
          not_ok _ _ (sym (only (Ok w) (same_job other at (λ j. Passes c.files j (Ok w)) p)))

      only_ends : (s : Status) → EndsSo c.files (RoseAt c) c.words (sink_before c) (sink_after c) s
          → ((s ≡ status_of r) × Wrote c (line_of r)) ⊎ (s ≡ status.Memory)
      only_ends s (says.says {text = said} h a q) = inl (only_said said s h a)
      only_ends s (says.not_read {name = name} other at l x a q) = absurd (quiet.read name x)
      only_ends s (says.not_written b x h) = absurd (quiet.written x)
      only_ends s (says.no_memory e) = inr refl
      only_ends s (says.replay_stopped other at e h k q) = inr refl

      pub only_of : (s : Status) → Gave c s → ((s ≡ status_of r) × Wrote c (line_of r)) ⊎ (s ≡ status.Memory)
      only_of s g = only_ends s g.ends

  -- Scripts that are absent

  module _ (loads : makes_model asked.job.command ≡ false) (name : List ℕ) (named : asked.job.script ≡ Some name)
      (model : List ℕ) (held : c.files asked.job.model ≡ Bytes model) (short : length model ≤ limit_of ModelBytes)
      (absent : c.files name ≡ Absent) where
    no_text : (other : List ℕ) → IsFile (c.files name) (limit_of ScriptBytes) other → ⊥
    no_text other h = let f = subst (λ (t : Told). IsFile t (limit_of ScriptBytes) other) absent h in f.held

    no_scripts : (n : Option (List ℕ)) → n ≡ Some name → (x : Result (List (List ℕ)) Refusal)
        → Loaded c.files (script_files n) x → ⊥
    no_scripts None e x h = cc
    no_scripts (Some n) e x (long h) =
        let i : n ≡ name = cc in
        subst (λ (t : Told). MayBeLonger t (limit_of ScriptBytes)) absent
        (subst (λ (z : List ℕ). MayBeLonger (c.files z) (limit_of ScriptBytes)) i h)
    no_scripts (Some n) e x (later other h k) =
        let i : n ≡ name = cc in
        no_text other (subst (λ (z : List ℕ). IsFile (c.files z) (limit_of ScriptBytes) other) i h)
    no_scripts (Some n) e x (whole other h k) =
        let i : n ≡ name = cc in
        no_text other (subst (λ (z : List ℕ). IsFile (c.files z) (limit_of ScriptBytes) other) i h)

    none_loaded : (x : Result (List (List ℕ)) Refusal) → Loaded c.files (files_where false asked) x → ⊥
    none_loaded x (long h) =
        apart (Bytes model) (limit_of ModelBytes) model tt (record { held = refl; short = short })
        (subst (λ (t : Told). MayBeLonger t (limit_of ModelBytes)) held h)
    none_loaded x (later {r = r} other h k) = no_scripts asked.job.script named (Err r) k
    none_loaded x (whole {texts = ts} other h k) = no_scripts asked.job.script named (Ok ts) k

    none_passes : (x : Result Ready Refusal) → Passes c.files asked x → ⊥
    none_passes x (not_loaded {r = r} h) = none_loaded (Err r) (model_first c.files asked loads (Err r) h)
    none_passes x (loaded texts h t s) = none_loaded (Ok texts) (model_first c.files asked loads (Ok texts) h)

    none_said : (said : List ℕ) (s : Status) → Says c.files c.words said s → ⊥
    none_said said s (usage never) = never asked is
    none_said said s (refuses other r at p) = none_passes (Err r) (same_job other at (λ j. Passes c.files j (Err r)) p)
    none_said said s (tells other w at p t) = none_passes (Ok w) (same_job other at (λ j. Passes c.files j (Ok w)) p)

    script_asked : (n : Option (List ℕ)) → n ≡ Some name → (kind : FileKind) (sought : List ℕ)
        → Loads c.files (script_files n) kind sought → RoseAt c sought → Wrote c (line_of (NotRead kind))
        → LacksScript c asked name
    script_asked None e kind sought h r a = elim h [ ]
    script_asked (Some n) e kind sought this r a =
        let i : n ≡ name = cc in script (subst (λ (z : List ℕ). RoseAt c z) i r) a
    script_asked (Some n) e kind sought (next text h k) r a = elim k [ ]

    file_asked : (kind : FileKind) (sought : List ℕ) → Loads c.files (files_where false asked) kind sought
        → RoseAt c sought → Wrote c (line_of (NotRead kind)) → LacksScript c asked name
    file_asked kind sought this r a = lacks.model r a
    file_asked kind sought (next text h k) r a = script_asked asked.job.script named kind sought k r a

    lacks_ends : (s : Status) → EndsSo c.files (RoseAt c) c.words (sink_before c) (sink_after c) s
        → ((s ≡ status.Read) × LacksScript c asked name) ⊎ (SinkRose c ⊎ (s ≡ status.Memory))
    lacks_ends s (says.says {text = said} h a q) = absurd (none_said said s h)
    lacks_ends s (says.not_read {kind} {name = sought} other at l r a q) =
        let those = same_job other at (λ j. Loads c.files (files_of j) kind sought) l in
        inl (
          refl,
          file_asked kind sought (subst (λ (b : Bool). Loads c.files (files_where b asked) kind sought) loads those) r a,
        )
    lacks_ends s (says.not_written b r h) = inr (inl r)
    lacks_ends s (says.no_memory e) = inr (inr refl)
    lacks_ends s (says.replay_stopped other at e h k q) = inr (inr refl)

    pub lacks_of : (s : Status) → Gave c s
        → ((s ≡ status.Read) × LacksScript c asked name) ⊎ (SinkRose c ⊎ (s ≡ status.Memory))
    lacks_of s g = lacks_ends s g.ends

-- The shelf and the sink

pub untouched_of : (c : Call) (s : Status) → Gave c s → LoadsNothing c.words → IsShelfSame c
untouched_of c s g alone = record { each = g.untouched alone }

pub made_alone : (words : List (List ℕ)) → ((a b : Asked) → IsAsked words a → IsAsked words b → a ≡ b) → (asked : Asked)
    → IsAsked words asked → makes_model asked.job.command ≡ true → LoadsNothing words
made_alone words one asked is made = λ other at. subst (λ (j : Asked). makes_model j.job.command ≡ true) (one asked other is at) made

pub no_job_loads : (words : List (List ℕ)) → IsNoJob words → LoadsNothing words
no_job_loads words never = λ asked is. absurd (never asked is)

module _ (c : Call) (no_replay : (asked : Asked) → IsAsked c.words asked → asked.job.command ≡ Replay → ⊥) where
  pub unwritten_of : Gave c status.Memory → sink_after c ≡ sink_before c
  unwritten_of g = go status.Memory refl g.ends
    where
      go : (s : Status) → s ≡ status.Memory → EndsSo c.files (RoseAt c) c.words (sink_before c) (sink_after c) s
          → sink_after c ≡ sink_before c
      go s e (says.says {text = text} h a q) =
          let k : false ≡ true = sym (said_no_memory c.files c.words text s h) ∙ ap is_memory e in
          absurd cc
      go s e (says.not_read asked is l r a q) = let k : false ≡ true = ap is_memory e in absurd cc
      go s e (says.not_written b r h) = let k : false ≡ true = ap is_memory e in absurd cc
      go s e (says.no_memory i) = i
      go s e (says.replay_stopped asked is i h k q) = absurd (no_replay asked is i)

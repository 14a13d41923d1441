-- A run answers as a call answers over files of which just that is told which its loads gave.
use Rattle.std.proofs.Common.{◌≡◌, ℕ, Bool, true, false, ◌&&◌, List, [], ◌∷◌, Result, Ok, Err, refl, ◌∙◌, ap, subst, inl, inr, if◌then◌else◌, arith}
use Rattle.std.proofs.lemmas.Slice.Eq.{bytes_eq-Decides}
use Rattle.std.specs.Str.{bytes_eq}
use Rattle.ar_io.specs.Loads.{Load}
use Rattle.ar_io.specs.Outside.{Told, Rose}
use Rattle.ar_io.specs.Writing.{SinkState, Appended}
use Rattle.ar_io.specs.declared.outside.LoadFault.{LoadFault}
use Rattle.ar_io.specs.declared.outside.LoadFault.TheVariants as fault
use Rattle.run_words.specs.Jobs.{IsAsked}
use Rattle.run_words.specs.declared.jobs.Asked.{Asked}
use Rattle.job_stages.specs.Files.{File, files_of, files_where, script_files, Loads}
use Rattle.job_stages.specs.Jobs.{makes_model, LoadsNothing}
use Rattle.job_stages.specs.Logs.{Came, none}
use Rattle.job_stages.specs.Refusals.{line_of, status_of}
use Rattle.job_stages.specs.Stages.{Ready}
use Rattle.job_stages.specs.Tells.{Tells}
use Rattle.job_stages.specs.declared.refusals.FileKind.{FileKind}
use Rattle.job_stages.specs.declared.refusals.Refusal.{Refusal}
use Rattle.job_stages.specs.declared.refusals.Refusal.TheVariants.{NotRead}
use Rattle.job_stages.specs.declared.status.Status.{Status}
use Rattle.job_stages.specs.declared.status.Status.TheVariants as status
use Rattle.job_stages.specs.declared.stops.Stop.{Stop}
use Rattle.job_stages.proofs.JobLemmas.{made_job}
use Rattle.altarica_run.proofs.ReadingLemmas.{ending_loads}
use Rattle.altarica_run.specs.Follows.{Call, Gave, IsKnown}
use Rattle.altarica_run.specs.Reading.{SaysBy, AreLoadsOf, EndsBy}
use Rattle.altarica_run.specs.Reading as by
use Rattle.altarica_run.specs.Says.{Says, usage, refuses, tells, Begins, EndsSo}
use Rattle.altarica_run.specs.Says as says
use Rattle.job_laws.proofs.LogsApart.{could_be_told}
use Rattle.job_laws.proofs.LogsTold.{passes_over}
use Rattle.job_laws.specs.Runs.{AgreesWith, Failed, here, behind, PassesOver, passes, not_read, AreLoadedOnce, IsCallOf}

-- Words that load nothing

no_loads : (loads : List Load) (came : Result (List (List ℕ)) Stop) → Came [] loads came → loads ≡ []
no_loads loads came none = refl

no_files : (words : List (List ℕ)) (asked : Asked) → IsAsked words asked → makes_model asked.job.command ≡ true → files_of asked ≡ []
no_files words asked is e =
    ap (λ (b : Bool). files_where b asked) e ∙ ap script_files (made_job words asked is e).script

none_loaded : (loads : List Load) (words : List (List ℕ)) → LoadsNothing words → AreLoadsOf words loads → loads ≡ []
none_loaded loads words made (inl e) = e
none_loaded loads words made (inr k) =
    no_loads loads k.2.0
    (subst (λ (z : List File). Came z loads k.2.0) (no_files words k.0 k.1 (made k.0 k.1)) k.2.1)

pub nothing_loaded : (loads : List Load) (words : List (List ℕ)) (old new : SinkState) (s : Status)
    → EndsBy loads words old new s → LoadsNothing words → loads ≡ []
nothing_loaded loads words old new s h made =
    none_loaded loads words made (ending_loads loads words old new s h)

-- Names of which a load failed

abbrev is_failed : Result (List ℕ) LoadFault → Bool
is_failed (Ok bytes) = false
is_failed (Err fault.Failed) = true
is_failed (Err fault.TooLong) = false
is_failed (Err fault.Memory) = false

-- one, where a load of the name failed
abbrev faults_by : List Load → List ℕ → ℕ
faults_by [] name = 0
faults_by (l ∷ loads) name = if is_failed l.got && bytes_eq l.name name then 1 else faults_by loads name

failed_is : (got : Result (List ℕ) LoadFault) → is_failed got ≡ true → got ≡ Err fault.Failed
failed_is (Ok bytes) e = let k : false ≡ true = e in absurd cc
failed_is (Err fault.Failed) e = refl
failed_is (Err fault.TooLong) e = let k : false ≡ true = e in absurd cc
failed_is (Err fault.Memory) e = let k : false ≡ true = e in absurd cc

both : (a b : Bool) → a ≡ true → b ≡ true → (a && b) ≡ true
both true b e f = f
both false b e f = let k : false ≡ true = e in absurd cc

each_of : (a b : Bool) → (a && b) ≡ true → (a ≡ true) × (b ≡ true)
each_of true b e = (refl, e)
each_of false b e = let k : false ≡ true = e in absurd cc

one_or : (b : Bool) (n : ℕ) → n ≡ 1 → (if b then 1 else n) ≡ 1
one_or true n e = refl
one_or false n e = e

one_where : (b : Bool) (n : ℕ) → b ≡ true → (if b then 1 else n) ≡ 1
one_where true n e = refl
one_where false n e = let k : false ≡ true = e in absurd cc

one_fault : (name : List ℕ) (loads : List Load) → Failed name loads → faults_by loads name ≡ 1
one_fault name loads (here {l = l} {loads = more} e f) =
    one_where (is_failed l.got && bytes_eq l.name name) (faults_by more name)
    (both (is_failed l.got) (bytes_eq l.name name) (ap is_failed f) ((bytes_eq-Decides l.name name).1 e))
one_fault name loads (behind {l = l} {loads = more} h) =
    one_or (is_failed l.got && bytes_eq l.name name) (faults_by more name) (one_fault name more h)

rose_failed : (loads : List Load) (name : List ℕ) → Failed name loads → Rose 0 (faults_by loads name)
rose_failed loads name h = let e = one_fault name loads h in inl (omega arith)

not_risen : Rose 0 0 → ⊥
not_risen (inl h) = omega arith
not_risen (inr h) = omega arith

failed_first : (l : Load) (loads : List Load) (name : List ℕ) (b : Bool)
    → (is_failed l.got && bytes_eq l.name name) ≡ b
    → (Rose 0 (faults_by loads name) → Failed name loads) → Rose 0 (if b then 1 else faults_by loads name)
    → Failed name (l ∷ loads)
failed_first l loads name true e more h =
    let k = each_of (is_failed l.got) (bytes_eq l.name name) e in
    here ((bytes_eq-Decides l.name name).0 k.1) (failed_is l.got k.0)
failed_first l loads name false e more h = behind (more h)

failed_rose : (loads : List Load) (name : List ℕ) → Rose 0 (faults_by loads name) → Failed name loads
failed_rose [] name h = absurd (not_risen h)
failed_rose (l ∷ loads) name h =
    failed_first l loads name (is_failed l.got && bytes_eq l.name name) refl (failed_rose loads name) h

-- What the words say

-- the words say this over files of which this is told, or a file was not read
data SaysOver (told : List ℕ → Told) (loads : List Load) (words : List (List ℕ)) : List ℕ → Status → Type 0 where
  said : {text : List ℕ} {ends : Status} → Says told words text ends → SaysOver told loads words text ends
  unread : {kind : FileKind} {name : List ℕ} (asked : Asked) → IsAsked words asked → Loads told (files_of asked) kind name
      → Failed name loads
      → SaysOver told loads words (line_of (NotRead kind)) status.Read

module _ (told : List ℕ → Told) (loads : List Load) (words : List (List ℕ)) (agrees : AgreesWith told loads) where
  refused_so : (asked : Asked) (r : Refusal) → IsAsked words asked → PassesOver told loads asked (Err r)
      → SaysOver told loads words (line_of r) (status_of r)
  refused_so asked r is (passes p) = said (refuses asked r is p)
  refused_so asked r is (not_read l k) = unread asked is l k

  told_so : (asked : Asked) (w : Ready) → IsAsked words asked → PassesOver told loads asked (Ok w) → (text : List ℕ)
      (ends : Status) → Tells asked w text ends → Says told words text ends
  told_so asked w is (passes p) text ends t = tells asked w is p t

  says_so : (text : List ℕ) (ends : Status) → SaysBy loads words text ends → SaysOver told loads words text ends
  says_so text ends (by.usage h e) = said (usage h)
  says_so text ends (by.refuses asked r is p) = refused_so asked r is (passes_over told loads asked (Err r) agrees p)
  says_so text ends (by.tells asked w is p t) =
      said (told_so asked w is (passes_over told loads asked (Ok w) agrees p) text ends t)

  module _ (rose : List ℕ → Type 0) (rises : (name : List ℕ) → Failed name loads → rose name) (old new : SinkState) where
    wrote_so : (text : List ℕ) (ends : Status) → Appended old.bytes new.bytes text → new.faults ≡ old.faults
        → SaysOver told loads words text ends → EndsSo told rose words old new ends
    wrote_so text ends a k (said h) = says.says h a k
    wrote_so text ends a k (unread {name = name} asked is l f) = says.not_read asked is l (rises name f) a k

    begun_so : (text : List ℕ) (ends : Status) → SaysOver told loads words text ends → Begins told rose words text
    begun_so text ends (said h) = says.said h
    begun_so text ends (unread {name = name} asked is l f) = says.not_read asked is l (rises name f)

    pub ends_so : (s : Status) → EndsBy loads words old new s → EndsSo told rose words old new s
    ends_so s (by.says {text = text} {ends = ends} h a k) = wrote_so text ends a k (says_so text ends h)
    ends_so s (by.not_written {text = text} {ends = ends} h r c) =
        says.not_written (begun_so text ends (says_so text ends h)) r c
    ends_so s (by.no_memory are e) = says.no_memory e
    ends_so s (by.replay_stopped {text = text} {ends = ends} asked w is e p t c k) =
        says.replay_stopped asked is e
        (told_so asked w is (passes_over told loads asked (Ok w) agrees p) text ends t) c k

-- The call

module _ (loads : List Load) (words : List (List ℕ)) (old new : SinkState) (s : Status)
    (h : EndsBy loads words old new s) where
  abbrev call_over : (List ℕ → Told) → Call
  call_over told = record {
    words = words;
    files = told;
    files_new = told;
    faults_old = λ name. 0;
    faults_new = faults_by loads;
    old = old.bytes;
    new = new.bytes;
    sink_old = old.faults;
    sink_new = new.faults;
  }

  gave_over : (told : List ℕ → Told) → AgreesWith told loads → Gave (call_over told) s
  gave_over told a = record {
    ends = ends_so told loads words a (λ name. Rose 0 (faults_by loads name)) (rose_failed loads) old new s h;
    untouched = λ made name. record {
      told = refl;
      faults = ap (λ (z : List Load). faults_by z name) (nothing_loaded loads words old new s h made);
    };
  }

  is_call : (told : List ℕ → Told) → IsCallOf words told loads old new (call_over told)
  is_call told = record {
    same_words = refl;
    same_files = refl;
    before = refl;
    after = refl;
    rose = rose_failed loads;
    failed = failed_rose loads;
  }

  pub run_over : (told : List ℕ → Told) → AgreesWith told loads
      → (c : Call) × Gave c s × IsCallOf words told loads old new c
  run_over told a = (call_over told, gave_over told a, is_call told)

  pub run_apart : AreLoadedOnce loads
      → (c : Call) × Gave c s × ((name : List ℕ) → IsKnown (c.files name)) × AgreesWith c.files loads
      × IsCallOf words c.files loads old new c
  run_apart apart =
      let k = could_be_told loads apart in (call_over k.0, gave_over k.0 k.2, k.1, k.2, is_call k.0)

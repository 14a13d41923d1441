-- A call over files of each of which something is told, from one over files of which something is told of the job's alone.
use Rattle.std.proofs.Common.{◌≡◌, ℕ, List, [], ◌∷◌, Result, Ok, Err, refl, sym, ap, subst}
use Rattle.std.specs.List.{AllByRecursion}
use Rattle.ar_base.specs.Counts.{limit_of}
use Rattle.ar_io.specs.Outside.{Told, Bytes, Absent, Untold, MayBeLonger, IsFile}
use Rattle.ar_io.specs.Writing.{SinkState}
use Rattle.run_words.specs.Jobs.{IsAsked}
use Rattle.run_words.specs.declared.jobs.Asked.{Asked}
use Rattle.job_stages.specs.Files.{File, files_of, Loaded, none, long, later, whole, Loads, this, next}
use Rattle.job_stages.specs.Stages.{Ready, Passes, not_loaded, loaded}
use Rattle.job_stages.specs.declared.refusals.FileKind.{FileKind}
use Rattle.job_stages.specs.declared.refusals.Refusal.{Refusal}
use Rattle.job_stages.specs.declared.status.Status.{Status}
use Rattle.altarica_run.specs.Follows.{Call, Gave, RoseAt, IsKnown, IsQuiet}
use Rattle.altarica_run.specs.Says.{Says, usage, refuses, tells, Begins, EndsSo}
use Rattle.altarica_run.specs.Says as says
use Rattle.job_laws.specs.Runs.{AreFilesTold, settled, settled_call}

pub settled_known : (told : Told) → IsKnown (settled told)
settled_known (Bytes bytes) = tt
settled_known Absent = tt
settled_known Untold = tt

settled_same : (told : Told) → IsKnown told → settled told ≡ told
settled_same (Bytes bytes) k = refl
settled_same Absent k = refl
settled_same Untold k = absurd k

module _ (told : List ℕ → Told) where
  abbrev after : List ℕ → Told
  after name = settled (told name)

  abbrev AllKnown : List File → Type 0
  AllKnown = AllByRecursion (λ (f : File). IsKnown (told f.name))

  file_after : (f : File) (text : List ℕ) → IsKnown (told f.name) → IsFile (told f.name) (limit_of f.count) text
      → IsFile (after f.name) (limit_of f.count) text
  file_after f text k h =
      subst (λ (z : Told). IsFile z (limit_of f.count) text) (sym (settled_same (told f.name) k)) h

  loaded_after : (fs : List File) (r : Result (List (List ℕ)) Refusal) → AllKnown fs → Loaded told fs r
      → Loaded after fs r
  loaded_after [] r k none = none
  loaded_after (f ∷ fs) r k (long h) =
      long (subst (λ (z : Told). MayBeLonger z (limit_of f.count)) (sym (settled_same (told f.name) k.0)) h)
  loaded_after (f ∷ fs) r k (later {r = x} text h m) =
      later text (file_after f text k.0 h) (loaded_after fs (Err x) k.1 m)
  loaded_after (f ∷ fs) r k (whole {texts = texts} text h m) =
      whole text (file_after f text k.0 h) (loaded_after fs (Ok texts) k.1 m)

  loads_after : (fs : List File) (kind : FileKind) (name : List ℕ) → AllKnown fs → Loads told fs kind name
      → Loads after fs kind name
  loads_after [] kind name k h = elim h [ ]
  loads_after (f ∷ fs) kind name k this = this
  loads_after (f ∷ fs) kind name k (next text h m) =
      next text (file_after f text k.0 h) (loads_after fs kind name k.1 m)

  pub passes_after : (asked : Asked) (x : Result Ready Refusal) → AreFilesTold told asked → Passes told asked x → Passes after asked x
  passes_after asked x k (not_loaded {r = r} h) = not_loaded (loaded_after (files_of asked) (Err r) k h)
  passes_after asked x k (loaded texts h is s) = loaded texts (loaded_after (files_of asked) (Ok texts) k h) is s

  -- The words

  module _ (rose : List ℕ → Type 0) (words : List (List ℕ)) (asked : Asked) (is : IsAsked words asked)
      (one : (a b : Asked) → IsAsked words a → IsAsked words b → a ≡ b) (known : AreFilesTold told asked) where
    known_of : (other : Asked) → IsAsked words other → AreFilesTold told other
    known_of other b = subst (λ (z : Asked). AreFilesTold told z) (one asked other is b) known

    says_after : (text : List ℕ) (ends : Status) → Says told words text ends → Says after words text ends
    says_after text ends (usage h) = usage h
    says_after text ends (refuses other r b p) = refuses other r b (passes_after other (Err r) (known_of other b) p)
    says_after text ends (tells other w b p t) = tells other w b (passes_after other (Ok w) (known_of other b) p) t

    begins_after : (text : List ℕ) → Begins told rose words text → Begins after rose words text
    begins_after text says.nothing = says.nothing
    begins_after text (says.said {ends = ends} h) = says.said (says_after text ends h)
    begins_after text (says.not_read {kind = kind} {name = name} other b l r) =
        says.not_read other b (loads_after (files_of other) kind name (known_of other b) l) r

    pub ends_after : (old new : SinkState) (s : Status) → EndsSo told rose words old new s
        → EndsSo after rose words old new s
    ends_after old new s (says.says {text = text} {ends = ends} h a k) = says.says (says_after text ends h) a k
    ends_after old new s (says.not_read {kind = kind} {name = name} other b l r a k) =
        says.not_read other b (loads_after (files_of other) kind name (known_of other b) l) r a k
    ends_after old new s (says.not_written {text = text} h r c) = says.not_written (begins_after text h) r c
    ends_after old new s (says.no_memory e) = says.no_memory e
    ends_after old new s (says.replay_stopped {text = text} {ends = ends} other b e h c k) =
        says.replay_stopped other b e (says_after text ends h) c k

-- The call

pub gave_after : (c : Call) (s : Status) (asked : Asked) → ((a b : Asked) → IsAsked c.words a → IsAsked c.words b → a ≡ b)
    → Gave c s → IsAsked c.words asked → AreFilesTold c.files asked
    → Gave (settled_call c) s
gave_after c s asked one g is known = record {
  ends = ends_after c.files (RoseAt c) c.words asked is one known
      (record { bytes = c.old; faults = c.sink_old }) (record { bytes = c.new; faults = c.sink_new }) s g.ends;
  untouched = λ none name. record {
    told = ap settled ((g.untouched none name).told);
    faults = (g.untouched none name).faults;
  };
}

pub quiet_after : (c : Call) → IsQuiet c → IsQuiet (settled_call c)
quiet_after c q = record { read = q.read; written = q.written }

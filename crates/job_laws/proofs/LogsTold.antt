-- What loads came to, over files of which just that is told which they gave.
use Rattle.std.proofs.Common.{◌≡◌, ◌≤◌, ◌<◌, ℕ, List, [], ◌∷◌, Result, Ok, Err, length, refl, sym, subst}
use Rattle.ar_base.specs.Counts.{limit_of}
use Rattle.ar_io.specs.Loads.{Load}
use Rattle.ar_io.specs.Outside.{Told, Bytes, MayBeLonger, IsFile}
use Rattle.ar_io.specs.declared.outside.LoadFault.{LoadFault}
use Rattle.ar_io.specs.declared.outside.LoadFault.TheVariants as fault
use Rattle.run_words.specs.declared.jobs.Asked.{Asked}
use Rattle.job_stages.specs.Files.{File, files_of, none, long, later, whole, this, next}
use Rattle.job_stages.specs.Loading.{AnswersFiles, RefusesFiles, limited}
use Rattle.job_stages.specs.Loading as loading
use Rattle.job_stages.specs.Logs.{logged, stop_of, Came, PassesBy, not_come, come}
use Rattle.job_stages.specs.Logs as logs
use Rattle.job_stages.specs.Stages.{Ready, not_loaded, loaded}
use Rattle.job_stages.specs.declared.refusals.Refusal.{Refusal}
use Rattle.job_stages.specs.declared.stops.Stop.{Stop}
use Rattle.job_stages.specs.declared.stops.Stop.TheVariants.{Refused, Memory}
use Rattle.job_laws.specs.Runs.{IsToldOfLoad, AgreesWith, Failed, here, behind, PassesOver, passes, not_read}

is_file : (t : Told) (most : ℕ) (text : List ℕ) → t ≡ Bytes text → length text ≤ most → IsFile t most text
is_file t most text e h = subst (λ (z : Told). IsFile z most text) (sym e) (record { held = refl; short = h })

may_be_longer : (t : Told) (most : ℕ) (text : List ℕ) → t ≡ Bytes text → most < length text → MayBeLonger t most
may_be_longer t most text e h = subst (λ (z : Told). MayBeLonger z most) (sym e) h

module _ (told : List ℕ → Told) where
  -- what files come to, where counts rose for the names of which one of these loads failed
  abbrev Come : List File → List Load → Result (List (List ℕ)) Stop → Type 0
  Come fs loads came =
      AnswersFiles {X = List (List ℕ)} (λ (texts : List (List ℕ)). texts) told (λ name. Failed name loads) fs came

  stopped : (f : File) (fs : List File) (why : LoadFault) → IsToldOfLoad (told f.name) (limit_of f.count) (Err why)
      → Come (f ∷ fs) (logged f (Err why) ∷ []) (Err (stop_of f why))
  stopped f fs fault.Failed a = loading.not_read this (here refl refl)
  stopped f fs fault.TooLong a = limited (long (may_be_longer (told f.name) (limit_of f.count) a.0 a.1 a.2))
  stopped f fs fault.Memory a = tt

  module _ (f : File) (fs : List File) (l : Load) (loads : List Load) (text : List ℕ)
      (is : IsFile (told f.name) (limit_of f.count) text) where
    more_refused : (r : Refusal) → RefusesFiles told (λ name. Failed name loads) fs r
        → RefusesFiles told (λ name. Failed name (l ∷ loads)) (f ∷ fs) r
    more_refused r (limited h) = limited (later text is h)
    more_refused r (loading.not_read h k) = loading.not_read (next text is h) (behind k)

    more_stopped : (s : Stop) → Come fs loads (Err s) → Come (f ∷ fs) (l ∷ loads) (Err s)
    more_stopped (Refused r) h = more_refused r h
    more_stopped Memory h = tt

  pub came_told : (fs : List File) (loads : List Load) (came : Result (List (List ℕ)) Stop) → AgreesWith told loads
      → Came fs loads came → Come fs loads came
  came_told fs loads came a logs.none = none
  came_told fs loads came a (logs.stops {f = f} {fs = gs} why) = stopped f gs why a.0
  came_told fs loads came a (logs.later {f = f} {fs = gs} {loads = more} {s = s} text h c) =
      more_stopped f gs (logged f (Ok text)) more text (is_file (told f.name) (limit_of f.count) text a.0 h) s
      (came_told gs more (Err s) a.1 c)
  came_told fs loads came a (logs.whole {f = f} {fs = gs} {loads = more} {texts = texts} text h c) =
      whole text (is_file (told f.name) (limit_of f.count) text a.0 h) (came_told gs more (Ok texts) a.1 c)

  -- The stages of a job

  module _ (loads : List Load) (asked : Asked) where
    refused_over : (r : Refusal) → RefusesFiles told (λ name. Failed name loads) (files_of asked) r
        → PassesOver told loads asked (Err r)
    refused_over r (limited h) = passes (not_loaded h)
    refused_over r (loading.not_read h k) = not_read h k

    pub passes_over : (x : Result Ready Refusal) → AgreesWith told loads → PassesBy loads asked x
        → PassesOver told loads asked x
    passes_over x a (not_come {r = r} c) =
        refused_over r (came_told (files_of asked) loads (Err (Refused r)) a c)
    passes_over x a (come texts c is s) =
        passes (loaded texts (came_told (files_of asked) loads (Ok texts) a c) is s)

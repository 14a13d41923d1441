-- What the loads that a shelf logs say of the files of a job.
use Rattle.std.specs.Prelude.{◌≡◌, ◌≤◌, ℕ, List, [], ◌∷◌, ◌++◌, Result, Ok, Err, length}
use Rattle.ar_base.specs.Counts.{limit_of}
use Rattle.ar_io.specs.Loads.{Load}
use Rattle.ar_io.specs.declared.outside.LoadFault.{LoadFault}
use Rattle.ar_io.specs.declared.outside.LoadFault.TheVariants as fault
use Rattle.run_words.specs.declared.jobs.Asked.{Asked}
use Rattle.job_stages.specs.Files.{File, files_of, IsText}
use Rattle.job_stages.specs.Stages.{Ready, Stages}
use Rattle.job_stages.specs.declared.refusals.Refusal.{Refusal}
use Rattle.job_stages.specs.declared.refusals.Refusal.TheVariants.{NotRead, Size}
use Rattle.job_stages.specs.declared.stops.Stop.{Stop}
use Rattle.job_stages.specs.declared.stops.Stop.TheVariants.{Refused, Memory}

-- the load of a file, at most as many bytes as its limit, of which this came
abbrev pub logged : File → Result (List ℕ) LoadFault → Load
logged f got = record { name = f.name; most = limit_of f.count; got = got }

-- what a job stops with where a file did not come
abbrev pub stop_of : File → LoadFault → Stop
stop_of f fault.Failed = Refused (NotRead f.kind)
stop_of f fault.TooLong = Refused (Size f.count)
stop_of f fault.Memory = Memory

-- the loads are those of the files, in their order, up to the first file that did not come, and no others; what came:
-- the texts of all files, or what the job stops with where one did not come
pub data Came : List File → List Load → Result (List (List ℕ)) Stop → Type 0 where
  none : Came [] [] (Ok [])
  stops : {f : File} {fs : List File} (why : LoadFault)
      → Came (f ∷ fs) (logged f (Err why) ∷ []) (Err (stop_of f why))
  later : {f : File} {fs : List File} {loads : List Load} {s : Stop} (text : List ℕ)
      → length text ≤ limit_of f.count → Came fs loads (Err s)
      → Came (f ∷ fs) (logged f (Ok text) ∷ loads) (Err s)
  whole : {f : File} {fs : List File} {loads : List Load} {texts : List (List ℕ)} (text : List ℕ)
      → length text ≤ limit_of f.count → Came fs loads (Ok texts)
      → Came (f ∷ fs) (logged f (Ok text) ∷ loads) (Ok (text ∷ texts))

-- the loads are those of the files, in their order, up to the first file that did not come, and no others
abbrev pub AreLoads : List File → List Load → Type 0
AreLoads files loads = (came : Result (List (List ℕ)) Stop) × Came files loads came

-- the log of a shelf grew by loads of which P holds
abbrev pub Grew : List Load → List Load → (List Load → Type 0) → Type 0
Grew old new P = (loads : List Load) × (new ≡ old ++ loads) × P loads

-- what stands ready once all stages of the job are passed over the texts that these loads gave, or the first refusal: a
-- file that did not come is one
pub data PassesBy (loads : List Load) (asked : Asked) : Result Ready Refusal → Type 0 where
  not_come : {r : Refusal} → Came (files_of asked) loads (Err (Refused r)) → PassesBy loads asked (Err r)
  come : {x : Result Ready Refusal} {text : List ℕ} (texts : List (List ℕ)) → Came (files_of asked) loads (Ok texts)
      → IsText asked texts text
      → Stages asked texts text x → PassesBy loads asked x

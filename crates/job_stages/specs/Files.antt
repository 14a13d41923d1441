-- The files of a job, and what loading them comes to.
use Rattle.std.specs.Prelude.{◌≡◌, ℕ, Bool, true, false, List, [], ◌∷◌, Option, Some, None, Result, Ok, Err}
use Rattle.ar_base.specs.Counts.{limit_of}
use Rattle.ar_base.specs.declared.counts.Count.{Count}
use Rattle.ar_base.specs.declared.counts.Count.TheVariants.{ModelBytes, ScriptBytes}
use Rattle.ar_io.specs.Outside.{Told, MayBeLonger, IsFile}
use Rattle.run_words.specs.Generator.{generated}
use Rattle.run_words.specs.declared.jobs.Asked.{Asked}
use Rattle.job_stages.specs.Jobs.{makes_model}
use Rattle.job_stages.specs.declared.refusals.FileKind.{FileKind}
use Rattle.job_stages.specs.declared.refusals.FileKind.TheVariants.{Model, Script}
use Rattle.job_stages.specs.declared.refusals.Refusal.{Refusal}
use Rattle.job_stages.specs.declared.refusals.Refusal.TheVariants.{Size}

-- a file: what it is, its name, and the count that limits its bytes
pub record File : Type 0 where
  pub kind : FileKind
  pub name : List ℕ
  pub count : Count

-- the model of this name
abbrev pub model_file : List ℕ → File
model_file name = record { kind = Model; name = name; count = ModelBytes }

-- the script of this name, where there is one
abbrev pub script_files : Option (List ℕ) → List File
script_files None = []
script_files (Some name) = record { kind = Script; name = name; count = ScriptBytes } ∷ []

-- the files of a job, in the order in which they are loaded: the model, unless the command makes it, and the script
abbrev pub files_where : Bool → Asked → List File
files_where true asked = script_files asked.job.script
files_where false asked = model_file asked.job.model ∷ script_files asked.job.script

abbrev pub files_of : Asked → List File
files_of asked = files_where (makes_model asked.job.command) asked

-- the bytes of the files, or the limit of the first one that may be longer; told: what the shelf tells of each name
pub data Loaded (told : List ℕ → Told) : List File → Result (List (List ℕ)) Refusal → Type 0 where
  none : Loaded told [] (Ok [])
  long : {f : File} {fs : List File} → MayBeLonger (told f.name) (limit_of f.count)
      → Loaded told (f ∷ fs) (Err (Size f.count))
  later : {f : File} {fs : List File} {r : Refusal} (text : List ℕ) → IsFile (told f.name) (limit_of f.count) text
      → Loaded told fs (Err r)
      → Loaded told (f ∷ fs) (Err r)
  whole : {f : File} {fs : List File} {texts : List (List ℕ)} (text : List ℕ)
      → IsFile (told f.name) (limit_of f.count) text → Loaded told fs (Ok texts)
      → Loaded told (f ∷ fs) (Ok (text ∷ texts))

-- a file of this kind and name, which is loaded once those before it are
pub data Loads (told : List ℕ → Told) : List File → FileKind → List ℕ → Type 0 where
  this : {f : File} {fs : List File} → Loads told (f ∷ fs) f.kind f.name
  next : {f : File} {fs : List File} {kind : FileKind} {name : List ℕ} (text : List ℕ)
      → IsFile (told f.name) (limit_of f.count) text
      → Loads told fs kind name → Loads told (f ∷ fs) kind name

-- the model's text is that of the first file, or the one that is generated for the number of the words
pub data IsText (asked : Asked) : List (List ℕ) → List ℕ → Type 0 where
  first : {text : List ℕ} {more : List (List ℕ)} → makes_model asked.job.command ≡ false → IsText asked (text ∷ more) text
  made : {texts : List (List ℕ)} → makes_model asked.job.command ≡ true → IsText asked texts (generated asked.job.number)

-- What the calls that load files answer.
use Rattle.std.specs.Prelude.{◌≡◌, ◌⊎◌, ◌≤◌, ℕ, Bool, true, false, List, [], ◌∷◌, Option, Some, None, Result, Ok, Err, Vec, length}
use Rattle.std.specs.Global.{Global}
use Rattle.ar_base.specs.Counts.{limit_of}
use Rattle.ar_base.specs.declared.counts.Count.TheVariants.{ModelBytes}
use Rattle.ar_io.specs.Loads.{Load}
use Rattle.ar_io.specs.Outside.{Told, MayBeLonger, IsFile}
use Rattle.run_words.specs.declared.jobs.Asked.{Asked}
use Rattle.job_stages.specs.Files.{File, files_of, Loaded, Loads, IsText}
use Rattle.job_stages.specs.Jobs.{makes_model}
use Rattle.job_stages.specs.Logs.{Came, AreLoads}
use Rattle.job_stages.specs.declared.loading.Texts.{Texts}
use Rattle.job_stages.specs.declared.refusals.FileKind.{FileKind}
use Rattle.job_stages.specs.declared.refusals.Refusal.{Refusal}
use Rattle.job_stages.specs.declared.refusals.Refusal.TheVariants.{NotRead, Size}
use Rattle.job_stages.specs.declared.stops.Stop.{Stop}
use Rattle.job_stages.specs.declared.stops.Stop.TheVariants.{Refused, Memory}

-- the bytes of a file; or it was not read, where its count rose; or it may be too long; or want of memory
abbrev pub AnswersFile : (List ℕ → Told) → (List ℕ → Type 0) → File → Result (Vec ℕ Global) Stop → Type 0
AnswersFile told rose f (Ok bytes) = IsFile (told f.name) (limit_of f.count) bytes.items
AnswersFile told rose f (Err (Refused r)) =
    ((r ≡ NotRead f.kind) × rose f.name) ⊎ ((r ≡ Size f.count) × MayBeLonger (told f.name) (limit_of f.count))
AnswersFile told rose f (Err Memory) = Unit {0}

-- the files are refused: by the limit of one of them, or since one was not read
pub data RefusesFiles (told : List ℕ → Told) (rose : List ℕ → Type 0) (files : List File) : Refusal → Type 0 where
  limited : {r : Refusal} → Loaded told files (Err r) → RefusesFiles told rose files r
  not_read : {kind : FileKind} {name : List ℕ} → Loads told files kind name → rose name
      → RefusesFiles told rose files (NotRead kind)

-- the texts of all files, or a refusal, or want of memory; texts: the list that an answer is seen as
abbrev pub AnswersFiles : {X : Type 0} → (X → List (List ℕ)) → (List ℕ → Told) → (List ℕ → Type 0) → List File
    → Result X Stop → Type 0
AnswersFiles texts told rose files (Ok x) = Loaded told files (Ok (texts x))
AnswersFiles texts told rose files (Err (Refused r)) = RefusesFiles told rose files r
AnswersFiles texts told rose files (Err Memory) = Unit {0}

-- the text of the script, where there is one
abbrev pub script_texts : Option (Vec ℕ Global) → List (List ℕ)
script_texts None = []
script_texts (Some bytes) = bytes.items ∷ []

-- the texts of the files of a job: the model's, unless the command makes it, and the script's
abbrev pub texts_where : Bool → Texts → List (List ℕ)
texts_where true t = script_texts t.script
texts_where false t = t.model.items ∷ script_texts t.script

abbrev pub texts_of : Asked → Texts → List (List ℕ)
texts_of asked t = texts_where (makes_model asked.job.command) t

-- the texts with which a job goes on: its files are loaded, and the model's text is that of the first, or is made
pub record AreTexts (told : List ℕ → Told) (asked : Asked) (t : Texts) : Type 0 where
  pub loaded : Loaded told (files_of asked) (Ok (texts_of asked t))
  pub is_text : IsText asked (texts_of asked t) t.model.items
  pub short : length t.model.items ≤ limit_of ModelBytes

-- the texts with which a job goes on, or a refusal, or want of memory
abbrev pub AnswersTexts : (List ℕ → Told) → (List ℕ → Type 0) → Asked → Result Texts Stop → Type 0
AnswersTexts told rose asked (Ok t) = AreTexts told asked t
AnswersTexts told rose asked (Err (Refused r)) = RefusesFiles told rose (files_of asked) r
AnswersTexts told rose asked (Err Memory) = Unit {0}

-- What the log of the shelf says of an answer

-- an answer, with the list that its success is seen as
abbrev pub seen : {X : Type 0} → (X → List (List ℕ)) → Result X Stop → Result (List (List ℕ)) Stop
seen texts (Ok x) = Ok (texts x)
seen texts (Err s) = Err s

-- the only text
abbrev pub one_text : Vec ℕ Global → List (List ℕ)
one_text bytes = bytes.items ∷ []

-- the texts that these loads of the files gave, or what stopped them; where memory was refused, a model that was to be
-- made may have been what wanted it
abbrev pub AnswersLoads : {X : Type 0} → (X → List (List ℕ)) → List File → Result X Stop → List Load → Type 0
AnswersLoads texts files (Ok x) loads = Came files loads (Ok (texts x))
AnswersLoads texts files (Err (Refused r)) loads = Came files loads (Err (Refused r))
AnswersLoads texts files (Err Memory) loads = AreLoads files loads

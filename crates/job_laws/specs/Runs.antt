-- The loads of a real run, and calls over files of which something is told that answer as the run does.
use Rattle.std.specs.Prelude.{◌≡◌, ◌<◌, ℕ, List, ◌∷◌, Result, Ok, Err, length, map}
use Rattle.std.specs.List.{AllByRecursion, IsDistinct}
use Rattle.std.specs.Str.{bytes_eq}
use Rattle.ar_io.specs.Loads.{Load}
use Rattle.ar_io.specs.Outside.{Told, Bytes, Absent, Untold}
use Rattle.ar_io.specs.Writing.{SinkState}
use Rattle.ar_io.specs.declared.outside.LoadFault.{LoadFault}
use Rattle.ar_io.specs.declared.outside.LoadFault.TheVariants as fault
use Rattle.run_words.specs.declared.jobs.Asked.{Asked}
use Rattle.job_stages.specs.Files.{File, files_of, Loads}
use Rattle.job_stages.specs.Stages.{Ready, Passes}
use Rattle.job_stages.specs.declared.refusals.FileKind.{FileKind}
use Rattle.job_stages.specs.declared.refusals.Refusal.{Refusal}
use Rattle.job_stages.specs.declared.refusals.Refusal.TheVariants.{NotRead}
use Rattle.altarica_run.specs.Follows.{Call, RoseAt, IsKnown, sink_before, sink_after}

-- what is told of a name is what came of its load: the bytes, or more bytes than were asked for, or that there are none;
-- of a load for which memory was refused nothing need be told
abbrev pub IsToldOfLoad : Told → ℕ → Result (List ℕ) LoadFault → Type 0
IsToldOfLoad told most (Ok bytes) = told ≡ Bytes bytes
IsToldOfLoad told most (Err fault.TooLong) = (bytes : List ℕ) × (told ≡ Bytes bytes) × (most < length bytes)
IsToldOfLoad told most (Err fault.Failed) = told ≡ Absent
IsToldOfLoad told most (Err fault.Memory) = Unit {0}

-- the same of each of these loads
abbrev pub AgreesWith : (List ℕ → Told) → List Load → Type 0
AgreesWith told = AllByRecursion (λ (l : Load). IsToldOfLoad (told l.name) l.most l.got)

-- a load of this name failed
pub data Failed (name : List ℕ) : List Load → Type 0 where
  here : {l : Load} {loads : List Load} → l.name ≡ name → l.got ≡ Err fault.Failed → Failed name (l ∷ loads)
  behind : {l : Load} {loads : List Load} → Failed name loads → Failed name (l ∷ loads)

-- the stages of the job come to this over files of which this is told; or a file of it was not read, a load of which
-- failed
pub data PassesOver (told : List ℕ → Told) (loads : List Load) (asked : Asked) : Result Ready Refusal → Type 0 where
  passes : {x : Result Ready Refusal} → Passes told asked x → PassesOver told loads asked x
  not_read : {kind : FileKind} {name : List ℕ} → Loads told (files_of asked) kind name → Failed name loads
      → PassesOver told loads asked (Err (NotRead kind))

-- no name is loaded twice
abbrev pub AreLoadedOnce : List Load → Type 0
AreLoadedOnce loads = IsDistinct bytes_eq (map (λ (l : Load). l.name) loads)

-- the call is of these words, over files of which this is told and with the sink before and after; counts of faults rose
-- for just those names of which a load failed
pub record IsCallOf (words : List (List ℕ)) (told : List ℕ → Told) (loads : List Load) (old new : SinkState) (c : Call)
    : Type 0 where
  pub same_words : c.words ≡ words
  pub same_files : c.files ≡ told
  pub before : sink_before c ≡ old
  pub after : sink_after c ≡ new
  pub rose : (name : List ℕ) → Failed name loads → RoseAt c name
  pub failed : (name : List ℕ) → RoseAt c name → Failed name loads

-- something is told of each file of the job
abbrev pub AreFilesTold : (List ℕ → Told) → Asked → Type 0
AreFilesTold told asked = AllByRecursion (λ (f : File). IsKnown (told f.name)) (files_of asked)

-- what is told, and that there is no file where nothing is told
abbrev pub settled : Told → Told
settled (Bytes bytes) = Bytes bytes
settled Absent = Absent
settled Untold = Absent

-- the same call, over files of each of which something is told
abbrev pub settled_call : Call → Call
settled_call c = record c {
  files = λ name. settled (c.files name);
  files_new = λ name. settled (c.files_new name);
}

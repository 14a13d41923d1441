-- The stages of a job, from its files to what stands ready for its command. The first stage that refuses decides.
use Rattle.std.specs.Prelude.{◌≡◌, ◌<◌, ◌≤◌, ℕ, Bool, true, false, List, [], ◌∷◌, map, length, codes, Option, Some, None, Result, Ok, Err}
use Rattle.ar_base.specs.Counts.{limit_of}
use Rattle.ar_base.specs.Stages.{Then, Where}
use Rattle.ar_base.specs.Texts.{text_at}
use Rattle.ar_base.specs.declared.counts.Count.TheVariants.{Gates, CutLines}
use Rattle.ar_firing.specs.Rules.{Rule, rule_number, Spot, AtEvent, AtUnit, AtVariable, AtObserver, AtWhole, IsFirstBroken, IsAskedUpTo, KeepsUpTo}
use Rattle.ar_io.specs.Outside.{Told}
use Rattle.ar_meaning.specs.Runs.{Command}
use Rattle.eq_core.specs.Gates.{Table}
use Rattle.job_inputs.specs.Naming.{NamesEvents, HasUnknown}
use Rattle.gts_flatten.specs.Elaborating.{Elaborated}
use Rattle.gts_flatten.specs.Flat.{naming_of}
use Rattle.hierarchy.specs.Listing.{variables}
use Rattle.hierarchy.specs.Paths.{unit_path}
use Rattle.job_inputs.specs.CutLists.{CutLine, CutList}
use Rattle.job_inputs.specs.Scripts.{BadLine, Commands, Why, IsNoCommand, LacksWay, NamesNoEvent}
use Rattle.run_words.specs.Commands.{shape_of, is_script, is_list, to_forest, to_table, to_cuts}
use Rattle.run_words.specs.declared.jobs.Asked.{Asked}
use Rattle.run_words.specs.declared.verbs.Verb.{Verb}
use Rattle.table_text.specs.Texts.{IsTableFor}
use Rattle.job_inputs.specs.Wanting.{IsWanted, NamesObserver, NamesNone, WantsNone}
use Rattle.job_inputs.specs.declared.wanting.Wanted.{Wanted}
use Rattle.job_stages.specs.Elaborates.{Elaborates}
use Rattle.job_stages.specs.Files.{files_of, Loaded, IsText}
use Rattle.job_stages.specs.Jobs.{makes_model}
use Rattle.job_stages.specs.declared.refusals.Refusal.{Refusal}
use Rattle.job_stages.specs.declared.refusals.Refusal.TheVariants.{NoCommand, NoCut, NeedsWay, NoEvent, NoDropped, NoObserver, NoValue, Size, Outside}

-- what stands ready: the source's system over paths with its names, the commands of the script, the cut lines of the
-- list, the events that are dropped, the observer and the value that are asked for, the observer alone whose cone
-- is to be explained, and, where only cuts of at most so many events are asked for, their number
pub record Ready : Type 0 where
  pub source : Elaborated
  pub commands : List Command
  pub lines : List CutLine
  pub dropped : List ℕ
  pub wanted : Option Wanted
  pub shown : Option ℕ
  pub order : Option ℕ

-- the system alone, and the number of events
abbrev pub bare : Option ℕ → Elaborated → Ready
bare order x =
    record { source = x; commands = []; lines = []; dropped = []; wanted = None; shown = None; order = order }

-- The script

-- the refusal of a line of the script
abbrev pub line_refused : Why → ℕ → Refusal
line_refused IsNoCommand n = NoCommand n
line_refused LacksWay n = NeedsWay n
line_refused NamesNoEvent n = NoEvent n

-- the commands of the second file, or its first bad line
pub data Scripted (texts : List (List ℕ)) (w : Ready) : Result Ready Refusal → Type 0 where
  gives : {model script : List ℕ} {cs : List Command} → texts ≡ model ∷ script ∷ [] → Commands script w.source (Ok cs)
      → Scripted texts w (Ok (record w { commands = cs }))
  bad : {model script : List ℕ} {l : BadLine} → texts ≡ model ∷ script ∷ [] → Commands script w.source (Err l)
      → Scripted texts w (Err (line_refused l.why l.number))

-- The list of cuts

-- the refusal of a line of the list
abbrev pub cut_refused : Why → ℕ → Refusal
cut_refused IsNoCommand n = NoCut n
cut_refused LacksWay n = NeedsWay n
cut_refused NamesNoEvent n = NoEvent n

-- the cut lines of the second file, or its first bad line, or that there are more than there may be
pub data ListsCuts (texts : List (List ℕ)) (w : Ready) : Result Ready Refusal → Type 0 where
  lists : {model list : List ℕ} {cuts : List CutLine} → texts ≡ model ∷ list ∷ [] → CutList list w.source (Ok cuts)
      → length cuts ≤ limit_of CutLines
      → ListsCuts texts w (Ok (record w { lines = cuts }))
  bad_line : {model list : List ℕ} {l : BadLine} → texts ≡ model ∷ list ∷ [] → CutList list w.source (Err l)
      → ListsCuts texts w (Err (cut_refused l.why l.number))
  exceeds_lines : {model list : List ℕ} {cuts : List CutLine} → texts ≡ model ∷ list ∷ []
      → CutList list w.source (Ok cuts)
      → limit_of CutLines < length cuts
      → ListsCuts texts w (Err (Size CutLines))

-- The dropped events

-- the events that the list names, where there is one, or that a part of it names none
pub data Drops (list : Option (List ℕ)) (w : Ready) : Result Ready Refusal → Type 0 where
  no_list : list ≡ None → Drops list w (Ok w)
  names : {text events : List ℕ} → list ≡ Some text → NamesEvents w.source text events
      → Drops list w (Ok (record w { dropped = events }))
  names_none : {text : List ℕ} → list ≡ Some text → HasUnknown w.source text → Drops list w (Err NoDropped)

-- The observer and its value

-- the observer that the path names with the value of its type that the word writes, or that the path names none, or
-- that no value is asked for
pub data Wanting (observer word : Option (List ℕ)) (w : Ready) : Result Ready Refusal → Type 0 where
  wants : {path : List ℕ} {wanted : Wanted} → observer ≡ Some path
      → IsWanted w.source path word wanted.observer wanted.value
      → Wanting observer word w (Ok (record w { wanted = Some wanted }))
  no_observer : {path : List ℕ} → observer ≡ Some path → NamesNone w.source path
      → Wanting observer word w (Err NoObserver)
  no_value : {path : List ℕ} → observer ≡ Some path → WantsNone w.source path word
      → Wanting observer word w (Err NoValue)

-- the command is about the gate table of the system, for an observer and a value
abbrev pub has_table : Verb → Bool
has_table command = to_table (shape_of command).reach

-- the path of the observer whose value is asked for: that of the models that are generated, where the command makes its
-- model, else that of the words
abbrev pub path_asked : Bool → Option (List ℕ) → Option (List ℕ)
path_asked true given = Some (codes "lost")
path_asked false given = given

-- the same of a job: `lost` where its command makes the model, else what its words give as `--observer`
abbrev pub observer_asked : Asked → Option (List ℕ)
observer_asked asked = path_asked (makes_model asked.job.command) asked.job.observer

-- The observer to explain

-- the observer that the path names, where there is one, or that it names none
pub data Showing (observer : Option (List ℕ)) (w : Ready) : Result Ready Refusal → Type 0 where
  no_path : observer ≡ None → Showing observer w (Ok w)
  shows : {path : List ℕ} {n : ℕ} → observer ≡ Some path → NamesObserver w.source path n
      → Showing observer w (Ok (record w { shown = Some n }))
  shows_none : {path : List ℕ} → observer ≡ Some path → NamesNone w.source path
      → Showing observer w (Err NoObserver)

-- what the words ask for, once the files are read
abbrev pub AsksByWords : Asked → Ready → Result Ready Refusal → Type 0
AsksByWords asked =
    Then (Drops asked.job.dropped)
    (Then (Where (has_table asked.job.command) (Wanting (observer_asked asked) asked.job.value))
    (Where (shape_of asked.job.command).explains (Showing asked.job.observer)))

-- what the words, the script, the list and the command ask of the system
abbrev pub Asks : Asked → List (List ℕ) → Elaborated → Result Ready Refusal → Type 0
Asks asked texts x =
    Then (Where (is_script (shape_of asked.job.command).files) (Scripted texts))
    (Then (Where (is_list (shape_of asked.job.command).files) (ListsCuts texts)) (AsksByWords asked)) (bare asked.order x)

-- The static fragment

-- the command is for systems of the static fragment
abbrev pub is_static : Verb → Bool
is_static command = to_forest (shape_of command).reach

-- the canonical path of what a broken rule is shown with; `main` for the whole model
abbrev pub spot_path : Elaborated → Spot → List ℕ
spot_path x (AtEvent n) = text_at (naming_of x.declarations).events n
spot_path x (AtUnit n) = text_at (map (unit_path x.declarations.model) x.declarations.units) n
spot_path x (AtVariable n) = text_at (naming_of x.declarations).variables n
spot_path x (AtObserver n) = text_at (naming_of x.declarations).observers n
spot_path x AtWhole = codes "main"

-- the system without the dropped events keeps the rules of the static fragment that are asked, or the first that it breaks
pub data Static (w : Ready) : Result Ready Refusal → Type 0 where
  keeps : KeepsUpTo w.order w.source.system w.dropped → Static w (Ok w)
  outside : {rule : Rule} {spot : Spot} → IsAskedUpTo w.order rule → IsFirstBroken w.source.system w.dropped rule spot
      → Static w (Err (Outside (rule_number rule) (spot_path w.source spot)))

-- The gate table

-- the table of the source without the dropped events, for this observer and this value
abbrev pub IsTableOf : Elaborated → List ℕ → Wanted → Table → Type 0
IsTableOf x dropped wanted table =
    IsTableFor (variables x.declarations.model x.declarations.units) x.system dropped wanted.observer wanted.value table

-- the table has as many gates as it may have, or more
pub data Tabled (w : Ready) : Result Ready Refusal → Type 0 where
  fits : {wanted : Wanted} {table : Table} → w.wanted ≡ Some wanted → IsTableOf w.source w.dropped wanted table
      → length table.gates ≤ limit_of Gates
      → Tabled w (Ok w)
  exceeds : {wanted : Wanted} {table : Table} → w.wanted ≡ Some wanted → IsTableOf w.source w.dropped wanted table
      → limit_of Gates < length table.gates
      → Tabled w (Err (Size Gates))

-- The cuts

-- the command lists the cuts of the observer's value, or tells of them
abbrev pub lists_cuts : Verb → Bool
lists_cuts command = to_cuts (shape_of command).reach

-- The stages

-- what the command demands of the system, once the words and the script have asked
abbrev pub Demands : Verb → Ready → Result Ready Refusal → Type 0
Demands command = Then (Where (is_static command) Static) (Where (has_table command) Tabled)

-- from the system on
abbrev pub Readies : Asked → List (List ℕ) → Elaborated → Result Ready Refusal → Type 0
Readies asked texts = Then (Asks asked texts) (Demands asked.job.command)

-- from the model's text on, where the job's files have these texts
abbrev pub Stages : Asked → List (List ℕ) → List ℕ → Result Ready Refusal → Type 0
Stages asked texts = Then (Elaborates asked.job.main) (Readies asked texts)

-- what stands ready once all stages of the job are passed, or the first refusal
pub data Passes (files : List ℕ → Told) (asked : Asked) : Result Ready Refusal → Type 0 where
  not_loaded : {r : Refusal} → Loaded files (files_of asked) (Err r) → Passes files asked (Err r)
  loaded : {x : Result Ready Refusal} {text : List ℕ} (texts : List (List ℕ)) → Loaded files (files_of asked) (Ok texts)
      → IsText asked texts text
      → Stages asked texts text x → Passes files asked x

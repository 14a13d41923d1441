-- What the calls that stand for the stages of a job answer.
use Rattle.std.specs.Prelude.{◌≡◌, ◌<◌, ◌≤◌, ℕ, true, List, [], Option, Some, None, Result, Ok, Err, map, length, slice_get, Vec}
use Rattle.std.specs.Global.{Global}
use Rattle.ar_base.specs.Counts.{limit_of}
use Rattle.ar_base.specs.declared.counts.Count.TheVariants.{Nesting, ScriptBytes, Events, Gates, CutLines}
use Rattle.ar_base.specs.declared.faults.RuleFault.{RuleFault}
use Rattle.ar_base.specs.declared.faults.RuleFault.TheVariants as rules
use Rattle.ar_base.specs.NumbersInside.{EventId}
use Rattle.ar_base.specs.StagesInside.{IsStage}
use Rattle.ar_firing.specs.Forest.{IsForest}
use Rattle.ar_firing.specs.Rules.{KeepsUpTo}
use Rattle.ar_meaning.specs.Runs as runs
use Rattle.ar_meaning.specs.Systems.{System}
use Rattle.ar_parser.specs.declared.fault.ParseFault.{ParseFault}
use Rattle.ar_parser.specs.declared.fault.ParseFault.TheVariants as parse
use Rattle.eq_core.specs.Views.{table_of}
use Rattle.job_inputs.specs.Naming.{NamesEvents, HasUnknown}
use Rattle.job_inputs.specs.NamingInside.{AreEventsOf}
use Rattle.job_inputs.specs.declared.reading.ListFault.{ListFault}
use Rattle.job_inputs.specs.declared.reading.ListFault.TheVariants as list
use Rattle.cut_text.specs.ForestPrinted.{edge_count}
use Rattle.gate_diagrams.specs.Answers.{IsAnswerUpTo, store_of}
use Rattle.gate_diagrams.specs.declared.answer.Drawn.{Drawn}
use Rattle.gts_core.specs.Sound.{IsSound}
use Rattle.gts_core.specs.View.{Views}
use Rattle.gts_core.specs.declared.bound.Chain.{Chain}
use Rattle.gts_core.specs.declared.system.GtsParts.{GtsParts}
use Rattle.gts_flatten.specs.Elaborating.{Elaborated}
use Rattle.gts_flatten.specs.Flat.{IsFlat, naming_of_parts}
use Rattle.mode_trees.specs.Views.{trees_of, number_in}
use Rattle.mode_trees.specs.Ways.{OwnTheirWays}
use Rattle.mode_trees.specs.declared.forests.Forest.{Forest}
use Rattle.reason_text.specs.Answers.{IsObserverIn}
use Rattle.job_inputs.specs.Chains.{cut_of, HaveKnownWays}
use Rattle.job_inputs.specs.CutLists.{CutLine, CutList}
use Rattle.job_inputs.specs.Flat.{command_of, AreFirable, IsOfTree}
use Rattle.job_inputs.specs.Scripts.{BadLine, Commands}
use Rattle.job_inputs.specs.declared.commands.Command.{Command}
use Rattle.job_inputs.specs.declared.faults.ScriptFault.{ScriptFault}
use Rattle.job_inputs.specs.declared.faults.ScriptFault.TheVariants as script
use Rattle.run_words.specs.declared.jobs.Asked.{Asked}
use Rattle.run_words.specs.declared.jobs.JobFault.{JobFault}
use Rattle.run_words.specs.declared.jobs.JobFault.TheVariants as words
use Rattle.tree_equations.specs.Gives.{AtObserver}
use Rattle.tree_equations.specs.Gives as gate_tables
use Rattle.tree_equations.specs.declared.fault.EqFault.{EqFault}
use Rattle.tree_equations.specs.declared.fault.EqFault.TheVariants as table
use Rattle.job_inputs.specs.Wanting as wanting
use Rattle.job_inputs.specs.declared.wanting.Wanted.{Wanted}
use Rattle.job_inputs.specs.declared.wanting.WantedFault.{WantedFault}
use Rattle.job_inputs.specs.declared.wanting.WantedFault.TheVariants as wanted
use Rattle.zdd_nodes.specs.declared.NodeFault.{NodeFault}
use Rattle.zdd_nodes.specs.declared.NodeFault.TheVariants as node_fault
use Rattle.job_stages.specs.Stages.{Ready, bare, line_refused, cut_refused, IsTableOf, lists_cuts}
use Rattle.job_stages.specs.Tells.{MayNeedMore}
use Rattle.job_stages.specs.declared.refusals.Refusal.{Refusal}
use Rattle.job_stages.specs.declared.refusals.Refusal.TheVariants.{Usage, Size, Syntax, Rule, NoCommand, NoCut, NeedsWay, NoEvent, NoDropped, NoObserver, NoValue}
use Rattle.job_stages.specs.declared.elaborating.Flattened.{Flattened}
use Rattle.job_stages.specs.declared.requesting.Request.{Request}
use Rattle.job_stages.specs.declared.stops.Stop.{Stop}
use Rattle.job_stages.specs.declared.stops.Stop.TheVariants.{Refused, Memory}
use Rattle.job_stages.specs.declared.tabling.GateTable.{GateTable}

-- Faults as stops

abbrev pub stop_of_words : JobFault → Stop
stop_of_words words.Usage = Refused Usage
stop_of_words words.Memory = Memory

abbrev pub stop_of_parse : ParseFault → Stop
stop_of_parse (parse.Lex p) = Refused (Syntax p)
stop_of_parse (parse.Syntax p) = Refused (Syntax p)
stop_of_parse (parse.Depth p) = Refused (Size Nesting)
stop_of_parse parse.Memory = Memory

abbrev pub stop_of_rules : RuleFault → Stop
stop_of_rules (rules.Rule r p) = Refused (Rule r p)
stop_of_rules (rules.Limit count) = Refused (Size count)
stop_of_rules rules.Memory = Memory

abbrev pub stop_of_script : ScriptFault → Stop
stop_of_script (script.Line n) = Refused (NoCommand n)
stop_of_script (script.Which n) = Refused (NeedsWay n)
stop_of_script (script.Unknown n) = Refused (NoEvent n)
stop_of_script script.Memory = Memory

abbrev pub stop_of_cuts : ScriptFault → Stop
stop_of_cuts (script.Line n) = Refused (NoCut n)
stop_of_cuts (script.Which n) = Refused (NeedsWay n)
stop_of_cuts (script.Unknown n) = Refused (NoEvent n)
stop_of_cuts script.Memory = Memory

abbrev pub stop_of_list : ListFault → Stop
stop_of_list list.NoEvent = Refused NoDropped
stop_of_list list.Memory = Memory

abbrev pub stop_of_wanted : WantedFault → Stop
stop_of_wanted wanted.NoObserver = Refused NoObserver
stop_of_wanted wanted.NoValue = Refused NoValue
stop_of_wanted wanted.Memory = Memory

abbrev pub stop_of_table : EqFault → Stop
stop_of_table table.Gates = Refused (Size Gates)
stop_of_table table.Memory = Memory

-- the refusal that a stop tells, none for want of memory
abbrev pub stop_told : Stop → Option Refusal
stop_told (Refused r) = Some r
stop_told Memory = None

-- a call that stands for a stage of a job
abbrev pub IsStageOf : {B X : Type 0} → (B → X → Type 0) → (Result B Refusal → Type 0) → Result X Stop → Type 0
IsStageOf stands stage answer = IsStage stop_told stands stage answer

-- From the model to its system

-- the tree and the flat system are those of the source
abbrev pub IsFlattened : Elaborated → Flattened → Type 0
IsFlattened x f = IsOfTree x f.tree f.system

-- The second file

-- the second file is there, and within its limit
pub record IsThere (given : Option (Vec ℕ Global)) : Type 0 where
  pub bytes : Vec ℕ Global
  pub is : given ≡ Some bytes
  pub short : length bytes.items ≤ limit_of ScriptBytes

-- The script

-- the commands are these, and their ways are those of the system
pub record AreCommands (p : GtsParts) (cs : List runs.Command) (commands : List Command) : Type 0 where
  pub are : cs ≡ map (command_of p) commands
  pub firable : AreFirable p commands

-- the commands of the script that is there, or its first bad line
pub data ReadsScript (script : Option (Vec ℕ Global)) (x : Elaborated) : Result (List runs.Command) Refusal
    → Type 0 where
  gives : {cs : List runs.Command} (bytes : Vec ℕ Global) → script ≡ Some bytes → Commands bytes.items x (Ok cs)
      → ReadsScript script x (Ok cs)
  bad : {l : BadLine} (bytes : Vec ℕ Global) → script ≡ Some bytes → Commands bytes.items x (Err l)
      → ReadsScript script x (Err (line_refused l.why l.number))

-- The list of cuts

-- the cut lines are these, and their ways are those of the system
pub record AreLines (p : GtsParts) (cuts : List CutLine) (chains : List Chain) : Type 0 where
  pub are : cuts ≡ map (cut_of p) chains
  pub known : HaveKnownWays p chains

-- the cut lines of the list that is there, or its first bad line, or that there are too many
pub data ReadsCuts (list : Option (Vec ℕ Global)) (x : Elaborated) : Result (List CutLine) Refusal → Type 0 where
  lists : {cuts : List CutLine} (bytes : Vec ℕ Global) → list ≡ Some bytes → CutList bytes.items x (Ok cuts)
      → length cuts ≤ limit_of CutLines → ReadsCuts list x (Ok cuts)
  bad_line : {l : BadLine} (bytes : Vec ℕ Global) → list ≡ Some bytes → CutList bytes.items x (Err l)
      → ReadsCuts list x (Err (cut_refused l.why l.number))
  too_many : {cuts : List CutLine} (bytes : Vec ℕ Global) → list ≡ Some bytes → CutList bytes.items x (Ok cuts)
      → limit_of CutLines < length cuts → ReadsCuts list x (Err (Size CutLines))

-- The dropped events

-- the events of the list where there is one, none elsewhere, or that a part of it names none
pub data ReadsList (list : Option (List ℕ)) (x : Elaborated) : Result (List ℕ) Refusal → Type 0 where
  no_list : list ≡ None → ReadsList list x (Ok [])
  names : {text events : List ℕ} → list ≡ Some text → NamesEvents x text events → ReadsList list x (Ok events)
  names_none : {text : List ℕ} → list ≡ Some text → HasUnknown x text → ReadsList list x (Err NoDropped)

-- the dropped events are these, and the system has them
pub record AreDropped (p : GtsParts) (dropped : List ℕ) (events : List EventId) : Type 0 where
  pub are : dropped ≡ map (λ (e : EventId). e.n) events
  pub inside : AreEventsOf p events

-- The observer and its value

-- the observer of the path with the value that the word writes, or that there is no such observer, or no such value
pub data ReadsWanted (path : List ℕ) (word : Option (List ℕ)) (x : Elaborated) : Result Wanted Refusal → Type 0 where
  wants : {w : Wanted} → wanting.IsWanted x path word w.observer w.value → ReadsWanted path word x (Ok w)
  no_observer : wanting.NamesNone x path → ReadsWanted path word x (Err NoObserver)
  no_value : wanting.WantsNone x path word → ReadsWanted path word x (Err NoValue)

-- the observer and the value are these, and the system has the observer
pub record IsWantedIn (p : GtsParts) (asked given : Wanted) : Type 0 where
  pub are : asked ≡ given
  pub inside : given.observer < length p.observers.items

-- The observer to explain

-- the observer that the path names where there is a path, none elsewhere, or that it names none
pub data ReadsShown (path : Option (List ℕ)) (x : Elaborated) : Result (Option ℕ) Refusal → Type 0 where
  no_path : path ≡ None → ReadsShown path x (Ok None)
  shows : {text : List ℕ} {n : ℕ} → path ≡ Some text → wanting.NamesObserver x text n → ReadsShown path x (Ok (Some n))
  shows_none : {text : List ℕ} → path ≡ Some text → wanting.NamesNone x text → ReadsShown path x (Err NoObserver)

-- the observer is this one, and the system has it
pub record IsShown (p : GtsParts) (asked given : Option ℕ) : Type 0 where
  pub are : asked ≡ given
  pub inside : IsObserverIn p given

-- the system is that of the source, and the commands and the observer to explain are those that stand ready
pub record IsScripted (w : Ready) (p : GtsParts) (cs : List Command) (observer : Option ℕ) : Type 0 where
  pub flat : IsFlat w.source p
  pub commands : AreCommands p w.commands cs
  pub shown : IsShown p w.shown observer

-- The request

-- the system is that of the source, with no more events than there may be, and what is requested of it is what stands ready
pub record IsRequested (w : Ready) (request : Request) : Type 0 where
  pub few : length request.system.events.items ≤ limit_of Events
  pub flat : IsFlat w.source request.system
  pub dropped : AreDropped request.system w.dropped request.dropped.items
  pub wanted : w.wanted ≡ Some request.wanted
  pub inside : request.wanted.observer < length request.system.observers.items

-- the system with the cut lines of a list, and the number of events
abbrev pub with_lines : Option ℕ → Elaborated → List CutLine → Ready
with_lines order x cuts = record (bare order x) { lines = cuts }

-- the same of this source, with this number of events and these cut lines
pub record IsRequestOf (order : Option ℕ) (x : Elaborated) (cuts : List CutLine) (w : Ready) (request : Request) : Type 0
  where
    pub same_order : w.order ≡ order
    pub source : w.source ≡ x
    pub lines : w.lines ≡ cuts
    pub requested : IsRequested w request

-- The static fragment

-- the system keeps the rules of the static fragment that are asked without the dropped events, and the forest is its own: its
-- edges have ways of their own events, and there are no more edges than events
pub record HasForest (p : GtsParts) (w : Ready) (forest : Forest) : Type 0 where
  pub own : OwnTheirWays p forest.trees.items
  pub few : edge_count forest.trees.items ≤ length p.events.items
  pub keeps : (flat : System ℕ) → Views p flat → KeepsUpTo w.order flat w.dropped
  pub is_forest : (flat : System ℕ) → Views p flat → IsForest flat w.dropped (trees_of (number_in p) forest)

-- The gate table

-- the gates are those of the source's table, as the trees of the forest give them to the flat system, whose parts are
-- sound, and the events are called by their paths
pub record IsGateTable (p : GtsParts) (forest : Forest) (w : Ready) (t : GateTable) : Type 0 where
  pub sound : IsSound p
  pub wanted : Wanted
  pub are : w.wanted ≡ Some wanted
  pub inside : wanted.observer < length p.observers.items
  pub is_table : IsTableOf w.source w.dropped wanted (table_of t.equations)
  pub by_trees : AtObserver (slice_get p.observers.items wanted.observer)
      (gate_tables.IsTableOfParts p forest wanted.value (table_of t.equations))
  pub events : t.events.items ≡ (naming_of_parts p).events

-- the system, its forest and its gate table are those of what stands ready
pub record HasGates (w : Ready) (p : GtsParts) (f : Forest) (t : GateTable) : Type 0 where
  pub flat : IsFlat w.source p
  pub forest : HasForest p w f
  pub table : IsGateTable p f w t

-- The cuts

-- what is drawn answers the gate table of what stands ready, with no more nodes than the job may have
pub record IsDrawnFor (asked : Asked) (w : Ready) (p : GtsParts) (forest : Forest) (drawn : Drawn) : Type 0 where
  pub lists : lists_cuts asked.job.command ≡ true
  pub table : GateTable
  pub gates : HasGates w p forest table
  pub answer : IsAnswerUpTo w.order (trees_of (λ n. n) forest) (table_of table.equations) drawn
  pub within : length (store_of drawn).families ≤ asked.job.nodes

-- what is drawn, or that more nodes may be needed than the job may have, or want of memory
abbrev pub AnswersDrawn : Asked → Ready → GtsParts → Forest → Result Drawn NodeFault → Type 0
AnswersDrawn asked w p forest (Ok drawn) = IsDrawnFor asked w p forest drawn
AnswersDrawn asked w p forest (Err node_fault.Full) = MayNeedMore w asked.job.nodes
AnswersDrawn asked w p forest (Err node_fault.Memory) = Unit {0}

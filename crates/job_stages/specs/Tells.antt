-- What each command writes of a job that has passed its stages.
use Rattle.std.specs.Prelude.{◌≡◌, ℕ, ◌++◌, true, List, [], Option, Some, None, length, reverse, codes, decimal}
use Rattle.ar_base.specs.Lists.{Stands}
use Rattle.ar_base.specs.Texts.{line}
use Rattle.ar_firing.specs.Cuts.{AreEvents, Cut, ConflictSet, IsConflictFreeUpTo, IsFirable, Reaches}
use Rattle.ar_firing.specs.Listed.{AreListed}
use Rattle.firable_families.specs.Firable.{AndUpTo}
use Rattle.ar_meaning.specs.Facts.{HasValue}
use Rattle.ar_meaning.specs.Runs.{Label}
use Rattle.ar_meaning.specs.Systems.{System}
use Rattle.check_text.specs.Texts.{IsCheckText}
use Rattle.cut_text.specs.Texts.{IsCutText, IsConflictText}
use Rattle.domains.specs.declared.Value.{Value}
use Rattle.eq_core.specs.Gates.{Table}
use Rattle.cut_text.specs.ForestTexts.{IsForestText}
use Rattle.gate_diagrams.specs.Needed.{IsNeeded, IsNeededByBoth}
use Rattle.gts_core.specs.Printed.{flat_text}
use Rattle.gts_core.specs.Sound.{IsSound}
use Rattle.gts_core.specs.declared.system.GtsParts.{GtsParts}
use Rattle.gts_flatten.specs.Elaborating.{Elaborated}
use Rattle.gts_flatten.specs.Flat.{IsFlat, naming_of}
use Rattle.hierarchy.specs.Listing.{variables, events, observers}
use Rattle.hierarchy.specs.Units.{Thing}
use Rattle.min_cuts.specs.Sizes.{count, largest}
use Rattle.module_text.specs.Texts.{IsModuleText}
use Rattle.reason_text.specs.Texts.{IsReasonText}
use Rattle.replayer.specs.Replays.{IsReplay}
use Rattle.replayer.specs.Settles.{Settles, IsFaultLine}
use Rattle.replayer.specs.declared.ends.End.{End}
use Rattle.replayer.specs.declared.ends.End.TheVariants as end
use Rattle.run_words.specs.declared.jobs.Asked.{Asked}
use Rattle.run_words.specs.declared.verbs.Verb.TheVariants.{Check, Flat, Replay, Fragment, Equations, Cuts, Make, Explain, CheckCuts, Modules}
use Rattle.source_meaning.specs.Systems.{Declarations}
use Rattle.table_text.specs.Texts.{IsTableText}
use Rattle.typed_expr.specs.Yields.{Yields}
use Rattle.typed_expr.specs.declared.expr.Expr.{Expr, out-Expr}
use Rattle.job_inputs.specs.declared.wanting.Wanted.{Wanted}
use Rattle.zdd_nodes.specs.Families.{Family}
use Rattle.zdd_nodes.specs.Sections.{IsCounted, IsMoreThan}
use Rattle.job_stages.specs.Stages.{Ready, IsTableOf, lists_cuts}
use Rattle.job_stages.specs.declared.status.Status.{Status}
use Rattle.job_stages.specs.declared.status.Status.TheVariants.{Done, Fault, Nodes}

-- `ok units U variables V events E observers O`
abbrev pub counts_line : ℕ → ℕ → ℕ → ℕ → List ℕ
counts_line u v e o =
    line
    (codes "ok units " ++ (decimal u ++ (codes
    " variables " ++ (decimal v ++ (codes " events " ++ (decimal e ++ (codes " observers " ++ decimal o)))))))

-- how many units, variables, events and observers are declared
abbrev pub check_text : Declarations → List ℕ
check_text d =
    counts_line (length d.units) (length (variables d.model d.units)) (length (events d.model d.units))
    (length (observers d.model d.units))

-- the text of the flat system of the source, whose parts are sound: so a range begins at its lesser bound
pub record IsFlatText (x : Elaborated) (text : List ℕ) : Type 0 where
  pub parts : GtsParts
  pub is_sound : IsSound parts
  pub is_flat : IsFlat x parts
  pub is_text : text ≡ flat_text parts

-- an observer and its value are asked for, and no set of events that are not dropped, of at most as many as are asked for, meets
-- a conflict
pub record HasCuts (w : Ready) : Type 0 where
  pub wanted : Wanted
  pub are_wanted : w.wanted ≡ Some wanted
  pub observed : Expr Thing
  pub is_observed : Stands w.source.system.observers wanted.observer observed
  pub conflict_free : IsConflictFreeUpTo w.order w.source.system w.dropped

-- the labels have the events of the set, each once; fired as they stand in the whole system, dropped events included,
-- they meet no fault, and the observer then has the wanted value
pub record Replays {V : Type 0} (sys : System V) (observer : Expr V) (wanted : Value) (set : List ℕ) (ls : List Label)
    : Type 0 where
  pub events : AreEvents (reverse ls) set
  pub values : List Value
  pub reaches : Reaches sys [] (reverse ls) values
  pub shows : Yields (HasValue sys.net values) (out-Expr V observer) wanted

-- the text of the listing of the cuts, each in an order that replays; their family itself has at most so many counted
-- sections
pub record IsCutsText (w : Ready) (limit : ℕ) (text : List ℕ) : Type 0 where
  pub has : HasCuts w
  pub is_text : IsCutText w.order (naming_of w.source.declarations) w.source.system w.dropped has.observed has.wanted.value text
  pub few : IsMoreThan limit (IsCounted is_text.sets) → ⊥
  pub replay : (k : ℕ) (set : List ℕ) (ls : List Label) → Stands is_text.sets k set → Stands is_text.lines k ls
      → Replays w.source.system has.observed has.wanted.value set ls

-- the text of what is to be said of the lines of the list, and of the cuts that it lacks, each in an order that replays;
-- the family of the cuts itself has at most so many counted sections
pub record IsCheckedText (w : Ready) (limit : ℕ) (text : List ℕ) : Type 0 where
  pub has : HasCuts w
  pub is_text : IsCheckText w.order (naming_of w.source.declarations) w.source.system w.dropped has.observed has.wanted.value
      w.lines text
  pub replay : (k : ℕ) (set : List ℕ) (ls : List Label) → Stands is_text.missing k set → Stands is_text.lines k ls
      → Replays w.source.system has.observed has.wanted.value set ls
  pub sets : List (List ℕ)
  pub are_listed : AreListed (AndUpTo w.order (Cut w.source.system w.dropped has.observed has.wanted.value)) sets
  pub few : IsMoreThan limit (IsCounted sets) → ⊥

-- the text of the modules of the cuts, and of the cuts in short, all of them; their family itself has at most so many counted
-- sections
pub record IsShortText (w : Ready) (limit : ℕ) (text : List ℕ) : Type 0 where
  pub all : w.order ≡ None
  pub has : HasCuts w
  pub is_text : IsModuleText w.source w.dropped has.observed has.wanted.value text
  pub few : IsMoreThan limit (IsCounted is_text.cuts) → ⊥

-- the observer of the number, where there is one
abbrev pub IsObserverOf : {V : Type 0} → System V → Option ℕ → Option (Expr V) → Type 0
IsObserverOf sys None observer = observer ≡ None
IsObserverOf {V = V} sys (Some n) observer = (one : Expr V) × (observer ≡ Some one) × Stands sys.observers n one

-- the text of why the flows have their values where the run of the script ends: all flows, or those of the cone of the
-- observer that is asked for
pub record IsExplained (w : Ready) (text : List ℕ) : Type 0 where
  pub values : List Value
  pub settles : Settles w.source.system w.commands values
  pub observer : Option (Expr Thing)
  pub is_observer : IsObserverOf w.source.system w.shown observer
  pub is_text : IsReasonText (naming_of w.source.declarations) w.source.system.net values observer text

-- `make N`, `units U`, `events E`, `cuts K` and `largest L`, each on a line
abbrev pub make_lines : ℕ → ℕ → ℕ → ℕ → ℕ → List ℕ
make_lines n u e k l =
    line (codes "make " ++ decimal n) ++ (line (codes "units " ++ decimal u) ++ (line (codes "events " ++ decimal e)
    ++ (line (codes "cuts " ++ decimal k) ++ line (codes "largest " ++ decimal l))))

-- the text of `make` for so many components: how many units and events the model has, how many cuts, and how many
-- events the largest of them; their family itself has at most so many counted sections
pub record IsMakeText (w : Ready) (number limit : ℕ) (text : List ℕ) : Type 0 where
  pub all : w.order ≡ None
  pub has : HasCuts w
  pub sets : List (List ℕ)
  pub are_listed : AreListed (Cut w.source.system w.dropped has.observed has.wanted.value) sets
  pub is_text : text ≡ make_lines number (length w.source.declarations.units)
      (length (events w.source.declarations.model w.source.declarations.units)) (count sets) (largest sets)
  pub few : IsMoreThan limit (IsCounted sets) → ⊥

-- the set is firable without the dropped events
abbrev pub IsFirableSet : {V : Type 0} → System V → List ℕ → List ℕ → Type 0
IsFirableSet sys dropped set = (t : List Value) × IsFirable sys dropped set t

-- more nodes than so many may be needed for the gate table of the source, over the firable sets of at most as many events as are
-- asked for: where such a set meets a conflict, more for the conflict operand alone, and where none does, more for it and the
-- operand of the observer's value together
pub record MayNeedMore (w : Ready) (limit : ℕ) : Type 0 where
  pub wanted : Wanted
  pub are_wanted : w.wanted ≡ Some wanted
  pub table : Table
  pub is_table : IsTableOf w.source w.dropped wanted table
  pub firable : Family
  pub are_firable : AreListed (AndUpTo w.order (IsFirableSet w.source.system w.dropped)) firable
  pub where_conflict : (set : List ℕ) → AndUpTo w.order (ConflictSet w.source.system w.dropped) set
      → IsMoreThan limit (IsNeeded firable table.gates table.conflict)
  pub where_free : IsConflictFreeUpTo w.order w.source.system w.dropped → IsMoreThan limit (IsNeededByBoth firable table)

-- `nodes: N`
abbrev pub nodes_line : ℕ → List ℕ
nodes_line n = line (codes "nodes: " ++ decimal n)

-- the status of a run that ends so
abbrev pub status_at : End → Status
status_at end.Done = Done
status_at end.Fault = Fault

-- the job, for which this stands ready, has this text and ends so
pub data Tells (asked : Asked) (w : Ready) : List ℕ → Status → Type 0 where
  check : asked.job.command ≡ Check → Tells asked w (check_text w.source.declarations) Done
  flat : {text : List ℕ} → asked.job.command ≡ Flat → IsFlatText w.source text → Tells asked w text Done
  replay : {text : List ℕ} {ends : End} → asked.job.command ≡ Replay
      → IsReplay (naming_of w.source.declarations) w.source.system w.commands text ends
      → Tells asked w text (status_at ends)
  fragment : {text : List ℕ} → asked.job.command ≡ Fragment
      → IsForestText (naming_of w.source.declarations) w.source.system w.dropped text → Tells asked w text Done
  equations : {text : List ℕ} {wanted : Wanted} → asked.job.command ≡ Equations → w.wanted ≡ Some wanted
      → IsTableText (variables w.source.declarations.model w.source.declarations.units)
      (naming_of w.source.declarations)
      w.source.system w.dropped wanted.observer wanted.value text → Tells asked w text Done
  cuts : {text : List ℕ} → asked.job.command ≡ Cuts → IsCutsText w asked.job.nodes text → Tells asked w text Done
  make : {text : List ℕ} → asked.job.command ≡ Make → IsMakeText w asked.job.number asked.job.nodes text → Tells asked w text Done
  checks : {text : List ℕ} → asked.job.command ≡ CheckCuts → IsCheckedText w asked.job.nodes text → Tells asked w text Done
  in_short : {text : List ℕ} → asked.job.command ≡ Modules → IsShortText w asked.job.nodes text → Tells asked w text Done
  explains : {text : List ℕ} → asked.job.command ≡ Explain → IsExplained w text → Tells asked w text Done
  unsettled : {text : List ℕ} → asked.job.command ≡ Explain
      → IsFaultLine (naming_of w.source.declarations) w.source.system w.commands text → Tells asked w text Fault
  conflict : {text : List ℕ} → lists_cuts asked.job.command ≡ true
      → IsConflictText w.order (naming_of w.source.declarations) w.source.system w.dropped text → Tells asked w text Fault
  nodes : lists_cuts asked.job.command ≡ true → MayNeedMore w asked.job.nodes → Tells asked w (nodes_line asked.job.nodes) Nodes

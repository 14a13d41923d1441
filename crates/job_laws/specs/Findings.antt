-- What the modules of cuts, and the line of a conflict, say of the model once they are told.
use Rattle.std.specs.Prelude.{◌≡◌, ℕ, List, [], Ok, map, reverse}
use Rattle.ar_base.specs.Lists.{IsOneOf}
use Rattle.ar_firing.specs.Cuts.{AreEvents, ConflictSet, Conflicts}
use Rattle.ar_firing.specs.Replays.{FailsLast}
use Rattle.ar_meaning.specs.Flows.{FlowFault}
use Rattle.ar_meaning.specs.Runs.{Label, Moment, Fire, Runs}
use Rattle.ar_meaning.specs.TraceText.{flow_fault_text}
use Rattle.cut_text.specs.Texts.{fault_line, labels_text}
use Rattle.firable_families.specs.Firable.{AndUpTo}
use Rattle.gate_modules.specs.Choices.{IsChoice, IsChoiceOf, ComesFrom}
use Rattle.gate_modules.specs.Shortened.{ShortForm}
use Rattle.gts_flatten.specs.Flat.{naming_of}
use Rattle.module_text.specs.Texts.{IsModuleText}
use Rattle.run_words.specs.declared.jobs.Asked.{Asked}
use Rattle.altarica_run.specs.Follows.{Call, Wrote}
use Rattle.altarica_run.specs.Listings.{IsCut}
use Rattle.job_stages.specs.Stages.{Ready, Passes}
use Rattle.job_stages.specs.Tells.{HasCuts}
use Rattle.ar_base.specs.Sets.{Within}

-- what was written are the modules of the cuts and the cuts in short. Each choice of one set of the module for each unit
-- of a short form makes a cut with the form's events, and each cut comes from just one short form and one choice
pub record AreModulesOf (c : Call) (asked : Asked) : Type 0 where
  pub ready : Ready
  pub passes : Passes c.files asked (Ok ready)
  pub has : HasCuts ready
  pub text : List ℕ
  pub wrote : Wrote c text
  pub is_text : IsModuleText ready.source ready.dropped has.observed has.wanted.value text
  pub made : (form : ShortForm) (choice : List (List ℕ)) → IsOneOf is_text.forms form
      → IsChoice is_text.modules form choice
      → (set : List ℕ) × IsCut ready has set × IsChoiceOf form choice set
  pub whole : (set : List ℕ) → IsCut ready has set
      → (other : List ℕ) × Within set other × Within other set × ComesFrom is_text.modules is_text.forms other
  pub one : (set : List ℕ) (a b : ComesFrom is_text.modules is_text.forms set)
      → (a.form ≡ b.form) × (a.choice ≡ b.choice)

-- what was written is the line of a conflict: the labels have the events of a least set that meets a conflict, of at most as many
-- as are asked for, each once. Fired as they stand in the whole model, dropped events included, they meet no fault up to the last of them,
-- and this meets the flow fault of the line; where there are none the start meets it. So the run of the script that
-- fires them ends in this fault
pub record IsConflictOf (c : Call) (asked : Asked) : Type 0 where
  pub ready : Ready
  pub passes : Passes c.files asked (Ok ready)
  pub labels : List Label
  pub fault : FlowFault
  pub wrote : Wrote c
      (fault_line (labels_text (naming_of ready.source.declarations) ready.source.system labels)
      (flow_fault_text (naming_of ready.source.declarations) fault))
  pub set : List ℕ
  pub is_conflict : AndUpTo ready.order (ConflictSet ready.source.system ready.dropped) set
  pub events : AreEvents (reverse labels) set
  pub meets : Conflicts ready.source.system [] (reverse labels) fault
  pub moments : List Moment
  pub runs : Runs ready.source.system (map Fire labels) moments
  pub fails : FailsLast fault labels moments

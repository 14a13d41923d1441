-- What is known after each stage, and what a stage answers.
use Rattle.std.specs.Prelude.{◌<◌, ℕ, List, length, Option, Result, Ok, Err}
use Rattle.ar_meaning.specs.Systems.{System}
use Rattle.ar_firing.specs.Rules.{Rule, rule_number, KeepsStaticRule}
use Rattle.gts_core.specs.View.{Views}
use Rattle.gts_core.specs.declared.system.GtsParts.{GtsParts}
use Rattle.mode_search.specs.declared.kept.KeptWay.{KeptWay}
use Rattle.mode_search.specs.declared.searching.Reach.{Reach}
use Rattle.mode_search.specs.Reaches.{AreKeptWaysOf, AreReaches, IsAgainAt}
use Rattle.mode_search.specs.Sharing.{IsSharing}
use Rattle.mode_search.specs.declared.listing.Live.{Live}
use Rattle.mode_search.specs.declared.sharing.Sharing.{Sharing}
use Rattle.static_fragment.specs.Units.{AreUnitMarks}
use Rattle.static_fragment.specs.Setting.{AreKeptWays, AreReached, AreLiveEdges}
use Rattle.static_fragment.specs.declared.faults.FragmentFault.{FragmentFault}
use Rattle.static_fragment.specs.declared.stages.Units.{Units}
use Rattle.static_fragment.specs.Recognised.{IsRefusedUpTo}

-- the rules with a lesser number are kept
abbrev pub KeepsBelow : System ℕ → List ℕ → ℕ → Type 0
KeepsBelow system dropped number = (rule : Rule) → rule_number rule < number → KeepsStaticRule system dropped rule

-- what holds of a success and of a refusal
abbrev pub OnResult : {A : Type 0} → (A → Type 0) → (FragmentFault → Type 0) → Result A FragmentFault → Type 0
OnResult after refused (Ok a) = after a
OnResult after refused (Err e) = refused e

-- of each system and its dropped events of which the one was known the other is known now, or the system is refused; so
-- whatever the number of events of the cuts that are asked for
abbrev pub Judges : {A : Type 0} → (System ℕ → List ℕ → Type 0) → (System ℕ → List ℕ → A → Type 0)
    → Result A FragmentFault
    → Type 0
Judges before after result = (order : Option ℕ) (system : System ℕ) (dropped : List ℕ) → before system dropped
    → OnResult (after system dropped) (IsRefusedUpTo order system dropped) result

-- its units are known, and the first two rules are kept
pub record HasUnits (p : GtsParts) (u : Units) (system : System ℕ) (dropped : List ℕ) : Type 0 where
  pub views : Views p system
  pub units : AreUnitMarks p dropped u.marks.items u.moving.items u.firsts.items
  pub keeps : KeepsBelow system dropped 3

-- its kept ways are known, and the first three rules are kept
pub record HasKeptWays (p : GtsParts) (kept : List KeptWay) (system : System ℕ) (dropped : List ℕ) : Type 0 where
  pub ways : AreKeptWays p system dropped kept
  pub keeps : KeepsBelow system dropped 4

-- it is known what its variables reach, and the rules below a number are kept
pub record HasReaches (number : ℕ) (p : GtsParts) (reaches : List Reach) (system : System ℕ) (dropped : List ℕ) : Type 0
  where
    pub kept : List KeptWay
    pub reached : AreReached p system dropped kept reaches
    pub keeps : KeepsBelow system dropped number

-- it is known what its live edges share, and the rules below a number are kept
pub record HasSharing (number : ℕ) (s : Sharing) (system : System ℕ) (dropped : List ℕ) : Type 0 where
  pub parts : GtsParts
  pub kept : List KeptWay
  pub reaches : List Reach
  pub live : List Live
  pub edges : AreLiveEdges parts system dropped kept reaches live
  pub count : ℕ
  pub sharing : IsSharing count live (length live) s
  pub keeps : KeepsBelow system dropped number

-- the parts stand for it, and the rules below a number are kept
pub record IsSeenBelow (number : ℕ) (p : GtsParts) (system : System ℕ) (dropped : List ℕ) : Type 0 where
  pub views : Views p system
  pub keeps : KeepsBelow system dropped number

-- this is what the variables of the parts reach by some of its ways
pub record AreFromWays (p : GtsParts) (reaches : List Reach) : Type 0 where
  pub kept : List KeptWay
  pub listed : AreKeptWaysOf p kept
  pub are : AreReaches p kept (length p.variables.items) reaches

-- no edge enters a mode again
abbrev pub NoneAgain : List Reach → Type 0
NoneAgain reaches = (n : ℕ) → IsAgainAt reaches n → ⊥

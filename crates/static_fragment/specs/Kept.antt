-- What the kept ways are in the system.
use Rattle.std.specs.Prelude.{◌≡◌, ◌↔◌, ℕ, false, true, List}
use Rattle.ar_base.specs.Lists.{Stands}
use Rattle.ar_meaning.specs.Systems.{System, Variable, Way}
use Rattle.ar_meaning.specs.Runs.{Label}
use Rattle.ar_firing.specs.Fragment.{IsKept}
use Rattle.ar_firing.specs.Rules.{HasModeVariable, KeepsS1, KeepsS2}
use Rattle.gts_core.specs.declared.system.GtsParts.{GtsParts}
use Rattle.mode_trees.specs.Views.{number_in}
use Rattle.mode_search.specs.declared.kept.KeptWay.{KeptWay}

-- the kept way is this way of the system: its event, its number in the event, whether the event is visible, and its
-- mode variable are those of the way
pub record IsTheWay (p : GtsParts) (system : System ℕ) (dropped : List ℕ) (k : KeptWay) (l : Label) (w : Way ℕ) :
    Type 0 where
  pub event : k.event.n ≡ l.event
  pub way : number_in p k.way.n ≡ l.way
  pub variable : Variable ℕ
  pub mode : HasModeVariable system dropped l w k.mode.variable.n variable
  pub visible : (k.visible ≡ true) ↔ (mode.is_kept.is_way.event.hidden ≡ false)

-- each kept way is a way of an event that is not dropped
abbrev pub KeptWaysAreWays : GtsParts → System ℕ → List ℕ → List KeptWay → Type 0
KeptWaysAreWays p system dropped kept = (q : ℕ) (k : KeptWay) → Stands kept q k
    → (l : Label) × (w : Way ℕ) × IsTheWay p system dropped k l w

-- where the first two rules are kept, each way of an event that is not dropped is a kept way
abbrev pub WaysAreKept : GtsParts → System ℕ → List ℕ → List KeptWay → Type 0
WaysAreKept p system dropped kept = KeepsS1 system → KeepsS2 system dropped → (l : Label) (w : Way ℕ)
    → IsKept system dropped l w → (q : ℕ) × (k : KeptWay) × Stands kept q k × IsTheWay p system dropped k l w

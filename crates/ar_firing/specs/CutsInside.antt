-- Definitions beside those of Cuts, of which clauses inside the program speak: what the whole program promises does not
-- rest on them.
use Rattle.std.specs.Prelude.{◌<◌, ◌≡◌, ℕ, true, List, ◌∷◌, Option, Some, None}
use Rattle.ar_base.specs.Lists.{Stands, IsOneOf}
use Rattle.ar_base.specs.Sets.{Within}
use Rattle.domains.specs.declared.Value.{Value}
use Rattle.ar_meaning.specs.Systems.{Variable, Net, System}
use Rattle.ar_meaning.specs.Flows.{Flows, FlowFault, Fails, Total}
use Rattle.ar_meaning.specs.Steps.{Answer, Refused, Next, Flow}
use Rattle.ar_meaning.specs.Runs.{Label}
use Rattle.ar_firing.specs.Fragment.{Edge, IsLive, Path}
use Rattle.ar_firing.specs.Cuts.{AreEvents, HasAtMost, IsFirable}

-- the set has P, and no proper part of it has
pub record HasNoLesser (P : List ℕ → Type 0) (set : List ℕ) : Type 0 where
  pub has : P set
  pub no_lesser : (part : List ℕ) → Within part set → (Within set part → ⊥) → P part → ⊥

-- the set has at most as many events as are asked for; where no number is given, every set has
abbrev pub UpTo : Option ℕ → List ℕ → Type 0
UpTo None set = Unit {0}
UpTo (Some k) set = HasAtMost k set

-- no live edge of the variable that leaves this mode has its event in the set
abbrev pub NoneLeaves : {V : Type 0} → System V → List ℕ → List ℕ → ℕ → Value → Type 0
NoneLeaves sys dropped set n m = (l : Label) (to : Value) → IsLive sys dropped l n m to → IsOneOf set l.event → ⊥

-- what follows of a new state: its flows, or a flow fault
pub data MovesTo {V : Type 0} (net : Net V) : List Value → Answer → Type 0 where
  on : {state next : List Value} → Flows net state (Total next) → MovesTo net state (Next next)
  fails : {state : List Value} {f : FlowFault} → Flows net state (Fails f) → MovesTo net state (Refused (Flow f))

-- in this list, the last first, each label stands after the one that enters the mode that it leaves
pub record FollowTheirModes {V : Type 0} (sys : System V) (dropped : List ℕ) (ls : List Label) : Type 0 where
  pub after : (k : ℕ) (l : Label) (n : ℕ) (from to : Value) (m : Label) (ms : List Label) → Stands ls k l
      → Path sys dropped n (m ∷ ms) from → Edge sys dropped l n from to
      → (j : ℕ) × (k < j) × Stands ls j m

-- the labels, the last first, are those of a firable set's paths, one for each of its events, in such an order
pub record IsLegalOrder {V : Type 0} (sys : System V) (dropped : List ℕ) (set : List ℕ) (ls : List Label) : Type 0 where
  pub values : List Value
  pub is_firable : IsFirable sys dropped set values
  pub on_paths : (k : ℕ) (l : Label) → Stands ls k l
      → (n : ℕ) × (x : Variable V) × Stands sys.net.variables n x × (x.is_state ≡ true) × IsOneOf (is_firable.path n) l
  pub events : AreEvents ls set
  pub in_order : FollowTheirModes sys dropped ls

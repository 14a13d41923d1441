-- Firable sets, firing orders, cuts and conflicts. A set of events is a list of their numbers.
use Rattle.std.specs.Prelude.{◌≤◌, ◌≡◌, ℕ, true, List, [], ◌∷◌, length, Option, Some, None}
use Rattle.ar_base.specs.Lists.{Stands, IsOneOf}
use Rattle.ar_base.specs.Sets.{Within}
use Rattle.domains.specs.declared.Value.{Value}
use Rattle.typed_expr.specs.Yields.{Yields}
use Rattle.typed_expr.specs.declared.expr.Expr.{Expr, out-Expr}
use Rattle.ar_meaning.specs.Systems.{Variable, Way, System}
use Rattle.ar_meaning.specs.Facts.{HasValue}
use Rattle.ar_meaning.specs.Flows.{FlowFault}
use Rattle.ar_meaning.specs.Steps.{Step, Refused, Next, Flow}
use Rattle.ar_meaning.specs.Runs.{Label, Start, StartFails}
use Rattle.ar_firing.specs.Fragment.{IsOpen, Path}

-- the run that starts and fires these labels of visible events that are not dropped, the last first, has no fault and
-- ends in this valuation
pub data Reaches {V : Type 0} (sys : System V) (dropped : List ℕ) : List Label → List Value → Type 0 where
  start : {t : List Value} → Start sys.net t → Reaches sys dropped [] t
  fire : {ls : List Label} {t u : List Value} {l : Label} (w : Way V) → Reaches sys dropped ls t
      → IsOpen sys dropped l w → Step sys.net t w (Next u) → Reaches sys dropped (l ∷ ls) u

-- the same run has no fault up to its last label, and this meets a flow fault; or there is no label, and the start
-- meets one
pub data Conflicts {V : Type 0} (sys : System V) (dropped : List ℕ) : List Label → FlowFault → Type 0 where
  start : {f : FlowFault} → StartFails sys.net f → Conflicts sys dropped [] f
  fire : {ls : List Label} {t : List Value} {l : Label} {f : FlowFault} (w : Way V) → Reaches sys dropped ls t
      → IsOpen sys dropped l w → Step sys.net t w (Refused (Flow f))
      → Conflicts sys dropped (l ∷ ls) f

-- the labels' events are those of the set, each once
pub record AreEvents (ls : List Label) (set : List ℕ) : Type 0 where
  pub sound : (k : ℕ) (l : Label) → Stands ls k l → IsOneOf set l.event
  pub whole : (e : ℕ) → IsOneOf set e → (l : Label) × IsOneOf ls l × (l.event ≡ e)
  pub once : (j k : ℕ) (l m : Label) → Stands ls j l → Stands ls k m → l.event ≡ m.event → j ≡ k

-- some order of the set fires without fault and ends in this valuation
pub record HasOrder {V : Type 0} (sys : System V) (dropped : List ℕ) (set : List ℕ) (t : List Value) : Type 0 where
  pub labels : List Label
  pub events : AreEvents labels set
  pub reaches : Reaches sys dropped labels t

-- some order of the set ends with the wanted value of the observer
pub record Makes {V : Type 0} (sys : System V) (dropped : List ℕ) (observer : Expr V) (wanted : Value)
    (set : List ℕ) : Type 0 where
  pub values : List Value
  pub order : HasOrder sys dropped set values
  pub shows : Yields (HasValue sys.net values) (out-Expr V observer) wanted

-- the set has P, and each set within it that has P has all its members
pub record IsLeast (P : List ℕ → Type 0) (set : List ℕ) : Type 0 where
  pub has : P set
  pub least : (part : List ℕ) → Within part set → P part → Within set part

-- some order of the set fires without fault up to its last event, and meets a flow fault there; the empty set does
-- where the start does
pub record MeetsConflict {V : Type 0} (sys : System V) (dropped : List ℕ) (set : List ℕ) : Type 0 where
  pub labels : List Label
  pub events : AreEvents labels set
  pub fault : FlowFault
  pub conflicts : Conflicts sys dropped labels fault

-- a cut of the observer's value
abbrev pub Cut : {V : Type 0} → System V → List ℕ → Expr V → Value → List ℕ → Type 0
Cut sys dropped observer wanted = IsLeast (Makes sys dropped observer wanted)

-- a least set that meets a conflict
abbrev pub ConflictSet : {V : Type 0} → System V → List ℕ → List ℕ → Type 0
ConflictSet sys dropped = IsLeast (MeetsConflict sys dropped)

-- no set meets a conflict
abbrev pub IsConflictFree : {V : Type 0} → System V → List ℕ → Type 0
IsConflictFree sys dropped = (set : List ℕ) → MeetsConflict sys dropped set → ⊥

-- the set has at most k events: they are among the members of a list of at most k
pub record HasAtMost (k : ℕ) (set : List ℕ) : Type 0 where
  pub list : List ℕ
  pub within : Within set list
  pub few : length list ≤ k

-- no set of at most so many events meets a conflict; where no number is given, none does
abbrev pub IsConflictFreeUpTo : {V : Type 0} → Option ℕ → System V → List ℕ → Type 0
IsConflictFreeUpTo None sys dropped = IsConflictFree sys dropped
IsConflictFreeUpTo (Some k) sys dropped = (set : List ℕ) → HasAtMost k set → MeetsConflict sys dropped set → ⊥

-- the set is firable, and t is its state: its events are exactly those along one path of each state variable, and each
-- state variable has the value where its path ends
pub record IsFirable {V : Type 0} (sys : System V) (dropped : List ℕ) (set : List ℕ) (t : List Value) : Type 0 where
  pub long : length t ≡ length sys.net.variables
  pub path : ℕ → List Label
  pub walks : (n : ℕ) (x : Variable V) → Stands sys.net.variables n x → x.is_state ≡ true
      → (m : Value) × Stands t n m × Path sys dropped n (path n) m
  pub sound : (n : ℕ) (x : Variable V) → Stands sys.net.variables n x → x.is_state ≡ true → (k : ℕ) (l : Label)
      → Stands (path n) k l → IsOneOf set l.event
  pub whole : (e : ℕ) → IsOneOf set e → (n : ℕ) × (x : Variable V) × (l : Label) × Stands sys.net.variables n x ×
      (x.is_state ≡ true) × IsOneOf (path n) l × (l.event ≡ e)

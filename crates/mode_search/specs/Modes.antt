-- The mode variable of a transition, and what the transition names beside it.
use Rattle.std.specs.Prelude.{◌≡◌, ◌≤◌, ℕ, nat_lt, Bool, true, false, if◌then◌else◌, List, map, Option, Some, None}
use Rattle.ar_base.specs.Lists.{Stands, IsOneOf}
use Rattle.ar_base.specs.Numbers.{VarId}
use Rattle.typed_expr.specs.declared.expr.Expr.{Expr}
use Rattle.ar_meaning.specs.Systems.{System, Transition, Leaf}
use Rattle.ar_firing.specs.Fragment.{GuardNames, ActionNames, IsModeOf}
use Rattle.gts_core.specs.View.{net_of, numbered, assign_of}
use Rattle.gts_core.specs.declared.system.Variable.{Variable}
use Rattle.gts_core.specs.declared.system.Assign.{Assign}
use Rattle.gts_core.specs.declared.system.GtsParts.{GtsParts}
use Rattle.mode_search.specs.declared.modes.WayMode.{WayMode}

-- the transition of a guard and an action over plain numbers
abbrev pub transition_of : Expr VarId → List Assign → Transition ℕ
transition_of guard action = record { guard = numbered guard; action = map assign_of action }

-- the variable of this number is a state variable of the unit
pub record IsStateAt (p : GtsParts) (unit n : ℕ) : Type 0 where
  pub variable : Variable
  pub stands : Stands p.variables.items n variable
  pub is_state : variable.is_state ≡ true
  pub is_unit : variable.unit.n ≡ unit

-- one of these is the state variable of this number of the unit
pub record IsNamedState (p : GtsParts) (unit : ℕ) (names : List VarId) (n : ℕ) : Type 0 where
  pub variable : VarId
  pub is_one : IsOneOf names variable
  pub number : variable.n ≡ n
  pub is_state : IsStateAt p unit n

-- the least number that has P, or none where no number has
abbrev pub IsLeastVariable : (ℕ → Type 0) → Option VarId → Type 0
IsLeastVariable P None = (n : ℕ) → P n → ⊥
IsLeastVariable P (Some x) = P x.n × ((n : ℕ) → P n → x.n ≤ n)

-- the lesser of two numbers, where there are both
abbrev pub lesser_of : Option VarId → Option VarId → Option VarId
lesser_of None other = other
lesser_of (Some m) None = Some m
lesser_of (Some m) (Some n) = if nat_lt n.n m.n then Some n else Some m

-- the plain number
abbrev pub plain_number : Option VarId → Option ℕ
plain_number None = None
plain_number (Some x) = Some x.n

-- whether the variable of number n is the only one of these
abbrev pub IsAlone : List VarId → ℕ → Bool → Type 0
IsAlone names n true = (x : VarId) → IsOneOf names x → x.n ≡ n
IsAlone names n false = (x : VarId) × IsOneOf names x × (x.n ≡ n → ⊥)

-- another number than n has P
pub record NamesOther (P : ℕ → Type 0) (n : ℕ) : Type 0 where
  pub other : ℕ
  pub named : P other
  pub differs : other ≡ n → ⊥

-- whether number n alone has P
abbrev pub NamesAlone : (ℕ → Type 0) → ℕ → Bool → Type 0
NamesAlone P n true = (y : ℕ) → P y → y ≡ n
NamesAlone P n false = NamesOther P n

-- the mode variable of a transition of an event of the unit, and whether its guard and its action name this alone
pub record IsWayMode (p : GtsParts) (unit : ℕ) (d : Transition ℕ) (m : WayMode) : Type 0 where
  pub is_mode : (system : System ℕ) → system.net ≡ net_of p → IsModeOf system unit (Leaf d) m.variable.n
  pub guard : NamesAlone (λ y. GuardNames y (Leaf d)) m.variable.n m.guard_alone
  pub action : NamesAlone (λ y. ActionNames y (Leaf d)) m.variable.n m.action_alone

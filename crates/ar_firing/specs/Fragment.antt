-- Modes, edges and paths. What a dropped event does is left out throughout.
use Rattle.std.specs.Prelude.{◌≡◌, ℕ, true, false, List, [], ◌∷◌, Contains}
use Rattle.ar_base.specs.Lists.{Stands, IsOneOf, IsFirst, HasNo}
use Rattle.domains.specs.declared.Value.{Value}
use Rattle.typed_expr.specs.Mentions.{Mentions}
use Rattle.typed_expr.specs.declared.expr.Expr.{out-Expr}
use Rattle.ar_meaning.specs.Systems.{Assign, Variable, Transition, Way, Leaf, System}
use Rattle.ar_meaning.specs.Ways.{Can, Effects}
use Rattle.ar_meaning.specs.Runs.{Label, IsWay}
use Rattle.ar_meaning.specs.Dependence.{Names}

-- the variable is the assignment's target, or the assignment names it
pub data Involves {V : Type 0} (x : V) (a : Assign V) : Type 0 where
  as_target : a.target ≡ x → Involves x a
  as_source : Names a x → Involves x a

-- the variable stands in a transition's guard
pub data GuardNames {V : Type 0} (x : V) : Way V → Type 0 where
  guard : {d : Transition V} → Mentions x (out-Expr V d.guard) → GuardNames x (Leaf d)

-- an assignment of a transition's action names the variable
pub data ActionNames {V : Type 0} (x : V) : Way V → Type 0 where
  action : {d : Transition V} (a : Assign V) → IsOneOf d.action a → Involves x a → ActionNames x (Leaf d)

-- a transition's guard or action names the variable
pub data WayNames {V : Type 0} (x : V) (w : Way V) : Type 0 where
  in_guard : GuardNames x w → WayNames x w
  in_action : ActionNames x w → WayNames x w

-- a way of an event that is not dropped
pub record IsKept {V : Type 0} (sys : System V) (dropped : List ℕ) (l : Label) (w : Way V) : Type 0 where
  pub is_way : IsWay sys l w
  pub stays : IsOneOf dropped l.event → ⊥

-- a way of a visible event that is not dropped
pub record IsOpen {V : Type 0} (sys : System V) (dropped : List ℕ) (l : Label) (w : Way V) : Type 0 where
  pub is_kept : IsKept sys dropped l w
  pub visible : is_kept.is_way.event.hidden ≡ false

-- a state variable of the unit
pub record IsStateOf {V : Type 0} (unit : ℕ) (x : Variable V) : Type 0 where
  pub is_state : x.is_state ≡ true
  pub is_unit : x.unit ≡ unit

-- a state variable of the unit that the way names
pub record IsNamedStateOf {V : Type 0} (unit : ℕ) (w : Way V) (x : Variable V) : Type 0 where
  pub is_state : x.is_state ≡ true
  pub is_unit : x.unit ≡ unit
  pub named : WayNames x.key w

-- the mode variable of a way of an event of this unit, by number: the least state variable of the unit that the way
-- names, or, where it names none, the least one
pub data IsModeOf {V : Type 0} (sys : System V) (unit : ℕ) (w : Way V) : ℕ → Type 0 where
  named : {n : ℕ} → IsFirst sys.net.variables (IsNamedStateOf unit w) n → IsModeOf sys unit w n
  first : {n : ℕ} → HasNo sys.net.variables (IsNamedStateOf unit w) → IsFirst sys.net.variables (IsStateOf unit) n
      → IsModeOf sys unit w n

-- the facts where this variable alone has a value, and it is this one
pub record At {V : Type 0} (x : V) (m : Value) (y : V) (v : Value) : Type 0 where
  pub key : y ≡ x
  pub value : v ≡ m

-- the way is an edge from one mode of its mode variable to another: it is open, its guard is true there, and it gives
-- the variable exactly one value, in the domain
pub record Edge {V : Type 0} (sys : System V) (dropped : List ℕ) (l : Label) (n : ℕ) (from to : Value) : Type 0 where
  pub way : Way V
  pub is_open : IsOpen sys dropped l way
  pub variable : Variable V
  pub is_variable : Stands sys.net.variables n variable
  pub is_mode : IsModeOf sys is_open.is_kept.is_way.event.unit way n
  pub can : Can (At variable.key from) way
  pub gives : Effects (At variable.key from) way variable.key to
  pub one : (v : Value) → Effects (At variable.key from) way variable.key v → v ≡ to
  pub in_domain : Contains variable.domain to

-- these edges, the last first, lead from the variable's init value to this mode
pub data Path {V : Type 0} (sys : System V) (dropped : List ℕ) (n : ℕ) : List Label → Value → Type 0 where
  root : {x : Variable V} {m : Value} → Stands sys.net.variables n x → x.is_state ≡ true → x.value ≡ m
      → Path sys dropped n [] m
  edge : {l : Label} {ls : List Label} {m to : Value} → Path sys dropped n ls m → Edge sys dropped l n m to
      → Path sys dropped n (l ∷ ls) to

-- the mode is reached along edges of its variable alone
pub record IsReached {V : Type 0} (sys : System V) (dropped : List ℕ) (n : ℕ) (m : Value) : Type 0 where
  pub labels : List Label
  pub path : Path sys dropped n labels m

-- an edge from a mode that is reached
pub record IsLive {V : Type 0} (sys : System V) (dropped : List ℕ) (l : Label) (n : ℕ) (from to : Value) : Type 0 where
  pub reached : IsReached sys dropped n from
  pub edge : Edge sys dropped l n from to

-- The rules of the static fragment, each in two ways: that it is kept, and that it is broken by what it is shown with.
use Rattle.std.specs.Prelude.{◌≡◌, ◌<◌, ◌≤◌, ℕ, Bool, List, Contains, length, Option, Some, None}
use Rattle.ar_base.specs.Lists.{Stands, IsOneOf, HasNo, AreDifferent}
use Rattle.domains.specs.declared.Value.{Value}
use Rattle.typed_expr.specs.Possible.{IsWide}
use Rattle.typed_expr.specs.declared.expr.Expr.{Expr, out-Expr}
use Rattle.ar_meaning.specs.Systems.{Assign, Variable, Net, Transition, Way, Leaf, Joint, Branches, Event, System}
use Rattle.ar_meaning.specs.Facts.{Allows}
use Rattle.ar_meaning.specs.Ways.{Can, Effects}
use Rattle.ar_meaning.specs.Runs.{Label, IsWay}
use Rattle.ar_firing.specs.Fragment.{GuardNames, ActionNames, IsKept, IsOpen, IsStateOf, IsModeOf, At, IsReached, IsLive}
use Rattle.ar_firing.specs.Forest.{HasTransitions}

-- S1: no event has a synchronised way. Shown with the event

-- the way is a transition, and no synchronised way
pub data IsTransition {V : Type 0} : Way V → Type 0 where
  transition : {d : Transition V} → IsTransition (Leaf d)

-- every way is a transition
pub record KeepsS1 {V : Type 0} (sys : System V) : Type 0 where
  pub each : (l : Label) (w : Way V) → IsWay sys l w → IsTransition w

-- this event has a synchronised way
pub record BreaksS1 {V : Type 0} (sys : System V) (e : ℕ) : Type 0 where
  pub event : Event V
  pub stands : Stands sys.events e event
  pub parts : Branches (Transition V)
  pub has : IsOneOf event.ways (Joint parts)

-- S2: a unit with transitions has a state variable. Shown with the unit

-- the unit has a state variable
pub record HasState {V : Type 0} (sys : System V) (unit : ℕ) : Type 0 where
  pub number : ℕ
  pub variable : Variable V
  pub stands : Stands sys.net.variables number variable
  pub is_state : IsStateOf unit variable

-- every unit with transitions has a state variable
pub record KeepsS2 {V : Type 0} (sys : System V) (dropped : List ℕ) : Type 0 where
  pub each : (unit : ℕ) → HasTransitions sys dropped unit → HasState sys unit

-- this unit has transitions and no state variable
pub record BreaksS2 {V : Type 0} (sys : System V) (dropped : List ℕ) (unit : ℕ) : Type 0 where
  pub moves : HasTransitions sys dropped unit
  pub has_none : HasNo sys.net.variables (IsStateOf unit)

-- a way of an event that is not dropped, and its mode variable, by number
pub record HasModeVariable {V : Type 0} (sys : System V) (dropped : List ℕ) (l : Label) (w : Way V) (n : ℕ)
    (x : Variable V) : Type 0 where
  pub is_kept : IsKept sys dropped l w
  pub is_mode : IsModeOf sys is_kept.is_way.event.unit w n
  pub stands : Stands sys.net.variables n x

-- S3: the guard of a way of an event that is not dropped names its mode variable alone. Shown with this

-- the way has a mode variable, and its guard names no other variable
pub record GuardKeeps {V : Type 0} (sys : System V) (dropped : List ℕ) (l : Label) (w : Way V) : Type 0 where
  pub number : ℕ
  pub variable : Variable V
  pub mode : HasModeVariable sys dropped l w number variable
  pub alone : (y : V) → GuardNames y w → y ≡ variable.key

-- every way of an event that is not dropped has a guard that names its mode variable alone
pub record KeepsS3 {V : Type 0} (sys : System V) (dropped : List ℕ) : Type 0 where
  pub each : (l : Label) (w : Way V) → IsKept sys dropped l w → GuardKeeps sys dropped l w

-- this is the mode variable of a way of an event that is not dropped, and the way's guard names another variable
pub record BreaksS3 {V : Type 0} (sys : System V) (dropped : List ℕ) (n : ℕ) : Type 0 where
  pub label : Label
  pub way : Way V
  pub variable : Variable V
  pub mode : HasModeVariable sys dropped label way n variable
  pub other : V
  pub named : GuardNames other way
  pub differs : other ≡ variable.key → ⊥

-- S4: the assignments of such a way name its mode variable alone, and wherever the way is live it assigns exactly one
-- value to it, one of its domain. Shown with the mode variable

-- a way of a visible event that is not dropped, at a mode of its mode variable that is reached and where its guard is
-- true
pub record IsLiveAt {V : Type 0} (sys : System V) (dropped : List ℕ) (l : Label) (w : Way V) (n : ℕ) (x : Variable V)
    (m : Value) : Type 0 where
  pub is_open : IsOpen sys dropped l w
  pub is_mode : IsModeOf sys is_open.is_kept.is_way.event.unit w n
  pub stands : Stands sys.net.variables n x
  pub reached : IsReached sys dropped n m
  pub can : Can (At x.key m) w

-- exactly one value, and the domain has it
pub record GivesOne (effects : Value → Type 0) (domain : List Value) : Type 0 where
  pub value : Value
  pub gives : effects value
  pub one : (v : Value) → effects v → v ≡ value
  pub in_domain : Contains domain value

-- no value, or two, or one that the domain has not
pub data GivesOther (effects : Value → Type 0) (domain : List Value) : Type 0 where
  nothing : ((v : Value) → effects v → ⊥) → GivesOther effects domain
  two : (v w : Value) → effects v → effects w → (v ≡ w → ⊥) → GivesOther effects domain
  outside : (v : Value) → effects v → (Contains domain v → ⊥) → GivesOther effects domain

-- the actions name the mode variable alone, and wherever a way is live it gives this one value, of the domain
pub record KeepsS4 {V : Type 0} (sys : System V) (dropped : List ℕ) : Type 0 where
  pub alone : (l : Label) (w : Way V) (n : ℕ) (x : Variable V) → HasModeVariable sys dropped l w n x → (y : V)
      → ActionNames y w → y ≡ x.key
  pub gives : (l : Label) (w : Way V) (n : ℕ) (x : Variable V) (m : Value) → IsLiveAt sys dropped l w n x m
      → GivesOne (Effects (At x.key m) w x.key) x.domain

-- this is the mode variable of a way whose action names another variable, or that is live at a mode and does not give
-- it one value of the domain there
pub data BreaksS4 {V : Type 0} (sys : System V) (dropped : List ℕ) (n : ℕ) : Type 0 where
  names : (l : Label) (w : Way V) (x : Variable V) → HasModeVariable sys dropped l w n x → (y : V) → ActionNames y w
      → (y ≡ x.key → ⊥) → BreaksS4 sys dropped n
  gives : (l : Label) (w : Way V) (x : Variable V) (m : Value) → IsLiveAt sys dropped l w n x m
      → GivesOther (Effects (At x.key m) w x.key) x.domain → BreaksS4 sys dropped n

-- S5: an event has at most one live edge. Shown with the least mode variable of its live edges

-- two edges are different where their ways, their variables or the modes that they leave are
pub data AreTwoEdges (k l : Label) (m n : ℕ) (u v : Value) : Type 0 where
  ways : (k.way ≡ l.way → ⊥) → AreTwoEdges k l m n u v
  variables : (m ≡ n → ⊥) → AreTwoEdges k l m n u v
  modes : (u ≡ v → ⊥) → AreTwoEdges k l m n u v

-- two live edges of one event are one
pub record KeepsS5 {V : Type 0} (sys : System V) (dropped : List ℕ) : Type 0 where
  pub one : (k l : Label) (m n : ℕ) (u v x y : Value) → IsLive sys dropped k m u x → IsLive sys dropped l n v y
      → k.event ≡ l.event → (k.way ≡ l.way) × (m ≡ n) × (u ≡ v)

-- a live edge of the event, at this variable
pub record HasLive {V : Type 0} (sys : System V) (dropped : List ℕ) (e n : ℕ) : Type 0 where
  pub label : Label
  pub is_event : label.event ≡ e
  pub from : Value
  pub to : Value
  pub is_live : IsLive sys dropped label n from to

-- some event has two live edges, and this is the least mode variable of its live edges
pub record BreaksS5 {V : Type 0} (sys : System V) (dropped : List ℕ) (n : ℕ) : Type 0 where
  pub event : ℕ
  pub first_variable : ℕ
  pub second_variable : ℕ
  pub first : HasLive sys dropped event first_variable
  pub second : HasLive sys dropped event second_variable
  pub two : AreTwoEdges first.label second.label first_variable second_variable first.from second.from
  pub has : HasLive sys dropped event n
  pub least : (k : ℕ) → HasLive sys dropped event k → n ≤ k

-- S6: no live edge stays in its mode, no mode is entered by two live edges, and the initial mode by none. Shown with
-- the variable

-- no live edge stays, two live edges that enter one mode are one, and none enters the init value
pub record KeepsS6 {V : Type 0} (sys : System V) (dropped : List ℕ) : Type 0 where
  pub moves : (l : Label) (n : ℕ) (u v : Value) → IsLive sys dropped l n u v → u ≡ v → ⊥
  pub enters : (k l : Label) (n : ℕ) (u v x : Value) → IsLive sys dropped k n u x → IsLive sys dropped l n v x
      → (k.event ≡ l.event) × (k.way ≡ l.way) × (u ≡ v)
  pub begins : (l : Label) (n : ℕ) (u : Value) (x : Variable V) → Stands sys.net.variables n x
      → IsLive sys dropped l n u x.value → ⊥

-- a live edge of this variable stays in its mode, two of them enter one mode, or one enters the init value
pub data BreaksS6 {V : Type 0} (sys : System V) (dropped : List ℕ) (n : ℕ) : Type 0 where
  stays : (l : Label) (u v : Value) → IsLive sys dropped l n u v → u ≡ v → BreaksS6 sys dropped n
  by_events : (k l : Label) (u v x : Value) → IsLive sys dropped k n u x → IsLive sys dropped l n v x
      → (k.event ≡ l.event → ⊥) → BreaksS6 sys dropped n
  by_edges : (k l : Label) (u v x : Value) → IsLive sys dropped k n u x → IsLive sys dropped l n v x → k.event ≡ l.event
      → AreTwoEdges k l n n u v → BreaksS6 sys dropped n
  initial : (l : Label) (u : Value) (x : Variable V) → Stands sys.net.variables n x → IsLive sys dropped l n u x.value
      → BreaksS6 sys dropped n

-- S7: each subexpression, and each step of a fold, of an observer and of the expression and conditions of an
-- assertion's assignment has at most 64 possible values.
-- Shown with the flow assigned, or with the observer

-- the assignment's expression or one of its conditions has more than 64 possible values in some part, where each
-- variable may have each value of its domain
pub data AssignIsWide {V : Type 0} (net : Net V) (a : Assign V) : Type 0 where
  by_value : IsWide (Allows net) 64 (out-Expr V a.value) → AssignIsWide net a
  by_condition : {e : Expr V} {b : Bool} → IsOneOf a.conditions (e, b) → IsWide (Allows net) 64 (out-Expr V e)
      → AssignIsWide net a

-- no assignment of an assertion and no observer has too many possible values
pub record KeepsS7 {V : Type 0} (sys : System V) : Type 0 where
  pub assignments : (k : ℕ) (a : Assign V) → Stands sys.net.assertions k a → AssignIsWide sys.net a → ⊥
  pub observers : (k : ℕ) (e : Expr V) → Stands sys.observers k e → IsWide (Allows sys.net) 64 (out-Expr V e) → ⊥

-- an assignment to this flow has too many possible values
pub record BreaksS7 {V : Type 0} (sys : System V) (n : ℕ) : Type 0 where
  pub variable : Variable V
  pub stands : Stands sys.net.variables n variable
  pub assign : Assign V
  pub is_one : IsOneOf sys.net.assertions assign
  pub is_target : assign.target ≡ variable.key
  pub wide : AssignIsWide sys.net assign

-- this observer has too many possible values
pub record ObserverBreaksS7 {V : Type 0} (sys : System V) (k : ℕ) : Type 0 where
  pub observer : Expr V
  pub stands : Stands sys.observers k observer
  pub wide : IsWide (Allows sys.net) 64 (out-Expr V observer)

-- S8: at most 2,048 events have a live edge. Shown with the whole model

-- some mode variable has a live edge of the event
pub record IsLiveEvent {V : Type 0} (sys : System V) (dropped : List ℕ) (e : ℕ) : Type 0 where
  pub number : ℕ
  pub live : HasLive sys dropped e number

-- the events with a live edge are among at most 2,048
pub record KeepsS8 {V : Type 0} (sys : System V) (dropped : List ℕ) : Type 0 where
  pub events : List ℕ
  pub whole : (e : ℕ) → IsLiveEvent sys dropped e → IsOneOf events e
  pub few : length events ≤ 2048

-- more than 2,048 different events have a live edge
pub record BreaksS8 {V : Type 0} (sys : System V) (dropped : List ℕ) : Type 0 where
  pub events : List ℕ
  pub differ : AreDifferent events
  pub live : (k e : ℕ) → Stands events k e → IsLiveEvent sys dropped e
  pub many : 2048 < length events

-- what a broken rule is shown with: an event, a unit, a variable or an observer, by number, or the whole model
pub data Spot : Type 0 where
  AtEvent : (number : ℕ) → Spot
  AtUnit : (number : ℕ) → Spot
  AtVariable : (number : ℕ) → Spot
  AtObserver : (number : ℕ) → Spot
  AtWhole : Spot

-- the first is shown before the second: by number, and variables before observers
pub data IsShownBefore : Spot → Spot → Type 0 where
  events : {m n : ℕ} → m < n → IsShownBefore (AtEvent m) (AtEvent n)
  units : {m n : ℕ} → m < n → IsShownBefore (AtUnit m) (AtUnit n)
  variables : {m n : ℕ} → m < n → IsShownBefore (AtVariable m) (AtVariable n)
  observers : {m n : ℕ} → m < n → IsShownBefore (AtObserver m) (AtObserver n)
  variable_first : {m n : ℕ} → IsShownBefore (AtVariable m) (AtObserver n)

-- the rules by number
pub data Rule : Type 0 where
  S1 S2 S3 S4 S5 S6 S7 S8 : Rule

-- a rule is broken, shown with this
pub data BreaksStaticRule {V : Type 0} (sys : System V) (dropped : List ℕ) : Rule → Spot → Type 0 where
  s1 : {n : ℕ} → BreaksS1 sys n → BreaksStaticRule sys dropped S1 (AtEvent n)
  s2 : {n : ℕ} → BreaksS2 sys dropped n → BreaksStaticRule sys dropped S2 (AtUnit n)
  s3 : {n : ℕ} → BreaksS3 sys dropped n → BreaksStaticRule sys dropped S3 (AtVariable n)
  s4 : {n : ℕ} → BreaksS4 sys dropped n → BreaksStaticRule sys dropped S4 (AtVariable n)
  s5 : {n : ℕ} → BreaksS5 sys dropped n → BreaksStaticRule sys dropped S5 (AtVariable n)
  s6 : {n : ℕ} → BreaksS6 sys dropped n → BreaksStaticRule sys dropped S6 (AtVariable n)
  s7 : {n : ℕ} → BreaksS7 sys n → BreaksStaticRule sys dropped S7 (AtVariable n)
  s7_observer : {n : ℕ} → ObserverBreaksS7 sys n → BreaksStaticRule sys dropped S7 (AtObserver n)
  s8 : BreaksS8 sys dropped → BreaksStaticRule sys dropped S8 AtWhole

-- the rule is kept
abbrev pub KeepsStaticRule : {V : Type 0} → System V → List ℕ → Rule → Type 0
KeepsStaticRule sys dropped S1 = KeepsS1 sys
KeepsStaticRule sys dropped S2 = KeepsS2 sys dropped
KeepsStaticRule sys dropped S3 = KeepsS3 sys dropped
KeepsStaticRule sys dropped S4 = KeepsS4 sys dropped
KeepsStaticRule sys dropped S5 = KeepsS5 sys dropped
KeepsStaticRule sys dropped S6 = KeepsS6 sys dropped
KeepsStaticRule sys dropped S7 = KeepsS7 sys
KeepsStaticRule sys dropped S8 = KeepsS8 sys dropped

-- the number of a rule
abbrev pub rule_number : Rule → ℕ
rule_number S1 = 1
rule_number S2 = 2
rule_number S3 = 3
rule_number S4 = 4
rule_number S5 = 5
rule_number S6 = 6
rule_number S7 = 7
rule_number S8 = 8

-- the least rule that is broken, with the first that it is shown with
pub record IsFirstBroken {V : Type 0} (sys : System V) (dropped : List ℕ) (rule : Rule) (spot : Spot) : Type 0 where
  pub breaks : BreaksStaticRule sys dropped rule spot
  pub lesser_kept : (lesser : Rule) → rule_number lesser < rule_number rule → KeepsStaticRule sys dropped lesser
  pub is_first : (other : Spot) → IsShownBefore other spot → BreaksStaticRule sys dropped rule other → ⊥

-- the rule is one of those that are asked of a system: every rule, and where the cuts of at most so many events are asked for
-- every one but the last, which says how many events may have a live edge
abbrev pub IsAskedUpTo : Option ℕ → Rule → Type 0
IsAskedUpTo None rule = Unit {0}
IsAskedUpTo (Some k) rule = rule_number rule < 8

-- every rule that is asked is kept
pub record KeepsUpTo {V : Type 0} (order : Option ℕ) (sys : System V) (dropped : List ℕ) : Type 0 where
  pub each : (rule : Rule) → IsAskedUpTo order rule → KeepsStaticRule sys dropped rule

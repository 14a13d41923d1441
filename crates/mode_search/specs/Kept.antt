-- Ways of the events that are not marked, by event and then by their order in the event.
use Rattle.std.specs.Prelude.{◌≡◌, ◌<◌, ◌⊎◌, ◌+◌, ℕ, Bool, true, false, not, nat_lt, if◌then◌else◌, List, [], ◌∷◌, Option, Some, None, Vec}
use Rattle.std.specs.Global.{Global}
use Rattle.ar_base.specs.Lists.{Stands, IsOneOf, HasNo, Along}
use Rattle.ar_base.specs.Numbers.{VarId, WayId}
use Rattle.ar_base.specs.NumbersInside.{EventId}
use Rattle.typed_expr.specs.declared.expr.Expr.{Expr}
use Rattle.ar_meaning.specs.Runs.{Label}
use Rattle.ar_firing.specs.Fragment.{IsStateOf}
use Rattle.gts_core.specs.View.{net_of}
use Rattle.gts_core.specs.declared.system.Event.{Event}
use Rattle.gts_core.specs.declared.system.Way.{Way}
use Rattle.gts_core.specs.declared.system.WayBody.TheVariants.{Local}
use Rattle.gts_core.specs.declared.system.Assign.{Assign}
use Rattle.gts_core.specs.declared.system.GtsParts.{GtsParts}
use Rattle.mode_search.specs.Modes.{IsWayMode, transition_of}
use Rattle.mode_search.specs.declared.kept.KeptWay.{KeptWay}

-- the way of this number is a transition of this guard and action
pub record IsLocal (p : GtsParts) (n : ℕ) (guard : Expr VarId) (action : Vec Assign Global) : Type 0 where
  pub way : Way
  pub stands : Stands p.ways.items n way
  pub body : way.body ≡ Local guard action

-- a way of the event, a transition, with its mode variable
pub record IsKeptOf (p : GtsParts) (id : EventId) (event : Event) (way : WayId) (kept : KeptWay) : Type 0 where
  pub guard : Expr VarId
  pub action : Vec Assign Global
  pub local : IsLocal p way.n guard action
  pub is_event : kept.event ≡ id
  pub is_way : kept.way ≡ way
  pub visible : kept.visible ≡ not event.hidden
  pub mode : IsWayMode p event.unit.n (transition_of guard action.items) kept.mode

-- the way is no transition, or its unit has no state variable
abbrev pub IsNoKept : GtsParts → Event → ℕ → Type 0
IsNoKept p event n =
    (guard : Expr VarId) (action : Vec Assign Global) → IsLocal p n guard action
    → HasNo (net_of p).variables (IsStateOf event.unit.n)

-- the item that there is, or none
abbrev pub items_of : Option KeptWay → List KeptWay
items_of None = []
items_of (Some k) = k ∷ []

-- the first label comes before the second: by event, and then by the order in the event
abbrev pub IsLabelBefore : Label → Label → Type 0
IsLabelBefore l m = (l.event < m.event) ⊎ ((l.event ≡ m.event) × (l.way < m.way))

-- the label is that of this kept way, of an event that is not marked
pub record IsKeptAt (p : GtsParts) (marks : List Bool) (l : Label) (kept : KeptWay) : Type 0 where
  pub event : Event
  pub is_event : Stands p.events.items l.event event
  pub mark : Stands marks l.event false
  pub id : EventId
  pub number : id.n ≡ l.event
  pub way : WayId
  pub has : Stands event.ways.items l.way way
  pub is : IsKeptOf p id event way kept

-- the label is that of a transition of an event that is not marked, whose unit has a state variable
pub record IsToKeep (p : GtsParts) (marks : List Bool) (l : Label) : Type 0 where
  pub event : Event
  pub is_event : Stands p.events.items l.event event
  pub mark : Stands marks l.event false
  pub way : WayId
  pub has : Stands event.ways.items l.way way
  pub guard : Expr VarId
  pub action : Vec Assign Global
  pub local : IsLocal p way.n guard action
  pub state : HasNo (net_of p).variables (IsStateOf event.unit.n) → ⊥

-- the kept ways before a label, each once, in order
pub record AreKeptWaysBefore (p : GtsParts) (marks : List Bool) (event way : ℕ) (kept : List KeptWay) : Type 0 where
  pub labels : List Label
  pub are : Along (IsKeptAt p marks) labels kept
  pub below : (j : ℕ) (l : Label) → Stands labels j l → IsLabelBefore l (record { event = event; way = way })
  pub ascend : (j k : ℕ) (l m : Label) → j < k → Stands labels j l → Stands labels k m → IsLabelBefore l m
  pub whole : (l : Label) → IsToKeep p marks l → IsLabelBefore l (record { event = event; way = way }) → IsOneOf labels l

-- the list got those of the first so many ways of the event that are to be kept
pub record AddsKeptWays (p : GtsParts) (id : EventId) (event : Event) (count : ℕ) (old new : List KeptWay) : Type 0 where
  pub on : (marks : List Bool) → Stands marks id.n false → AreKeptWaysBefore p marks id.n 0 old → AreKeptWaysBefore p marks id.n count new

-- the list got the ways of the event that are to be kept, unless it is marked
pub record Continues (p : GtsParts) (marks : List Bool) (event : ℕ) (old new : List KeptWay) : Type 0 where
  pub on : AreKeptWaysBefore p marks event 0 old → AreKeptWaysBefore p marks (event + 1) 0 new

-- one of these ways does not name its mode variable alone, and this is the one of number n
pub record OtherIn (alone : KeptWay → Bool) (kept : List KeptWay) (n : ℕ) : Type 0 where
  pub way : KeptWay
  pub is_one : IsOneOf kept way
  pub number : way.mode.variable.n ≡ n
  pub other : alone way ≡ false

-- the guard of one of these ways names another variable than its mode variable, the one of number n
abbrev pub OtherInGuard : List KeptWay → ℕ → Type 0
OtherInGuard kept n = OtherIn (λ (k : KeptWay). k.mode.guard_alone) kept n

-- the same of its action
abbrev pub OtherInAction : List KeptWay → ℕ → Type 0
OtherInAction kept n = OtherIn (λ (k : KeptWay). k.mode.action_alone) kept n

-- the lesser of what was found and a number, unless it stands alone
abbrev pub least_unless_alone : Option ℕ → Bool → ℕ → Option ℕ
least_unless_alone least true n = least
least_unless_alone None false n = Some n
least_unless_alone (Some m) false n = Some (if nat_lt n m then n else m)

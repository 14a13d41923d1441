-- Sound parts of a flat system.
use Rattle.std.specs.Prelude.{◌≡◌, ℕ, ◌+◌, ◌<◌, ◌≤◌, ◌^◌, Bool, true, false, length, Option, Some, None, slice_get, Vec}
use Rattle.std.specs.Global.{Global}
use Rattle.ar_base.specs.Lists.{Stands, IsOneOf}
use Rattle.domains.specs.Domains.{IsDomain, Holds}
use Rattle.domains.specs.declared.Value.{Value}
use Rattle.domains.specs.declared.Value.TheVariants as value
use Rattle.domains.specs.declared.Domain.{Domain}
use Rattle.domains.specs.declared.Domain.TheVariants as domain
use Rattle.typed_expr.specs.Kinds.{HasKind}
use Rattle.typed_expr.specs.Mentions.{Mentions}
use Rattle.typed_expr.specs.Possible.{IsSubexpression}
use Rattle.typed_expr.specs.declared.expr.Expr.{Expr, out-Expr}
use Rattle.typed_expr.specs.declared.expr.Expr.TheOpen.{Constant}
use Rattle.typed_expr.specs.declared.expr.ValueKind.{ValueKind}
use Rattle.typed_expr.specs.declared.expr.ValueKind.TheVariants as kind
use Rattle.ar_meaning.specs.Systems as s
use Rattle.ar_meaning.specs.Numbered.{Means_way, height}
use Rattle.ar_base.specs.Numbers.{VarId, WayId}
use Rattle.gts_core.specs.View.{way_bodies}
use Rattle.gts_core.specs.declared.system.Variable.{Variable}
use Rattle.gts_core.specs.declared.system.Event.{Event}
use Rattle.gts_core.specs.declared.system.Way.{Way}
use Rattle.gts_core.specs.declared.system.WayBody.TheVariants.{Local, Sync}
use Rattle.gts_core.specs.declared.system.Assign.{Assign}
use Rattle.gts_core.specs.declared.system.Observer.{Observer}
use Rattle.gts_core.specs.declared.system.GtsParts.{GtsParts}

-- the kind of a domain's values
abbrev pub kind_of_domain : Domain → ValueKind
kind_of_domain domain.Boolean = kind.Truth
kind_of_domain (domain.Symbols symbols) = kind.Symbol
kind_of_domain (domain.Range low high) = kind.Whole

-- the kind of a variable that was looked up; a number that stands for none counts as a truth value
abbrev pub kind_of_found : Option Variable → ValueKind
kind_of_found (Some x) = kind_of_domain x.domain
kind_of_found None = kind.Truth

-- the kind of the variable of this number
abbrev pub variable_kind_at : GtsParts → VarId → ValueKind
variable_kind_at p x = kind_of_found (slice_get p.variables.items x.n)

-- the value is no symbol, or one that has a name
abbrev pub IsNamedValue : GtsParts → Value → Type 0
IsNamedValue p (value.Truth b) = Unit {0}
IsNamedValue p (value.Whole n) = Unit {0}
IsNamedValue p (value.Symbol k) = k < length p.symbols.items

-- the expression has the kind, its variables are those of the system, and its symbols have names
pub record IsTyped (p : GtsParts) (e : Expr VarId) (k : ValueKind) : Type 0 where
  pub typed : HasKind (variable_kind_at p) (out-Expr VarId e) k
  pub variables : (x : VarId) → Mentions x (out-Expr VarId e) → x.n < length p.variables.items
  pub symbols : (v : Value) → IsSubexpression (Constant v) (out-Expr VarId e) → IsNamedValue p v

-- an assignment to a variable that is a state variable, or is a flow, of a value of the variable's kind under typed
-- conditions
pub record IsAssignTo (p : GtsParts) (to_state : Bool) (a : Assign) : Type 0 where
  pub variable : Variable
  pub stands : Stands p.variables.items a.target.n variable
  pub is : variable.is_state ≡ to_state
  pub value : IsTyped p a.value (kind_of_domain variable.domain)
  pub conditions : (c : Expr VarId × Bool) → IsOneOf a.when.items c → IsTyped p c.0 kind.Truth

-- a variable with a unit, a domain whose symbols have names, and a value in the domain
pub record IsVariableOf (p : GtsParts) (x : Variable) : Type 0 where
  pub unit : x.unit.n < length p.units.items
  pub domain : IsDomain x.domain
  pub names : (v : Value) → Holds x.domain v → IsNamedValue p v
  pub value : Holds x.domain x.value

-- way n is a way of its event, the one that its number says, counted from 1
pub record IsOwn (p : GtsParts) (n : ℕ) (w : Way) : Type 0 where
  pub event : Event
  pub stands : Stands p.events.items w.event.n event
  pub place : ℕ
  pub number : w.number ≡ place + 1
  pub way : WayId
  pub is : way.n ≡ n
  pub there : Stands event.ways.items place way

-- the way at place k of event n names the event and has the number k + 1
pub record IsListedWay (p : GtsParts) (n k : ℕ) (id : WayId) : Type 0 where
  pub way : Way
  pub stands : Stands p.ways.items id.n way
  pub event : way.event.n ≡ n
  pub number : way.number ≡ k + 1

-- each list is short enough for its numbers
pub record AreShort (p : GtsParts) : Type 0 where
  pub symbols : length p.symbols.items < 2 ^ 32
  pub units : length p.units.items < 2 ^ 32
  pub variables : length p.variables.items < 2 ^ 32
  pub events : length p.events.items < 2 ^ 32
  pub ways : length p.ways.items < 2 ^ 32
  pub assigns : length p.assigns.items < 2 ^ 32
  pub observers : length p.observers.items < 2 ^ 32

-- what every flat system keeps; the ways that numbers stand for say that no way leads back to itself
pub record IsSound (p : GtsParts) : Type 0 where
  pub short : AreShort p
  pub variables : (n : ℕ) (x : Variable) → Stands p.variables.items n x → IsVariableOf p x
  pub event_units : (n : ℕ) (e : Event) → Stands p.events.items n e → e.unit.n < length p.units.items
  pub event_ways : (n k : ℕ) (e : Event) (id : WayId) → Stands p.events.items n e → Stands e.ways.items k id
      → IsListedWay p n k id
  pub own_ways : (n : ℕ) (w : Way) → Stands p.ways.items n w → IsOwn p n w
  pub guards : (n : ℕ) (w : Way) (guard : Expr VarId) (action : Vec Assign Global) → Stands p.ways.items n w
      → w.body ≡ Local guard action → IsTyped p guard kind.Truth
  pub actions : (n : ℕ) (w : Way) (guard : Expr VarId) (action : Vec Assign Global) → Stands p.ways.items n w
      → w.body ≡ Local guard action → (a : Assign) → IsOneOf action.items a → IsAssignTo p true a
  pub parts : (n : ℕ) (w : Way) (parts : Vec (Bool × WayId) Global) → Stands p.ways.items n w → w.body ≡ Sync parts
      → (part : Bool × WayId) → IsOneOf parts.items part → part.1.n < length p.ways.items
  pub trees : (n : ℕ) → n < length p.ways.items
      → (w : s.Way ℕ) × Means_way (way_bodies p) n w × (height w ≤ length p.ways.items)
  pub assertions : (a : Assign) → IsOneOf p.assigns.items a → IsAssignTo p false a
  pub observers : (o : Observer) → IsOneOf p.observers.items o → IsTyped p o.value o.kind

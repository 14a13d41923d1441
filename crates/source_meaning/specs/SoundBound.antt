-- What bound forms keep by themselves: all numbers are in range, and all expressions and instructions typed.
use Rattle.std.specs.Prelude.{◌≡◌, ℕ, ◌<◌, ◌≤◌, ◌^◌, Bool, true, false, length, Box, Vec}
use Rattle.std.specs.Global.{Global}
use Rattle.ar_base.specs.Counts.{limit_of}
use Rattle.ar_base.specs.declared.counts.Count.TheVariants.{Events}
use Rattle.ar_base.specs.Lists.{Stands, IsOneOf}
use Rattle.ar_base.specs.Numbers.{VarId}
use Rattle.ar_base.specs.NumbersInside.{EventId}
use Rattle.ar_base.specs.declared.places.Place.{Place}
use Rattle.typed_expr.specs.declared.expr.Expr.{Expr}
use Rattle.typed_expr.specs.declared.expr.ValueKind.TheVariants as kind
use Rattle.ar_meaning.specs.Systems as s
use Rattle.gts_core.specs.Sound.{kind_of_domain, IsTyped, IsVariableOf}
use Rattle.gts_core.specs.declared.bound.Act.{Act, out-Act}
use Rattle.gts_core.specs.declared.bound.Act.TheOpen.{Act-F}
use Rattle.gts_core.specs.declared.bound.Act.TheOpen as act
use Rattle.gts_core.specs.declared.bound.DeclaredEvent.{DeclaredEvent}
use Rattle.gts_core.specs.declared.bound.DeclaredWay.TheVariants.{Local, Sync}
use Rattle.gts_core.specs.declared.system.GtsParts.{GtsParts}
use Rattle.gts_core.specs.declared.system.Observer.{Observer}
use Rattle.gts_core.specs.declared.system.Variable.{Variable}
use Rattle.source_meaning.specs.declared.bound.Bound.{Bound}

-- parts of a flat system over the symbols, units and variables of the bound forms
pub record IsOverBound (b : Bound) (p : GtsParts) : Type 0 where
  pub symbols : p.symbols ≡ b.symbols
  pub units : p.units ≡ b.units
  pub variables : p.variables ≡ b.variables

-- the instruction assigns state variables, or flows, values of their kinds, under tests that are truth values
pub data IsSoundAct (p : GtsParts) (to_state : Bool) : Act-F Act → Type 0 where
  skip : IsSoundAct p to_state act.Skip
  set : {x : VarId} {e : Expr VarId} {at : Place} (v : Variable) → Stands p.variables.items x.n v
      → v.is_state ≡ to_state
      → IsTyped p e (kind_of_domain v.domain) → IsSoundAct p to_state (act.Set x e at)
  conditional : {test : Expr VarId} {first second : Box Act Global} → IsTyped p test kind.Truth
      → IsSoundAct p to_state (out-Act first.value)
      → IsSoundAct p to_state (out-Act second.value) → IsSoundAct p to_state (act.If test first second)
  all : {acts : Vec Act Global} → ((a : Act) → IsOneOf acts.items a → IsSoundAct p to_state (out-Act a))
      → IsSoundAct p to_state (act.All acts)

-- the assignment gives a state variable, or a flow, a value
pub record SetsSort (p : GtsParts) (to_state : Bool) (a : s.Assign ℕ) : Type 0 where
  pub variable : Variable
  pub stands : Stands p.variables.items a.target variable
  pub sort : variable.is_state ≡ to_state

-- each list is short enough for its numbers
pub record AreShortLists (b : Bound) : Type 0 where
  pub symbols : length b.symbols.items < 2 ^ 32
  pub units : length b.units.items < 2 ^ 32
  pub variables : length b.variables.items < 2 ^ 32
  pub events : length b.events.items ≤ limit_of Events
  pub ways : (e : DeclaredEvent) → IsOneOf b.events.items e → length e.ways.items < 2 ^ 32
  pub observers : length b.observers.items < 2 ^ 32

-- what bound forms keep: variables have units, and values of their domains; guards are truth values; actions assign
-- state variables and assertions flows; parts are events; observers have their kinds
pub record IsSoundBound (b : Bound) : Type 0 where
  pub few : AreShortLists b
  pub variables : (p : GtsParts) → IsOverBound b p → (n : ℕ) (x : Variable) → Stands b.variables.items n x → IsVariableOf p x
  pub event_units : (e : DeclaredEvent) → IsOneOf b.events.items e → e.unit.n < length b.units.items
  pub guards : (p : GtsParts) → IsOverBound b p → (e : DeclaredEvent) (guard : Expr VarId) (action : Act)
      → IsOneOf b.events.items e
      → IsOneOf e.ways.items (Local guard action) → IsTyped p guard kind.Truth
  pub actions : (p : GtsParts) → IsOverBound b p → (e : DeclaredEvent) (guard : Expr VarId) (action : Act)
      → IsOneOf b.events.items e
      → IsOneOf e.ways.items (Local guard action) → IsSoundAct p true (out-Act action)
  pub parts : (e : DeclaredEvent) (parts : Vec (Bool × EventId) Global) (at : Place) (part : Bool × EventId)
      → IsOneOf b.events.items e
      → IsOneOf e.ways.items (Sync parts at) → IsOneOf parts.items part → part.1.n < length b.events.items
  pub assertions : (p : GtsParts) → IsOverBound b p → (a : Act) → IsOneOf b.assertions.items a
      → IsSoundAct p false (out-Act a)
  pub observers : (p : GtsParts) → IsOverBound b p → (o : Observer) → IsOneOf b.observers.items o → IsTyped p o.value o.kind

-- The parts of a flat system as they are made of bound forms, list by list.
use Rattle.std.specs.Prelude.{◌≡◌, ℕ, Bool, List, map, length, Vec}
use Rattle.std.specs.Global.{Global}
use Rattle.std.specs.List.{flat_map}
use Rattle.ar_base.specs.Lists.{Stands, Along}
use Rattle.ar_base.specs.Numbers.{VarId, WayId}
use Rattle.typed_expr.specs.declared.expr.Expr.{Expr}
use Rattle.gts_core.specs.Bound.{assigns_of_act, places_of_act, places_in, AreAssigns}
use Rattle.domains.specs.SameInside.{IsSameDomain}
use Rattle.gts_core.specs.Copies.{IsCopy}
use Rattle.gts_core.specs.declared.bound.Act.{Act}
use Rattle.gts_core.specs.declared.bound.DeclaredEvent.{DeclaredEvent}
use Rattle.gts_core.specs.declared.bound.DeclaredWay.{DeclaredWay}
use Rattle.gts_core.specs.declared.bound.DeclaredWay.TheVariants as declared
use Rattle.gts_core.specs.declared.system.Assign.{Assign}
use Rattle.gts_core.specs.declared.system.Event.{Event}
use Rattle.gts_core.specs.declared.system.GtsParts.{GtsParts}
use Rattle.gts_core.specs.declared.system.Observer.{Observer}
use Rattle.gts_core.specs.declared.system.Variable.{Variable}
use Rattle.gts_core.specs.declared.system.Way.{Way}
use Rattle.gts_core.specs.declared.system.WayBody.{WayBody}
use Rattle.gts_core.specs.declared.system.WayBody.TheVariants.{Local, Sync}
use Rattle.source_meaning.specs.declared.bound.Bound.{Bound}
use Rattle.sync_expand.specs.Plans.{ways_at}
use Rattle.sync_expand.specs.declared.plans.PlanBody.{PlanBody}
use Rattle.sync_expand.specs.declared.plans.PlanBody.TheVariants as planned
use Rattle.sync_expand.specs.declared.plans.WayPlan.{WayPlan}

-- the second variable is a copy of the first
pub record IsSameVariable (x y : Variable) : Type 0 where
  pub path : y.path ≡ x.path
  pub unit : y.unit ≡ x.unit
  pub domain : IsSameDomain x.domain y.domain
  pub is_state : y.is_state ≡ x.is_state
  pub value : y.value ≡ x.value

-- the second observer is a copy of the first
pub record IsSameObserver (x y : Observer) : Type 0 where
  pub path : y.path ≡ x.path
  pub kind : y.kind ≡ x.kind
  pub value : IsCopy x.value y.value

-- the body is that of a declared transition
pub data IsTransitionOf : DeclaredWay → WayBody → Type 0 where
  transition : {guard : Expr VarId} {action : Act} {copy : Expr VarId} {assigns : Vec Assign Global} → IsCopy guard copy
      → AreAssigns (assigns_of_act action) assigns.items
      → IsTransitionOf (declared.Local guard action) (Local copy assigns)

-- the body is that of the transition at this place of an event
pub record IsTransitionAt (events : List DeclaredEvent) (event place : ℕ) (body : WayBody) : Type 0 where
  pub declared : DeclaredEvent
  pub stands : Stands events event declared
  pub way : DeclaredWay
  pub there : Stands declared.ways.items place way
  pub is_transition : IsTransitionOf way body

-- what a planned way of the event is made of
pub data IsMadeOf (events : List DeclaredEvent) (event : ℕ) : PlanBody → WayBody → Type 0 where
  acts : {place : ℕ} {body : WayBody} → IsTransitionAt events event place body
      → IsMadeOf events event (planned.Local place) body
  joins : {parts copies : Vec (Bool × WayId) Global} → copies.items ≡ parts.items
      → IsMadeOf events event (planned.Sync parts) (Sync copies)

-- the way is the planned one
pub record IsMadeWay (events : List DeclaredEvent) (p : WayPlan) (w : Way) : Type 0 where
  pub event : w.event ≡ p.event
  pub number : w.number ≡ p.number
  pub body : IsMadeOf events p.event.n p.body w.body

-- the event is the declared one, at place n, with the numbers of its ways, where the events have so many ways
pub record IsMadeEvent (counts : List ℕ) (n : ℕ) (d : DeclaredEvent) (e : Event) : Type 0 where
  pub path : e.path ≡ d.path
  pub unit : e.unit ≡ d.unit
  pub hidden : e.hidden ≡ d.hidden
  pub ways : map (λ (w : WayId). w.n) e.ways.items ≡ ways_at counts n

-- the same of all events
pub record AreMadeEvents (counts : List ℕ) (ds : List DeclaredEvent) (es : List Event) : Type 0 where
  pub long : length es ≡ length ds
  pub each : (n : ℕ) (d : DeclaredEvent) (e : Event) → Stands ds n d → Stands es n e → IsMadeEvent counts n d e

-- the parts are those of the bound forms, with ways as they are planned
pub record AreMadeOf (bound : Bound) (counts : List ℕ) (plan : List WayPlan) (p : GtsParts) : Type 0 where
  pub symbols : p.symbols.items ≡ bound.symbols.items
  pub units : p.units.items ≡ bound.units.items
  pub variables : Along IsSameVariable bound.variables.items p.variables.items
  pub events : AreMadeEvents counts bound.events.items p.events.items
  pub ways : Along (IsMadeWay bound.events.items) plan p.ways.items
  pub assigns : AreAssigns (flat_map assigns_of_act bound.assertions.items) p.assigns.items
  pub places : places_in p.assigns.items ≡ flat_map places_of_act bound.assertions.items
  pub observers : Along IsSameObserver bound.observers.items p.observers.items

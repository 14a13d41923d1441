-- How the lists of a flat system grow while they are made.
use Rattle.std.specs.Prelude.{◌≡◌, ℕ, ◌+◌, ◌≤◌, ◌<◌, Bool, List, map, length, Vec}
use Rattle.std.specs.Global.{Global}
use Rattle.std.specs.List.{range_with_len}
use Rattle.ar_base.specs.Lists.{Stands}
use Rattle.ar_base.specs.Numbers.{VarId, WayId}
use Rattle.typed_expr.specs.declared.expr.Expr.{Expr}
use Rattle.gts_core.specs.declared.bound.Act.{Act}
use Rattle.gts_core.specs.declared.bound.DeclaredEvent.{DeclaredEvent}
use Rattle.gts_core.specs.declared.bound.DeclaredWay.TheVariants.{Local}
use Rattle.sync_expand.specs.declared.plans.PlanBody.{PlanBody}
use Rattle.sync_expand.specs.declared.plans.PlanBody.TheVariants as planned
use Rattle.sync_expand.specs.declared.plans.WayPlan.{WayPlan}

-- a transition stands at this place of the event
pub record HasTransition (events : List DeclaredEvent) (event place : ℕ) : Type 0 where
  pub declared : DeclaredEvent
  pub stands : Stands events event declared
  pub guard : Expr VarId
  pub action : Act
  pub there : Stands declared.ways.items place (Local guard action)

-- what a planned way of the event is made of is declared: a transition stands at its place
pub data IsPlanDeclared (events : List DeclaredEvent) (event : ℕ) : PlanBody → Type 0 where
  acts : {place : ℕ} → HasTransition events event place → IsPlanDeclared events event (planned.Local place)
  joins : {parts : Vec (Bool × WayId) Global} → IsPlanDeclared events event (planned.Sync parts)

-- the same of all planned ways
pub record AreDeclared (events : List DeclaredEvent) (plan : List WayPlan) : Type 0 where
  pub each : (n : ℕ) (w : WayPlan) → Stands plan n w → IsPlanDeclared events w.event.n w.body

-- these are the numbers from the first on of ways of the event, and the next way is none of it
pub record IsWayRun (plan : List WayPlan) (event first : ℕ) (numbers : List WayId) : Type 0 where
  pub are : map (λ (w : WayId). w.n) numbers ≡ range_with_len first (length numbers)
  pub within : first ≤ length plan → first + length numbers ≤ length plan
  pub own : (n : ℕ) (w : WayPlan) → first ≤ n → n < first + length numbers → Stands plan n w → w.event.n ≡ event
  pub next : (w : WayPlan) → Stands plan (first + length numbers) w → w.event.n ≡ event → ⊥

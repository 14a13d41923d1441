-- Flows and observers with too many possible values.
use Rattle.std.specs.Prelude.{◌≡◌, ◌<◌, ◌≤◌, ℕ, Bool, List, Option, Some, None}
use Rattle.ar_base.specs.Lists.{Stands, IsOneOf}
use Rattle.ar_base.specs.Numbers.{VarId}
use Rattle.typed_expr.specs.Possible.{IsWide}
use Rattle.typed_expr.specs.declared.expr.Expr.{Expr, out-Expr}
use Rattle.ar_meaning.specs.Facts.{Allows}
use Rattle.ar_firing.specs.Rules.{AssignIsWide}
use Rattle.gts_core.specs.View.{net_of, numbered, assign_of}
use Rattle.gts_core.specs.declared.system.Assign.{Assign}
use Rattle.gts_core.specs.declared.system.Observer.{Observer}
use Rattle.gts_core.specs.declared.system.GtsParts.{GtsParts}
use Rattle.mode_search.specs.declared.searches.Wide.{Wide}
use Rattle.mode_search.specs.declared.searches.Wide.TheVariants as wide

-- one of the conditions has too many possible values
pub record IsSomeWide (p : GtsParts) (conditions : List (Expr VarId × Bool)) : Type 0 where
  pub condition : Expr VarId × Bool
  pub is_one : IsOneOf conditions condition
  pub wide : IsWide (Allows (net_of p)) 64 (out-Expr ℕ (numbered condition.0))

-- one of the first so many assertions assigns too many possible values to the flow of number n
pub record IsWideFlow (p : GtsParts) (count n : ℕ) : Type 0 where
  pub place : ℕ
  pub below : place < count
  pub assign : Assign
  pub stands : Stands p.assigns.items place assign
  pub target : assign.target.n ≡ n
  pub wide : AssignIsWide (net_of p) (assign_of assign)

-- the observer of number n has too many possible values
pub record IsWideObserver (p : GtsParts) (n : ℕ) : Type 0 where
  pub observer : Observer
  pub stands : Stands p.observers.items n observer
  pub wide : IsWide (Allows (net_of p)) 64 (out-Expr ℕ (numbered observer.value))

-- the least flow with too many possible values, or else the first such observer, or none
abbrev pub IsFirstWide : GtsParts → Option Wide → Type 0
IsFirstWide p None = ((count n : ℕ) → IsWideFlow p count n → ⊥) × ((n : ℕ) → IsWideObserver p n → ⊥)
IsFirstWide p (Some (wide.Flow n)) =
    ((count : ℕ) × IsWideFlow p count n) × ((count k : ℕ) → IsWideFlow p count k → n ≤ k)
IsFirstWide p (Some (wide.Observer n)) =
    ((count k : ℕ) → IsWideFlow p count k → ⊥) × IsWideObserver p n × ((k : ℕ) → IsWideObserver p k → n ≤ k)

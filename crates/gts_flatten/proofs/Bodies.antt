-- Bodies of ways.
use Rattle.std.proofs.Common.{◌≡◌, ℕ, zero, suc, get_or, Bool, List, [], ◌∷◌, Result, Ok, Err, IfOk, Vec, Global, sym, subst}
use Rattle.ar_base.specs.Lists.{Stands}
use Rattle.ar_base.specs.Numbers.{VarId, WayId}
use Rattle.typed_expr.specs.declared.expr.Expr.{Expr}
use Rattle.gts_core.specs.Bound.{assigns_of_act, AreAssigns}
use Rattle.gts_core.specs.Copies.{IsCopy}
use Rattle.gts_core.specs.declared.bound.Act.{Act}
use Rattle.gts_core.specs.declared.bound.DeclaredEvent.{DeclaredEvent}
use Rattle.gts_core.specs.declared.bound.DeclaredWay.{DeclaredWay}
use Rattle.gts_core.specs.declared.bound.DeclaredWay.TheVariants as declared
use Rattle.gts_core.specs.declared.system.Assign.{Assign}
use Rattle.gts_core.specs.declared.system.WayBody.{WayBody}
use Rattle.gts_core.specs.declared.system.WayBody.TheVariants.{Local, Sync}
use Rattle.sync_expand.specs.declared.plans.PlanBody.{PlanBody}
use Rattle.sync_expand.specs.declared.plans.PlanBody.TheVariants as planned
use Rattle.gts_flatten.specs.Making.{IsTransitionOf, transition, IsTransitionAt, IsMadeOf, acts, joins}
use Rattle.gts_flatten.specs.Placing.{HasTransition, IsPlanDeclared}
use Rattle.gts_flatten.specs.Placing as placed

-- what stands at a place is what is read there, whatever is read where nothing stands
pub item_or : {A : Type 0} (xs : List A) (n : ℕ) (a d : A) → Stands xs n a → get_or xs n d ≡ a
item_or [] zero a d s = cc
item_or [] (suc n) a d s = cc
item_or (x ∷ xs) zero a d s = cc
item_or (x ∷ xs) (suc n) a d s = item_or xs n a d s

-- the transition that is there, copied
pub transition_at : (events : List DeclaredEvent) (event place : ℕ) (d : DeclaredEvent) (w : DeclaredWay)
    (guard copy : Expr VarId) (action : Act) (assigns : Vec Assign Global) → Stands events event d
    → Stands d.ways.items place w → w ≡ declared.Local guard action → IsCopy guard copy
    → AreAssigns (assigns_of_act action) assigns.items
    → IsTransitionAt events event place (Local copy assigns)
transition_at events event place d w guard copy action assigns s t f c a =
    record {
      declared = d;
      stands = s;
      way = w;
      there = t;
      is_transition = subst (λ (z : DeclaredWay). IsTransitionOf z (Local copy assigns)) (sym f) (transition c a);
    }

-- a planned transition is there
pub planned_there : (events : List DeclaredEvent) (event place : ℕ) (p : PlanBody) → p ≡ planned.Local place
    → IsPlanDeclared events event p → HasTransition events event place
planned_there events event place p e h = by (subst (λ (q : PlanBody). IsPlanDeclared events event q) e h)
  where
    by : IsPlanDeclared events event (planned.Local place) → HasTransition events event place
    by (placed.acts t) = t

-- the body of a planned transition
pub made_transition : (events : List DeclaredEvent) (event place : ℕ) (p : PlanBody) {E : Type 0} (r : Result WayBody E)
    → p ≡ planned.Local place → IfOk r (IsTransitionAt events event place)
    → IfOk r (IsMadeOf events event p)
made_transition events event place p (Ok b) e h = subst (λ (q : PlanBody). IsMadeOf events event q b) (sym e) (acts h)
made_transition events event place p (Err x) e h = tt

-- the body of a planned synchronisation
pub made_joint : (events : List DeclaredEvent) (event : ℕ) (p : PlanBody) (parts copies : Vec (Bool × WayId) Global)
    → p ≡ planned.Sync parts → copies.items ≡ parts.items → IsMadeOf events event p (Sync copies)
made_joint events event p parts copies e f =
    subst (λ (q : PlanBody). IsMadeOf events event q (Sync copies)) (sym e) (joins f)

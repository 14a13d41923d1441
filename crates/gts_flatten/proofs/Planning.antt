-- What the plan makes its ways of is declared.
use Rattle.std.proofs.Common.{◌≡◌, ℕ, List, map, refl, sym, ◌∙◌, subst}
use Rattle.ar_base.specs.Lists.{Stands}
use Rattle.ar_base.proofs.Standing.{along_on, stands_map, stands_map_back}
use Rattle.ar_meaning.specs.Systems.{Transition}
use Rattle.ar_meaning.specs.Expand.{EventDeclaration, One}
use Rattle.ar_meaning.specs.Numbered.{Body, Acts}
use Rattle.gts_core.specs.Bound.{declared_from, member_of}
use Rattle.gts_core.specs.declared.bound.DeclaredEvent.{DeclaredEvent}
use Rattle.gts_core.specs.declared.bound.DeclaredWay.{DeclaredWay}
use Rattle.gts_core.specs.declared.bound.DeclaredWay.TheVariants as declared
use Rattle.sync_expand.specs.Plans.{PlannedWay, planned_ways}
use Rattle.sync_expand.specs.Planned.{planned_of, planned_body, all_bodies, IsResolved}
use Rattle.sync_expand.specs.Planned as plans
use Rattle.sync_expand.specs.declared.plans.PlanBody.{PlanBody}
use Rattle.sync_expand.specs.declared.plans.PlanBody.TheVariants as planned
use Rattle.sync_expand.specs.declared.plans.WayPlan.{WayPlan}
use Rattle.sync_expand.proofs.ByNumber.{stands_by}
use Rattle.sync_expand.proofs.DeclaredLemmas.{declared_back, declared_key}
use Rattle.sync_expand.proofs.Meaning.{plan_resolved}
use Rattle.gts_flatten.specs.Placing.{AreDeclared, HasTransition, IsPlanDeclared, acts, joins}

module _ (events : List DeclaredEvent) where
  transition_there : (e k : ℕ) (l : Transition ℕ) (d : EventDeclaration (Transition ℕ) ℕ)
      → Stands (declared_from 0 events) e d → Stands d.members k (One l) → HasTransition events e k
  transition_there e k l d s m =
      let b = declared_back 0 events e d s in
      let own = subst (λ (z : EventDeclaration (Transition ℕ) ℕ). Stands z.members k (One l)) b.2 m in
      let w = stands_map_back member_of b.0.ways.items k (One l) own in
      by b.0 b.1 w.0 w.1 w.2
    where
      by : (x : DeclaredEvent) → Stands events e x → (w : DeclaredWay) → Stands x.ways.items k w → member_of w ≡ One l
          → HasTransition events e k
      by x t (declared.Local guard action) u i =
          record { declared = x; stands = t; guard = guard; action = action; there = u }
      by x t (declared.Sync parts at) u i = absurd (cc)

  body_declared : (e : ℕ) (pb : PlanBody) (x : PlannedWay) (body : Body (Transition ℕ)) → x.body ≡ planned_body pb
      → x.event ≡ e → IsResolved (declared_from 0 events) x body → IsPlanDeclared events e pb
  body_declared e (planned.Local place) x body i j (plans.acts {k = k} {d = d} {l = l} b s m) =
      let both : Acts k ≡ Acts place = sym b ∙ i in
      let one : k ≡ place = cc in
      acts (transition_there e place l d (subst (λ (n : ℕ). Stands (declared_from 0 events) n d) j s)
      (subst (λ (n : ℕ). Stands d.members n (One l)) one m))
  body_declared e (planned.Local place) x body i j (plans.joins b) = absurd (let both = sym b ∙ i in cc)
  body_declared e (planned.Sync parts) x body i j h = joins

  -- each planned way is made of what is declared
  pub are_declared : (counts : List ℕ) (plan : List WayPlan)
      → map planned_of plan ≡ planned_ways counts (declared_from 0 events) → AreDeclared events plan
  are_declared counts plan is = record {
    each = λ n w s.
        let all = plan_resolved (declared_from 0 events) counts (declared_from 0 events)
        (stands_by (declared_from 0 events) (record { numbered = declared_key events })) in
        let there = subst (λ (z : List PlannedWay). Stands z n (planned_of w)) is (stands_map planned_of plan n w s) in
        let r = along_on (planned_ways counts (declared_from 0 events)) (all_bodies counts (declared_from 0 events)) all
        n (planned_of w) there in
        body_declared w.event.n w.body (planned_of w) r.0 refl refl r.2;
  }

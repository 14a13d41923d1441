-- The ways of a flat system: what they are made of, and where they stand.
use Rattle.std.proofs.Common.{◌≡◌, ℕ, ◌+◌, ◌<◌, List, map, length, slice_index, refl, sym, ◌∙◌, ap, subst, arith, inl, inr}
use Rattle.std.proofs.lemmas.Bool.{cases_lt}
use Rattle.ar_base.specs.Lists.{Stands, Along, none, one_and}
use Rattle.ar_base.proofs.Standing.{stands_one, stands_map}
use Rattle.ar_meaning.specs.Systems.{Transition}
use Rattle.ar_meaning.specs.Expand.{EventDeclaration, One}
use Rattle.ar_meaning.specs.Image.{Transition_renames}
use Rattle.ar_meaning.specs.Numbered.{Body, Acts, Joins}
use Rattle.gts_core.specs.Bound.{declared_from, declared_of, member_of, assigns_of_act}
use Rattle.gts_core.specs.View.{numbered, of_body, body_of_way, part_of}
use Rattle.gts_core.specs.declared.bound.DeclaredEvent.{DeclaredEvent}
use Rattle.gts_core.specs.declared.bound.DeclaredWay.{DeclaredWay}
use Rattle.gts_core.specs.declared.bound.DeclaredWay.TheVariants as declared
use Rattle.gts_core.specs.declared.system.Way.{Way}
use Rattle.gts_core.specs.declared.system.WayBody.{WayBody}
use Rattle.gts_core.specs.declared.system.WayBody.TheVariants.{Local}
use Rattle.gts_core.proofs.Numbering.{copy_numbered}
use Rattle.sync_expand.specs.Plans.{first_of, PlannedWay}
use Rattle.sync_expand.specs.Planned.{planned_of, planned_body, IsResolved}
use Rattle.sync_expand.specs.Planned as plans
use Rattle.sync_expand.specs.declared.plans.PlanBody.{PlanBody}
use Rattle.sync_expand.specs.declared.plans.WayPlan.{WayPlan}
use Rattle.sync_expand.proofs.DeclaredLemmas.{declared_stands}
use Rattle.sync_expand.proofs.KnownLemmas.{first_within}
use Rattle.gts_flatten.specs.Making.{IsMadeWay, IsMadeOf, acts, joins, IsTransitionOf, transition}
use Rattle.gts_flatten.proofs.EventsMade.{first_mono}
use Rattle.gts_flatten.proofs.Heights.{Body_along}
use Rattle.gts_flatten.proofs.Heights as h

-- one number
abbrev pub same : ℕ → ℕ → Type 0
same m n = m ≡ n

-- What ways are made of

module _ (events : List DeclaredEvent) where
  transition_along : (e place : ℕ) (l : Transition ℕ) (d : EventDeclaration (Transition ℕ) ℕ) (x : DeclaredEvent)
      (way : DeclaredWay) (wb : WayBody) → Stands (declared_from 0 events) e d
      → Stands d.members place (One l) → Stands events e x → Stands x.ways.items place way → IsTransitionOf way wb
      → Body_along (Transition_renames same) (Acts l) (of_body wb)
  transition_along e place l d x way wb s m t u
      (transition {guard = guard} {action = action} {copy = copy} {assigns = assigns} c a) =
      let made : Transition ℕ = record { guard = numbered guard; action = assigns_of_act action } in
      let one : d ≡ declared_of (0 + e) x =
      stands_one (declared_from 0 events) e d (declared_of (0 + e) x) s (declared_stands 0 events e x t) in
      let there = subst (λ (z : EventDeclaration (Transition ℕ) ℕ). Stands z.members place (One l)) one m in
      let here = stands_map member_of x.ways.items place (declared.Local guard action) u in
      let both : One l ≡ One made = stands_one (map member_of x.ways.items) place (One l) (One made) there here in
      let is : l ≡ made = cc in
      subst (λ (z : Transition ℕ). Body_along (Transition_renames same) (Acts z) (of_body (Local copy assigns)))
      (sym is) (h.acts (record { guard = copy_numbered guard copy c; action = a }))

  body_along : (e : ℕ) (pb : PlanBody) (wb : WayBody) (body : Body (Transition ℕ)) (x : PlannedWay)
      → x.body ≡ planned_body pb → x.event ≡ e → IsResolved (declared_from 0 events) x body
      → IsMadeOf events e pb wb → Body_along (Transition_renames same) body (of_body wb)
  body_along e pb wb body x i j (plans.acts {k = k} {d = d} {l = l} b s m) (acts {place = place} t) =
      let both : Acts k ≡ Acts place = sym b ∙ i in
      let one : k ≡ place = cc in
      transition_along e place l d t.declared t.way wb (subst (λ (n : ℕ). Stands (declared_from 0 events) n d) j s)
      (subst (λ (n : ℕ). Stands d.members n (One l)) one m) t.stands t.there t.is_transition
  body_along e pb wb body x i j (plans.joins {parts = ps} b) (joins {parts = parts} {copies = copies} k) =
      let both : Joins ps ≡ Joins (map part_of parts.items) = sym b ∙ i in
      let one : ps ≡ map part_of parts.items = cc in
      h.joins (one ∙ ap (map part_of) (sym k))
  body_along e pb wb body x i j (plans.acts b s m) (joins k) = absurd (let both = sym b ∙ i in cc)
  body_along e pb wb body x i j (plans.joins b) (acts t) = absurd (let both = sym b ∙ i in cc)

  pub bodies_along : {ps : List WayPlan} {ws : List Way} {bodies : List (Body (Transition ℕ))}
      → Along (IsMadeWay events) ps ws → Along (IsResolved (declared_from 0 events)) (map planned_of ps) bodies
      → Along (Body_along (Transition_renames same)) bodies (map body_of_way ws)
  bodies_along none none = none
  bodies_along (one_and {a = p} {b = w} k ks) (one_and {b = body} r rs) =
      one_and (body_along p.event.n p.body w.body body (planned_of p) refl refl r k.body) (bodies_along ks rs)

-- a way has one event and one number
pub place_one : (counts : List ℕ) (a b i j : ℕ) → a < length counts → b < length counts → i < slice_index counts a
    → j < slice_index counts b → first_of counts a + i ≡ first_of counts b + j
    → (a ≡ b) × (i ≡ j)
place_one counts a b i j la lb li lj e = elim (cases_lt a b) [
  | inl l ↦ (let m = first_mono counts (a + 1) b (omega (arith, l)) in let w = first_within counts a la in absurd (omega (arith, m, w, li, e)))
  | inr l ↦ elim (cases_lt b a) [
    | inl k ↦ (let m = first_mono counts (b + 1) a (omega (arith, k)) in let w = first_within counts b lb in absurd (omega (arith, m, w, lj, e)))
    | inr k ↦ (let s : a ≡ b = omega (arith, l, k) in let f : first_of counts a ≡ first_of counts b = ap (first_of counts) s in (s, omega (arith, f, e)))
  ]
]

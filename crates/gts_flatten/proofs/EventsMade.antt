-- The events of a flat system, each with the numbers of its ways.
use Rattle.std.proofs.Common.{◌≡◌, ℕ, zero, suc, ◌+◌, ◌<◌, ◌≤◌, ◌⊎◌, Bool, List, [], ◌∷◌, ◌++◌, length, map, take, slice_index, sum, refl, sym, ◌∙◌, ap, subst, inl, inr, arith, length-append}
use Rattle.std.specs.List.{range_with_len}
use Rattle.std.proofs.lemmas.Bool.{cases_lt}
use Rattle.std.proofs.lemmas.List.Sums.{sum_by-cons}
use Rattle.std.proofs.lemmas.List.{length-map}
use Rattle.ar_base.specs.Lists.{Stands}
use Rattle.ar_base.specs.Numbers.{WayId}
use Rattle.ar_base.proofs.Standing.{stands_one, stands_some, stands_within, stands_split, stands_map}
use Rattle.ar_meaning.specs.Expand.{EventDeclaration, Member, One, Synchronises}
use Rattle.ar_meaning.specs.Numbered.{Body, Joins}
use Rattle.gts_core.specs.Bound.{declared_from}
use Rattle.gts_core.specs.declared.bound.DeclaredEvent.{DeclaredEvent}
use Rattle.gts_core.specs.declared.system.Event.{Event}
use Rattle.sync_expand.specs.Counts.{AreCounts, way_count}
use Rattle.sync_expand.specs.Plans.{first_of, ways_at, bodies_by, choices_by, planned_ways}
use Rattle.sync_expand.specs.Planned.{planned_of}
use Rattle.sync_expand.specs.declared.plans.WayPlan.{WayPlan}
use Rattle.sync_expand.proofs.Capping.{read_number}
use Rattle.sync_expand.proofs.Choosing.{choices_length}
use Rattle.sync_expand.proofs.DeclaredLemmas.{declared_key, declared_length}
use Rattle.sync_expand.proofs.KnownLemmas.{first_within, first_below}
use Rattle.gts_flatten.specs.Making.{IsMadeEvent}
use Rattle.gts_flatten.specs.Placing.{IsWayRun}
use Rattle.gts_flatten.proofs.Runs.{AreLong, planned_long, placed_at}

-- as many bodies as ways are counted
bodies_long : {L M : Type 0} (act : ℕ → L → M) (counts : List ℕ) (k : ℕ) (ms : List (Member L ℕ))
    → length (bodies_by act counts k ms) ≡ way_count counts ms
bodies_long act counts k [] = refl
bodies_long act counts k (One l ∷ ms) = let i = bodies_long act counts (k + 1) ms in omega (arith, i)
bodies_long {M = M} act counts k (Synchronises parts ∷ ms) =
    let joined : List (Bool × ℕ) → Body M = Joins in
    let i = bodies_long act counts (k + 1) ms in
    let c = choices_length counts parts in
    let m : length (map joined (choices_by counts parts)) ≡ length (choices_by counts parts) =
    length-map (choices_by counts parts) joined in
    let a = length-append (map joined (choices_by counts parts)) (bodies_by act counts (k + 1) ms) in
    omega (arith, i, c, m, a)

pub long_counts : {L : Type 0} (counts : List ℕ) (ds : List (EventDeclaration L ℕ)) → AreCounts ds counts
    → AreLong counts counts ds
long_counts {L = L} counts ds a = record {
  same = a.long;
  each = λ n d s. bodies_long {L = L} {M = ℕ} (λ k l. k) counts 0 d.members
      ∙ sym (read_number counts n (way_count counts d.members) (a.each n d s));
}

-- the numbers of first ways ascend
pub first_mono : (counts : List ℕ) (a b : ℕ) → a ≤ b → first_of counts a ≤ first_of counts b
first_mono [] a b l = let h = first_below [] a in omega (arith, h)
first_mono (c ∷ cs) zero b l = omega arith
first_mono (c ∷ cs) (suc a) zero l = absurd (omega (arith, l))
first_mono (c ∷ cs) (suc a) (suc b) l =
    let i = first_mono cs a b (omega (arith, l)) in
    let e : first_of (c ∷ cs) (suc a) ≡ c + first_of cs a = sum_by-cons (λ x. x) c (take a cs) in
    let f : first_of (c ∷ cs) (suc b) ≡ c + first_of cs b = sum_by-cons (λ x. x) c (take b cs) in
    omega (arith, i, e, f)

module _ (counts : List ℕ) (declared : List DeclaredEvent) (plan : List WayPlan)
    (are : AreCounts (declared_from 0 declared) counts)
    (eq : map planned_of plan ≡ planned_ways counts (declared_from 0 declared)) where
  long : AreLong counts counts (declared_from 0 declared)
  long = long_counts counts (declared_from 0 declared) are

  pub plan_long : length plan ≡ sum counts
  plan_long = sym (length-map plan planned_of)
      ∙ (ap length eq ∙ planned_long counts counts (declared_from 0 declared) long)

  -- where a way of the plan stands
  pub planned_place : (j : ℕ) (w : WayPlan) → Stands plan j w
      → (e k : ℕ) × (e < length declared) × (j ≡ first_of counts e + k) × (k < slice_index counts e) × (w.event.n ≡ e)
      × (w.number ≡ k + 1)
  planned_place j w s =
      let p = placed_at counts counts (declared_from 0 declared) long j (planned_of w)
      (subst (λ z. Stands z j (planned_of w)) eq (stands_map planned_of plan j w s)) in
      let b = stands_within (declared_from 0 declared) p.event p.declared p.stands in
      let l = declared_length 0 declared in (
        p.event,
        p.place,
        omega (arith, b, l),
        p.there,
        p.below,
        p.is_event
            ∙ declared_key declared p.event p.declared p.stands,
        p.is_number,
      )

  -- the run of an event is all of its ways
  pub run_whole : (n first : ℕ) (ids : List WayId) → n < length declared → first ≡ first_of counts n
      → IsWayRun plan n first ids → length ids ≡ slice_index counts n
  run_whole n first ids l f r = elim (cases_lt (length ids) (slice_index counts n)) [
    | inl a ↦ absurd (too_few a)
    | inr a ↦ elim (cases_lt (slice_index counts n) (length ids))
        [ inl b ↦ absurd (too_many b) | inr b ↦ omega (arith, a, b) ]
  ]
    where
      below : n < length counts
      below = let a = are.long in let d = declared_length 0 declared in omega (arith, a, d, l)

      next : first_of counts (n + 1) ≡ first_of counts n + slice_index counts n
      next = first_within counts n below

      whole : first_of counts (n + 1) ≤ length plan
      whole = let a = first_below counts (n + 1) in let b = plan_long in omega (arith, a, b)

      inside : first ≤ length plan
      inside = let a = next in let b = whole in omega (arith, f, a, b)

      -- a way at this place is one of the event
      is_own : (e k : ℕ) → first + length ids ≡ first_of counts e + k → k < slice_index counts e
          → length ids < slice_index counts n → e ≡ n
      is_own e k j m a = elim (cases_lt e n) [
        | inl b ↦ (let c = first_mono counts (e + 1) n (omega (arith, b)) in
            let d = first_within counts e (let x = below in omega (arith, x, b)) in absurd (omega (arith, c, d, j, m, f)))
        | inr b ↦ elim (cases_lt n e) [
          | inl c ↦ (let d = first_mono counts (n + 1) e (omega (arith, c)) in let x = next in absurd (omega (arith, d, x, j, a, f)))
          | inr c ↦ omega (arith, b, c)
        ]
      ]

      too_few : length ids < slice_index counts n → ⊥
      too_few a =
          let x = next in let y = whole in
          let w = stands_some plan (first + length ids) (omega (arith, a, x, y, f)) in
          let p = planned_place (first + length ids) w.0 w.1 in
          r.next w.0 w.1 (p.5 ∙ is_own p.0 p.1 p.3 p.4 a)

      too_many : slice_index counts n < length ids → ⊥
      too_many a =
          let i = r.within inside in
          let w = stands_some plan (first + slice_index counts n) (omega (arith, a, i)) in
          let p = planned_place (first + slice_index counts n) w.0 w.1 in
          let o = r.own (first + slice_index counts n) w.0 (omega arith) (omega (arith, a)) w.1 in
          let same : p.0 ≡ n = sym p.5 ∙ o in
          let t : first + slice_index counts n ≡ first_of counts n + p.1 =
          subst (λ (e : ℕ). first + slice_index counts n ≡ first_of counts e + p.1) same p.3 in
          let b : p.1 < slice_index counts n = subst (λ (e : ℕ). p.1 < slice_index counts e) same p.4 in
          omega (arith, t, b, f)

  -- the next event begins where this one ends
  pub first_after : (n first : ℕ) (ids : List WayId) → n < length declared → first ≡ first_of counts n
      → IsWayRun plan n first ids → first + length ids ≡ first_of counts (n + 1)
  first_after n first ids l f r =
      let w = run_whole n first ids l f r in
      let b = first_within counts n (let a = are.long in let d = declared_length 0 declared in omega (arith, a, d, l)) in
      omega (arith, w, b, f)

  pub run_ways : (n first : ℕ) (ids : List WayId) → n < length declared → first ≡ first_of counts n
      → IsWayRun plan n first ids → map (λ (w : WayId). w.n) ids ≡ ways_at counts n
  run_ways n first ids l f r = r.are ∙ (ap (λ (a : ℕ). range_with_len a (length ids)) f
      ∙ ap (range_with_len (first_of counts n)) (run_whole n first ids l f r))

-- one event more
pub event_more : (counts : List ℕ) (declared : List DeclaredEvent) (old new : List Event) (n : ℕ) (d : DeclaredEvent)
    (made : Event) → length old ≡ n → Stands declared n d → IsMadeEvent counts n d made → new ≡ old ++ made ∷ []
    → ((k : ℕ) (x : DeclaredEvent) (e : Event) → Stands declared k x → Stands old k e → IsMadeEvent counts k x e)
    → (k : ℕ) (x : DeclaredEvent) (e : Event) → Stands declared k x → Stands new k e → IsMadeEvent counts k x e
event_more counts declared old new n d made l s i j all k x e t u =
    go (stands_split old (made ∷ []) k e (subst (λ z. Stands z k e) j u))
  where
    one : (m : ℕ) → Stands (made ∷ []) m e → (m ≡ 0) × (made ≡ e)
    one zero v = (refl, stands_one (made ∷ []) 0 made e refl v)
    one (suc zero) v = absurd (cc)
    one (suc (suc m)) v = absurd (cc)

    go : Stands old k e ⊎ ((m : ℕ) × (k ≡ length old + m) × Stands (made ∷ []) m e) → IsMadeEvent counts k x e
    go (inl a) = all k x e t a
    go (inr a) =
        let o = one a.0 a.2 in
        let same : k ≡ n = (let b = a.1 in let z = o.0 in omega (arith, b, z, l)) in
        let there : d ≡ x = stands_one declared n d x s (subst (λ (m : ℕ). Stands declared m x) same t) in
        subst (λ (m : ℕ). IsMadeEvent counts m x e) (sym same)
        (subst (λ (z : DeclaredEvent). IsMadeEvent counts n z e) there
        (subst (λ (z : Event). IsMadeEvent counts n d z) o.1 i))

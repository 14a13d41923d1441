-- The numbers of the ways of an event in a plan.
use Rattle.std.proofs.Common.{◌≡◌, ℕ, zero, suc, ◌+◌, ◌<◌, ◌≤◌, List, [], ◌∷◌, ◌++◌, length, map, take, get_or, slice_index, sum, refl, sym, ◌∙◌, ap, subst, inl, inr, arith, length-append}
use Rattle.std.specs.List.{range_with_len}
use Rattle.std.proofs.lemmas.List.Sums.{sum_by-cons}
use Rattle.ar_base.specs.Lists.{Stands}
use Rattle.ar_base.specs.Numbers.{WayId}
use Rattle.ar_base.proofs.Standing.{stands_one, stands_none, stands_get, stands_within, stands_split}
use Rattle.ar_base.proofs.Comparing.{lt_or_same}
use Rattle.ar_meaning.specs.Expand.{EventDeclaration}
use Rattle.ar_meaning.specs.Numbered.{Body}
use Rattle.sync_expand.specs.Plans.{PlannedWay, first_of, bodies_by, numbered_from, planned_ways, ways_of_event}
use Rattle.sync_expand.specs.declared.plans.WayPlan.{WayPlan}
use Rattle.sync_expand.proofs.Adding.{numbered_length}
use Rattle.sync_expand.proofs.WaysLemmas.{map_join}
use Rattle.gts_flatten.specs.Placing.{IsWayRun}

-- one number more
range_more : (a n : ℕ) → range_with_len a (suc n) ≡ range_with_len a n ++ (a + n) ∷ []
range_more a zero = ap (λ (k : ℕ). k ∷ []) (let h : a ≡ a + 0 = omega arith in h)
range_more a (suc n) =
    ap (λ (z : List ℕ). a ∷ z)
    (range_more (a + 1) n ∙ ap (λ (k : ℕ). range_with_len (a + 1) n ++ k ∷ []) (let h : (a + 1) + n ≡ a + suc n = omega arith in h))

numbers_of : List WayId → List ℕ
numbers_of ws = map (λ (w : WayId). w.n) ws

-- the numbers from the first up to this one are of ways of the event
pub record RunTo (plan : List WayPlan) (event first number : ℕ) (numbers : List WayId) : Type 0 where
  pub are : map (λ (w : WayId). w.n) numbers ≡ range_with_len first (length numbers)
  pub here : number ≡ first + length numbers
  pub own : (n : ℕ) (w : WayPlan) → first ≤ n → n < number → Stands plan n w → w.event.n ≡ event

module _ (plan : List WayPlan) (event first : ℕ) where
  pub run_start : (numbers : List WayId) → numbers ≡ [] → RunTo plan event first first numbers
  run_start numbers e = subst (λ (z : List WayId). RunTo plan event first first z) (sym e) (record {
    are = refl;
    here = let h : first ≡ first + 0 = omega arith in h;
    own = λ n w a b s. absurd (omega (arith, a, b));
  })

  pub run_next : (number : ℕ) (numbers new : List WayId) (id : WayId) (w : WayPlan)
      → RunTo plan event first number numbers → number < length plan → w ≡ get_or plan number w
      → (get_or plan number w).event.n ≡ event → id.n ≡ number → new ≡ numbers ++ id ∷ []
      → RunTo plan event first (number + 1) new
  run_next number numbers new id w r l e f i j =
      subst (λ (z : List WayId). RunTo plan event first (number + 1) z) (sym j) (record {
        are =
            let long : length (numbers ++ id ∷ []) ≡ suc (length numbers) = (let a = length-append numbers (id ∷ []) in omega (arith, a)) in
            map_join (λ (x : WayId). x.n) numbers (id ∷ [])
            ∙ (ap (λ (z : List ℕ). z ++ id.n ∷ []) r.are
            ∙ (ap (λ (k : ℕ). range_with_len first (length numbers) ++ k ∷ []) (i ∙ r.here)
            ∙ (sym (range_more first (length numbers)) ∙ ap (range_with_len first) (sym long))));
        here = let a = length-append numbers (id ∷ []) in let h = r.here in omega (arith, a, h);
        own = λ n x a b s. elim (lt_or_same n number (omega (arith, b))) [
          | inl c ↦ r.own n x a c s
          | inr c ↦ (let t : Stands plan number x = subst (λ (k : ℕ). Stands plan k x) c s in
              let same : get_or plan number w ≡ x =
              stands_one plan number (get_or plan number w) x (stands_get plan number w l) t in
              ap (λ (y : WayPlan). y.event.n) (sym same) ∙ f)
        ];
      })

  ends : (number : ℕ) (numbers : List WayId) → RunTo plan event first number numbers
      → (first ≤ length plan → number ≤ length plan) → ((w : WayPlan) → Stands plan number w → w.event.n ≡ event → ⊥)
      → IsWayRun plan event first numbers
  ends number numbers r within next = record {
    are = r.are;
    within = λ l. let h = r.here in let k = within l in omega (arith, h, k);
    own = λ n w a b s. r.own n w a (let h = r.here in omega (arith, h, b)) s;
    next = λ w s. next w (subst (λ (k : ℕ). Stands plan k w) (sym r.here) s);
  }

  pub run_end : (number : ℕ) (numbers : List WayId) → RunTo plan event first number numbers → length plan ≤ number
      → (first ≤ length plan → number ≤ length plan) → IsWayRun plan event first numbers
  run_end number numbers r l within = ends number numbers r within (λ w s f. let b = stands_within plan number w s in absurd (omega (arith, b, l)))

  pub run_break : (number : ℕ) (numbers : List WayId) (w : WayPlan) → RunTo plan event first number numbers
      → number < length plan → ((get_or plan number w).event.n ≡ event → ⊥) → IsWayRun plan event first numbers
  run_break number numbers w r l other =
      ends number numbers r (λ a. omega (arith, l))
      (λ x s f. other (ap (λ (y : WayPlan). y.event.n)
      (stands_one plan number (get_or plan number w) x (stands_get plan number w l) s) ∙ f))

-- Where planned ways stand

-- the way is the one of number k + 1 of the event at place e
pub record IsPlaced {L : Type 0} (counts : List ℕ) (ds : List (EventDeclaration L ℕ)) (j : ℕ)
    (w : PlannedWay) : Type 0 where
  pub event : ℕ
  pub place : ℕ
  pub declared : EventDeclaration L ℕ
  pub stands : Stands ds event declared
  pub there : j ≡ first_of counts event + place
  pub below : place < slice_index counts event
  pub is_event : w.event ≡ declared.key
  pub is_number : w.number ≡ place + 1

numbered_at : (e k : ℕ) (bs : List (Body ℕ)) (i : ℕ) (w : PlannedWay) → Stands (numbered_from e k bs) i w
    → (w.event ≡ e) × (w.number ≡ k + i)
numbered_at e k [] i w s = absurd (stands_none i w s)
numbered_at e k (b ∷ bs) zero w s =
    let same = stands_one (record { event = e; number = k; body = b } ∷ numbered_from e (k + 1) bs) 0 w
    (record { event = e; number = k; body = b }) s refl in
    (ap (λ (x : PlannedWay). x.event) same, ap (λ (x : PlannedWay). x.number) same ∙ (let h : k ≡ k + 0 = omega arith in h))
numbered_at e k (b ∷ bs) (suc i) w s = let r = numbered_at e (k + 1) bs i w s in (r.0, let f = r.1 in omega (arith, f))

-- so many ways has each event
pub record AreLong {L : Type 0} (counts rest : List ℕ) (ds : List (EventDeclaration L ℕ)) : Type 0 where
  pub same : length rest ≡ length ds
  pub each : (n : ℕ) (d : EventDeclaration L ℕ) → Stands ds n d
      → length (bodies_by {L = L} {M = ℕ} (λ k l. k) counts 0 d.members) ≡ slice_index rest n

module _ {L : Type 0} (counts : List ℕ) where
  rest_long : (c : ℕ) (rest : List ℕ) (d : EventDeclaration L ℕ) (ds : List (EventDeclaration L ℕ)) → AreLong counts (c
      ∷ rest) (d ∷ ds) → AreLong counts rest ds
  rest_long c rest d ds l = record { same = (let e = l.same in omega (arith, e)); each = λ n x t. l.each (suc n) x t }

  first_long : (c : ℕ) (rest : List ℕ) (d : EventDeclaration L ℕ) (ds : List (EventDeclaration L ℕ))
      → AreLong counts (c ∷ rest) (d ∷ ds) → length (ways_of_event counts d) ≡ c
  first_long c rest d ds l = numbered_length d.key 1 (bodies_by {L = L} {M = ℕ} (λ k x. k) counts 0 d.members)
      ∙ l.each 0 d refl

  -- so many ways are planned
  pub planned_long : (rest : List ℕ) (ds : List (EventDeclaration L ℕ)) → AreLong counts rest ds
      → length (planned_ways counts ds) ≡ sum rest
  planned_long [] [] l = refl
  planned_long (c ∷ rest) [] l = let e = l.same in absurd (omega (arith, e))
  planned_long [] (d ∷ ds) l = let e = l.same in absurd (omega (arith, e))
  planned_long (c ∷ rest) (d ∷ ds) l =
      let i = planned_long rest ds (rest_long c rest d ds l) in
      let f = first_long c rest d ds l in
      let a = length-append (ways_of_event counts d) (planned_ways counts ds) in
      let s : sum (c ∷ rest) ≡ c + sum rest = sum_by-cons (λ x. x) c rest in
      omega (arith, i, f, a, s)

  -- where a planned way stands
  pub placed_at : (rest : List ℕ) (ds : List (EventDeclaration L ℕ)) → AreLong counts rest ds → (j : ℕ) (w : PlannedWay)
      → Stands (planned_ways counts ds) j w → IsPlaced rest ds j w
  placed_at rest [] l j w s = absurd (stands_none j w s)
  placed_at [] (d ∷ ds) l j w s = let e = l.same in absurd (omega (arith, e))
  placed_at (c ∷ rest) (d ∷ ds) l j w s = elim (stands_split (ways_of_event counts d) (planned_ways counts ds) j w s) [
    | inl a ↦ here a
    | inr a ↦ later a.0 a.1 (placed_at rest ds (rest_long c rest d ds l) a.0 w a.2)
  ]
    where
      here : Stands (ways_of_event counts d) j w → IsPlaced (c ∷ rest) (d ∷ ds) j w
      here a =
          let r = numbered_at d.key 1 (bodies_by {L = L} {M = ℕ} (λ k x. k) counts 0 d.members) j w a in
          let b = stands_within (ways_of_event counts d) j w a in
          let f = first_long c rest d ds l in
          record {
            event = 0;
            place = j;
            declared = d;
            stands = refl;
            there = let h : j ≡ 0 + j = omega arith in h;
            below = let h : j < c = omega (arith, b, f) in h;
            is_event = r.0;
            is_number = let g = r.1 in omega (arith, g);
          }

      later : (k : ℕ) → j ≡ length (ways_of_event counts d) + k → IsPlaced rest ds k w
          → IsPlaced (c ∷ rest) (d ∷ ds) j w
      later k e i =
          let g : first_of (c ∷ rest) (suc i.event) ≡ c + first_of rest i.event =
          sum_by-cons (λ x. x) c (take i.event rest) in
          let f = first_long c rest d ds l in
          let t = i.there in
          record {
            event = suc i.event;
            place = i.place;
            declared = i.declared;
            stands = i.stands;
            there = omega (arith, e, g, f, t);
            below = i.below;
            is_event = i.is_event;
            is_number = i.is_number;
          }

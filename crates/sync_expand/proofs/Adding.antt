-- Ways that are added to a plan, one piece after the other.
use Rattle.std.proofs.Common.{◌≡◌, ℕ, zero, suc, ◌+◌, ◌-◌, ◌<◌, ◌≤◌, Bool, List, [], ◌∷◌, ◌++◌, length, map, take, drop, refl, sym, ◌∙◌, ap, subst, arith, length-append, append_assoc}
use Rattle.std.proofs.lemmas.List.{append-nil, length-map}
use Rattle.std.specs.List.{flat_map}
use Rattle.ar_base.specs.Lists.{Stands}
use Rattle.ar_base.proofs.Standing.{stands_none}
use Rattle.ar_meaning.specs.Expand.{EventDeclaration, Member, One, Synchronises}
use Rattle.ar_meaning.specs.Numbered.{Body, Joins}
use Rattle.ar_meaning.specs.Systems.{Transition}
use Rattle.ar_base.specs.NumbersInside.{EventId}
use Rattle.gts_core.specs.Bound.{declared_from, declared_of, event_part_of, member_of}
use Rattle.gts_core.specs.declared.bound.DeclaredEvent.{DeclaredEvent}
use Rattle.gts_core.specs.declared.bound.DeclaredWay.{DeclaredWay}
use Rattle.sync_expand.specs.Counts.{choice_count, member_count, way_count}
use Rattle.sync_expand.specs.Planning.{AddsPlannedWays, HasRoomForWays}
use Rattle.sync_expand.specs.Plans.{PlannedWay, bodies_by, choices_by, numbered_from, planned_ways, ways_of_event}
use Rattle.sync_expand.specs.Planned.{planned_of}
use Rattle.sync_expand.specs.declared.plans.WayPlan.{WayPlan}
use Rattle.sync_expand.proofs.Capping.{drop_next, drop_end, ways_next}
use Rattle.sync_expand.proofs.Choosing.{choices_length}
use Rattle.sync_expand.proofs.DeclaredLemmas.{declared_stands}
use Rattle.sync_expand.proofs.Placed.{take_next}
use Rattle.sync_expand.proofs.WaysLemmas.{map_join}

pub flat_map_join : {A B : Type 0} (f : A → List B) (xs ys : List A)
    → flat_map f (xs ++ ys) ≡ flat_map f xs ++ flat_map f ys
flat_map_join f [] ys = refl
flat_map_join {B = B} f (x ∷ xs) ys =
    ap (λ (zs : List B). f x ++ zs) (flat_map_join f xs ys) ∙ sym (append_assoc (f x) (flat_map f xs) (flat_map f ys))

pub numbered_append : (e k : ℕ) (bs cs : List (Body ℕ))
    → numbered_from e k (bs ++ cs) ≡ numbered_from e k bs ++ numbered_from e (k + length bs) cs
numbered_append e k [] cs = ap (λ (n : ℕ). numbered_from e n cs) (let h : k ≡ k + 0 = omega arith in h)
numbered_append e k (b ∷ bs) cs =
    ap (λ (ws : List PlannedWay). record { event = e; number = k; body = b } ∷ ws)
    (numbered_append e (k + 1) bs cs ∙ ap (λ (n : ℕ). numbered_from e (k + 1) bs ++ numbered_from e n cs) (let h : (k + 1) + length bs ≡ k + suc (length bs) = omega arith in h))

pub numbered_length : (e k : ℕ) (bs : List (Body ℕ)) → length (numbered_from e k bs) ≡ length bs
numbered_length e k [] = refl
numbered_length e k (b ∷ bs) = ap suc (numbered_length e (k + 1) bs)

-- the plan is that much longer
pub adds_length : (e first : ℕ) (bs : List (Body ℕ)) (old new : List WayPlan) → AddsPlannedWays e first bs old new
    → length new ≡ length old + length bs
adds_length e first bs old new a =
    let i = ap length a.is in
    let m = length-map new planned_of in
    let o = length-map old planned_of in
    let j = length-append (map planned_of old) (numbered_from e (length old - first + 1) bs) in
    let n = numbered_length e (length old - first + 1) bs in
    omega (arith, i, m, o, j, n)

pub adds_none : (e first : ℕ) (old : List WayPlan) → AddsPlannedWays e first [] old old
adds_none e first old = record { is = sym (append-nil (map planned_of old)) }

pub adds_join : (e first : ℕ) (bs cs : List (Body ℕ)) (old mid new : List WayPlan) → first ≤ length old
    → AddsPlannedWays e first bs old mid → AddsPlannedWays e first cs mid new → AddsPlannedWays e first (bs ++ cs) old new
adds_join e first bs cs old mid new l a b = record {
  is =
      let n = adds_length e first bs old mid a in
      let k : length mid - first + 1 ≡ (length old - first + 1) + length bs = omega (arith, n, l) in
      b.is ∙ (ap (λ (xs : List PlannedWay). xs ++ numbered_from e (length mid - first + 1) cs) a.is
      ∙ (ap (λ (m : ℕ). (map planned_of old ++ numbered_from e (length old - first + 1) bs) ++ numbered_from e m cs) k
      ∙ (append_assoc (map planned_of old) (numbered_from e (length old - first + 1) bs)
      (numbered_from e ((length old - first + 1) + length bs) cs)
      ∙ ap (λ (xs : List PlannedWay). map planned_of old ++ xs)
      (sym (numbered_append e (length old - first + 1) bs cs)))));
}

-- one choice more
pub adds_choice : (e first i : ℕ) (cs : List (List (Bool × ℕ))) (c : List (Bool × ℕ)) (old mid new : List WayPlan)
    → first ≤ length old → Stands cs i c → AddsPlannedWays e first (map Joins (take i cs)) old mid
    → AddsPlannedWays e first (Joins c ∷ []) mid new → AddsPlannedWays e first (map Joins (take (i + 1) cs)) old new
adds_choice e first i cs c old mid new l s a b =
    subst (λ (bs : List (Body ℕ)). AddsPlannedWays e first bs old new)
    (sym (ap (map Joins) (take_next cs i c s) ∙ map_join Joins (take i cs) (c ∷ [])))
    (adds_join e first (map Joins (take i cs)) (Joins c ∷ []) old mid new l a b)

-- the bodies of the first member, and then of the others
pub bodies_cons : {L M : Type 0} (act : ℕ → L → M) (counts : List ℕ) (k : ℕ) (m : Member L ℕ) (ms : List (Member L ℕ))
    → bodies_by act counts k (m ∷ ms) ≡ bodies_by act counts k (m ∷ []) ++ bodies_by act counts (k + 1) ms
bodies_cons act counts k (One l) ms = refl
bodies_cons act counts k (Synchronises parts) ms =
    ap (λ bs. bs ++ bodies_by act counts (k + 1) ms) (sym (append-nil (map Joins (choices_by counts parts))))

-- a member gives no more ways than all
pub member_within : (counts : List ℕ) (ways : List DeclaredWay) (i : ℕ) (w : DeclaredWay) → Stands ways i w
    → member_count counts (member_of w) ≤ way_count counts (map member_of ways)
member_within counts [] i w s = absurd (stands_none i w s)
member_within counts (v ∷ ways) zero w s =
    let e : v ≡ w = cc in
    let f = ap (λ (x : DeclaredWay). member_count counts (member_of x)) e in
    omega (arith, f)
member_within counts (v ∷ ways) (suc i) w s = let h = member_within counts ways i w s in omega (arith, h)

-- the ways of one event more
pub planned_next : {L : Type 0} (counts : List ℕ) (ds : List (EventDeclaration L ℕ)) (i : ℕ) (d : EventDeclaration L ℕ)
    → Stands ds i d → planned_ways counts (take (i + 1) ds) ≡ planned_ways counts (take i ds) ++ ways_of_event counts d
planned_next counts ds i d s =
    ap (planned_ways counts) (take_next ds i d s)
    ∙ (flat_map_join (ways_of_event counts) (take i ds) (d ∷ [])
    ∙ ap (λ (ws : List PlannedWay). planned_ways counts (take i ds) ++ ws) (append-nil (ways_of_event counts d)))

pub plan_next : (counts : List ℕ) (events : List DeclaredEvent) (i : ℕ) (d : DeclaredEvent) (e : ℕ)
    (old new : List WayPlan) → Stands events i d → e ≡ i
    → map planned_of old ≡ planned_ways counts (take i (declared_from 0 events))
    → AddsPlannedWays e (length old) (bodies_by (λ (k : ℕ) (l : Transition ℕ). k) counts 0 (map member_of d.ways.items)) old new
    → map planned_of new ≡ planned_ways counts (take (i + 1) (declared_from 0 events))
plan_next counts events i d e old new s f h a =
    let one : length old - length old + 1 ≡ 1 = omega arith in
    let key : e ≡ 0 + i = omega (arith, f) in
    a.is
    ∙ (ap (λ (n : ℕ). map planned_of old ++ numbered_from e n
    (bodies_by (λ (k : ℕ) (l : Transition ℕ). k) counts 0 (map member_of d.ways.items))) one
    ∙ (ap (λ (n : ℕ). map planned_of old ++ numbered_from n 1
    (bodies_by (λ (k : ℕ) (l : Transition ℕ). k) counts 0 (map member_of d.ways.items))) key
    ∙ (ap (λ (ws : List PlannedWay). ws ++ ways_of_event counts (declared_of (0 + i) d)) h
    ∙ sym (planned_next counts (declared_from 0 events) i (declared_of (0 + i) d) (declared_stands 0 events i d s)))))

-- what is planned of an event's first ways, and of the others
pub record EventSoFar (counts : List ℕ) (ways : List DeclaredWay) (e first i : ℕ) (old new : List WayPlan) : Type
    0 where
  pub bodies : List (Body ℕ)
  pub adds : AddsPlannedWays e first bodies old new
  pub all : bodies ++ bodies_by (λ (k : ℕ) (l : Transition ℕ). k) counts i (map member_of (drop i ways))
      ≡ bodies_by (λ (k : ℕ) (l : Transition ℕ). k) counts 0 (map member_of ways)

pub event_start : (counts : List ℕ) (ways : List DeclaredWay) (e first : ℕ) (old : List WayPlan)
    → EventSoFar counts ways e first 0 old old
event_start counts ways e first old = record { bodies = []; adds = adds_none e first old; all = refl }

pub event_next : (counts : List ℕ) (ways : List DeclaredWay) (e first i : ℕ) (w : DeclaredWay)
    (old mid new : List WayPlan) → Stands ways i w → first ≤ length old → EventSoFar counts ways e first i old mid
    → AddsPlannedWays e first (bodies_by (λ (k : ℕ) (l : Transition ℕ). k) counts i (member_of w ∷ [])) mid new
    → EventSoFar counts ways e first (i + 1) old new
event_next counts ways e first i w old mid new s low so a = record {
  bodies = so.bodies ++ bodies_by (λ (k : ℕ) (l : Transition ℕ). k) counts i (member_of w ∷ []);
  adds = adds_join e first so.bodies (bodies_by (λ (k : ℕ) (l : Transition ℕ). k) counts i (member_of w ∷ [])) old mid
      new low so.adds a;
  all = append_assoc so.bodies (bodies_by (λ (k : ℕ) (l : Transition ℕ). k) counts i (member_of w ∷ []))
      (bodies_by (λ (k : ℕ) (l : Transition ℕ). k) counts (i + 1) (map member_of (drop (i + 1) ways)))
      ∙ (ap (λ (bs : List (Body ℕ)). so.bodies ++ bs)
      (sym (bodies_cons (λ (k : ℕ) (l : Transition ℕ). k) counts i (member_of w)
      (map member_of (drop (i + 1) ways))))
      ∙ (ap (λ (ws : List DeclaredWay). so.bodies ++ bodies_by (λ (k : ℕ) (l : Transition ℕ). k) counts i
      (map member_of ws)) (sym (drop_next ways i w s)) ∙ so.all));
}

pub event_end : (counts : List ℕ) (ways : List DeclaredWay) (e first i : ℕ) (old new : List WayPlan) → length ways ≤ i
    → EventSoFar counts ways e first i old new
    → AddsPlannedWays e first (bodies_by (λ (k : ℕ) (l : Transition ℕ). k) counts 0 (map member_of ways)) old new
event_end counts ways e first i old new l so =
    let d = ap (λ (ws : List DeclaredWay). so.bodies ++ bodies_by (λ (k : ℕ) (l : Transition ℕ). k) counts i
    (map member_of ws)) (drop_end ways i l) in
    let a : so.bodies ≡ bodies_by (λ (k : ℕ) (l : Transition ℕ). k) counts 0 (map member_of ways) =
    sym (append-nil so.bodies) ∙ (sym d ∙ so.all) in
    subst (λ (bs : List (Body ℕ)). AddsPlannedWays e first bs old new) a so.adds

-- the plan is as long as before or longer
pub event_longer : (counts : List ℕ) (ways : List DeclaredWay) (e first i : ℕ) (old new : List WayPlan)
    → EventSoFar counts ways e first i old new → length old ≤ length new
event_longer counts ways e first i old new so = let h = adds_length e first so.bodies old new so.adds in omega (arith, h)

-- Room

-- members have as many bodies as ways
pub bodies_length : {L M : Type 0} (act : ℕ → L → M) (counts : List ℕ) (k : ℕ) (ms : List (Member L ℕ))
    → length (bodies_by act counts k ms) ≡ way_count counts ms
bodies_length act counts k [] = refl
bodies_length act counts k (One l ∷ ms) = let i = bodies_length act counts (k + 1) ms in omega (arith, i)
bodies_length {M = M} act counts k (Synchronises parts ∷ ms) =
    let joined : List (Bool × ℕ) → Body M = Joins in
    let i = bodies_length act counts (k + 1) ms in
    let c = choices_length counts parts in
    let m : length (map joined (choices_by counts parts)) ≡ length (choices_by counts parts) =
    length-map (choices_by counts parts) joined in
    let a = length-append (map joined (choices_by counts parts)) (bodies_by act counts (k + 1) ms) in
    omega (arith, i, c, m, a)

take_short : {A : Type 0} (n : ℕ) (xs : List A) → length (take n xs) ≤ n
take_short zero [] = omega arith
take_short (suc n) [] = omega arith
take_short zero (x ∷ xs) = omega arith
take_short (suc n) (x ∷ xs) = let h = take_short n xs in omega (arith, h)

-- there is room for one choice more
pub choices_room : (counts : List ℕ) (parts : List (Bool × EventId)) (e first place : ℕ) (old new : List WayPlan)
    → HasRoomForWays first (choice_count counts (map event_part_of parts)) old
    → place < choice_count counts (map event_part_of parts)
    → AddsPlannedWays e first (map Joins (take place (choices_by counts (map event_part_of parts)))) old new → HasRoomForWays first 1 new
choices_room counts parts e first place old new room l a =
    let chosen = take place (choices_by counts (map event_part_of parts)) in
    let joined : List (Bool × ℕ) → Body ℕ = Joins in
    let n = adds_length e first (map joined chosen) old new a in
    let m = length-map chosen joined in
    let t = take_short place (choices_by counts (map event_part_of parts)) in
    let low = room.low in
    let within = room.room in
    record { low = omega (arith, n, low); room = omega (arith, n, m, t, l, low, within) }

-- and for the ways of the next member of an event
pub event_room : (counts : List ℕ) (ways : List DeclaredWay) (e first i : ℕ) (w : DeclaredWay) (old new : List WayPlan)
    → Stands ways i w → way_count counts (map member_of ways) ≤ 256 → first ≡ length old
    → EventSoFar counts ways e (length old) i old new → HasRoomForWays first (member_count counts (member_of w)) new
event_room counts ways e first i w old new s few f so =
    let n = adds_length e (length old) so.bodies old new so.adds in
    let j = ap length so.all in
    let a = length-append so.bodies
    (bodies_by (λ (k : ℕ) (l : Transition ℕ). k) counts i (map member_of (drop i ways))) in
    let b = bodies_length (λ (k : ℕ) (l : Transition ℕ). k) counts i (map member_of (drop i ways)) in
    let d = bodies_length (λ (k : ℕ) (l : Transition ℕ). k) counts 0 (map member_of ways) in
    let g = ways_next counts ways i w s in
    record { low = omega (arith, n, f); room = omega (arith, n, f, j, a, b, d, g, few) }

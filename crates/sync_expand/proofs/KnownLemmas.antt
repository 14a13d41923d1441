-- The numbers of ways of events, counted so far and all of them.
use Rattle.std.proofs.Common.{◌≡◌, ℕ, zero, suc, ◌+◌, ◌*◌, ◌<◌, ◌≤◌, ◌⊎◌, List, [], ◌∷◌, length, map, set, sum, get_or, slice_index, below_more, min, ◌++◌, ◌^◌, length-append, refl, sym, ◌∙◌, ap, subst, inl, inr, arith}
use Rattle.std.proofs.lemmas.Bool.{cases_lt, cases_eq}
use Rattle.std.proofs.lemmas.List.{get_or_past, get_or-set_same, get_or-set_other}
use Rattle.std.proofs.lemmas.List.Sums.{sum_by-cons, sum_by_more, sum_by-take-le}
use Rattle.ar_base.specs.Lists.{Stands}
use Rattle.ar_base.proofs.Standing.{stands_one, stands_none, stands_left, stands_next}
use Rattle.ar_meaning.specs.Expand.{EventDeclaration}
use Rattle.gts_core.specs.Bound.{declared_from, declared_of, member_of}
use Rattle.gts_core.specs.declared.bound.DeclaredEvent.{DeclaredEvent}
use Rattle.sync_expand.specs.Counts.{AreCounts, AreFew, way_count}
use Rattle.sync_expand.specs.Tallies.{CountsOne, IsTallied}
use Rattle.sync_expand.specs.Counting.{greatest}
use Rattle.sync_expand.specs.Plans.{first_of}
use Rattle.sync_expand.proofs.Capping.{read_number}
use Rattle.sync_expand.proofs.DeclaredLemmas.{declared_stands}

-- the greatest number is at most what each is
pub greatest_within : (counts : List ℕ) (m : ℕ) → ((n c : ℕ) → Stands counts n c → c ≤ m) → greatest counts ≤ m
greatest_within [] m h = omega arith
greatest_within (c ∷ counts) m h =
    let a = h 0 c refl in
    let b = greatest_within counts m (λ n d s. h (suc n) d s) in
    omega (arith, a, b)

-- and each number is at most the greatest
pub below_greatest : (counts : List ℕ) (n c : ℕ) → Stands counts n c → c ≤ greatest counts
below_greatest [] n c s = absurd (stands_none n c s)
below_greatest (x ∷ counts) zero c s = let e = stands_one (x ∷ counts) 0 x c refl s in omega (arith, e)
below_greatest (x ∷ counts) (suc n) c s = let i = below_greatest counts n c s in omega (arith, i)

-- no event has more ways than the greatest
pub few_of : {L : Type 0} (ds : List (EventDeclaration L ℕ)) (counts : List ℕ) → AreCounts ds counts → greatest counts
    ≤ 256 → AreFew counts ds
few_of ds counts are l = record { few = λ d i. let b = below_greatest counts i.place (way_count counts d.members) (are.each i.place d i.stands) in omega (arith, b, l) }

-- a way of an event has a number below all ways
pub first_within : (counts : List ℕ) (n : ℕ) → n < length counts
    → first_of counts (n + 1) ≡ first_of counts n + slice_index counts n
first_within counts n l = sum_by_more (λ x. x) counts n 0 l

pub first_below : (counts : List ℕ) (n : ℕ) → first_of counts n ≤ sum counts
first_below counts n = sum_by-take-le (λ x. x) counts n

pub read_within : (counts : List ℕ) (n m : ℕ) → m < slice_index counts n → n < length counts
read_within counts n m l = elim (cases_lt n (length counts)) [
  | inl a ↦ a
  | inr a ↦ (let e : get_or counts n 0 ≡ 0 = get_or_past counts n 0 a in absurd (omega (arith, e, l)))
]

-- all ways together
pub sum_within : (counts : List ℕ) → greatest counts ≤ 256 → sum counts ≤ 256 * length counts
sum_within [] l = omega arith
sum_within (c ∷ counts) l =
    let i = sum_within counts (omega (arith, l)) in
    let e = sum_by-cons (λ x. x) c counts in
    omega (arith, i, e, l)

-- the first number of one event more
pub first_next : (counts : List ℕ) (i next after : ℕ) (old new : List ℕ) → i < length counts → next ≡ first_of counts i
    → length old ≡ i → ((k : ℕ) → k < i → Stands old k (first_of counts k)) → after ≡ next + slice_index counts i
    → new ≡ old ++ next ∷ []
    → (after ≡ first_of counts (i + 1)) × (length new ≡ i + 1)
    × ((k : ℕ) → k < i + 1 → Stands new k (first_of counts k))
first_next counts i next after old new within n l each a g = (
  (let f = first_within counts i within in omega (arith, f, n, a)),
  (let h = ap length g in let j = length-append old (next ∷ []) in omega (arith, h, j, l)),
  below_more (λ (k : ℕ). Stands new k (first_of counts k)) i
      (λ k b. subst (λ (xs : List ℕ). Stands xs k (first_of counts k)) (sym g)
      (stands_left old (next ∷ []) k (first_of counts k) (each k b)))
      (subst (λ (xs : List ℕ). Stands xs i (first_of counts i)) (sym g)
      (subst (λ (m : ℕ). Stands (old ++ next ∷ []) m (first_of counts i)) l
      (subst (λ (m : ℕ). Stands (old ++ next ∷ []) (length old) m) n (stands_next old next [])))),
)

-- the numbers of an event's ways fit
pub first_fits : (counts : List ℕ) (i : ℕ) → sum counts < 2 ^ 32 → i < length counts
    → first_of counts i + slice_index counts i < 2 ^ 32
first_fits counts i small l =
    let f = first_within counts i l in
    let b = first_below counts (i + 1) in
    omega (arith, f, b, small)

-- an event is counted whose parts are counted
pub count_big : (counts : List ℕ) (events : List DeclaredEvent) (n : ℕ) (d : DeclaredEvent) (count : ℕ)
    → Stands events n d → AreCounts (declared_from 0 events) counts
    → count ≡ min 257 (way_count counts (map member_of d.ways.items)) → 257 ≤ count → 256 < greatest counts
count_big counts events n d count s are e l =
    let g = below_greatest counts n (way_count counts (map member_of d.ways.items))
    (are.each n (declared_of (0 + n) d) (declared_stands 0 events n d s)) in
    omega (arith, g, e, l)

pub count_small : (counts : List ℕ) (events : List DeclaredEvent) (found : List ℕ) (n : ℕ) (d : DeclaredEvent)
    (count : ℕ) → Stands events n d → AreCounts (declared_from 0 events) counts → n < length found
    → count ≡ min 257 (way_count counts (map member_of d.ways.items)) → count < 257
    → CountsOne counts n found (set found n count)
count_small counts events found n d count s are within e l = record { here = here; kept = kept }
  where
    same : slice_index counts n ≡ way_count counts (map member_of d.ways.items)
    same = read_number counts n (way_count counts (map member_of d.ways.items))
        (are.each n (declared_of (0 + n) d) (declared_stands 0 events n d s))

    here : IsTallied counts (set found n count) n
    here = record {
      right = let g = get_or-set_same found n count 0 within in omega (arith, g, same, e, l);
      small = omega (arith, same, e, l);
    }

    kept : (k : ℕ) → IsTallied counts found k → IsTallied counts (set found n count) k
    kept k h = elim (cases_eq k n) [
      | inl i ↦ subst (λ (m : ℕ). IsTallied counts (set found n count) m) (sym i) here
      | inr i ↦ record { right = get_or-set_other found n k count 0 i ∙ h.right; small = h.small }
    ]

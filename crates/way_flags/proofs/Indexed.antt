-- The pairs of an index.
use Rattle.std.proofs.Common.{◌≡◌, ◌<◌, ◌≤◌, ◌+◌, ◌⊎◌, ◌↔◌, ℕ, zero, suc, Bool, List, [], ◌∷◌, ◌++◌, length, set, inl, inr, refl, sym, ap, subst, arith}
use Rattle.std.specs.List.Sorted.{IsPermutation}
use Rattle.std.proofs.lemmas.List.Sorted.{Contains-permutation, IsPermutation-sym}
use Rattle.ar_base.specs.Lists.{Stands, IsOneOf}
use Rattle.ar_base.specs.Numbers.{WayId}
use Rattle.ar_base.proofs.Standing.{stands_within, stands_one, stands_none, only_item, one_contains, contains_one, at_most, one_left}
use Rattle.ar_base.proofs.Items.{one_last, last_cases}
use Rattle.gts_core.specs.declared.system.Way.{Way}
use Rattle.gts_core.specs.declared.system.GtsParts.{GtsParts}
use Rattle.way_flags.specs.Ways.{parts_of, IsWayOrder}
use Rattle.way_flags.specs.Renewing.{IsPlaceWith}
use Rattle.way_flags.specs.Index.{IsPlacedAt, WayGuardNames, AreGuards, IsWholeOf, AreAbove, AddsGuards, IsPartPair, AddsParts, ArePlacedUpTo, IsWayIndex}
use Rattle.way_flags.specs.declared.index.WayIndex.{WayIndex}
use Rattle.ar_base.specs.Pairing.{IsPaired}

module _ (p : GtsParts) where
  pub guards_start : AreGuards p 0 []
  guards_start = record {
    only = λ q o. absurd (stands_none o.place q o.stands);
    all = λ k w x h. absurd (omega (arith, h));
  }

  pub guards_more : (i : ℕ) (way : Way) (old new : List (ℕ × ℕ)) → Stands p.ways.items i way → AreGuards p i old
      → AddsGuards way.body i old new → AreGuards p (i + 1) new
  guards_more i way old new here before adds = record {
    only = λ q o. elim (adds.only q o) [
      | inl k ↦ before.only q k
      | inr r ↦ record {
        way = way;
        stands = subst (λ (z : ℕ). Stands p.ways.items z way) (sym r.second) here;
        variable = r.variable;
        names = r.has;
        number = sym r.first;
      }
    ];
    all = λ k w x below st n. elim (at_most k i below) [
      | inl l ↦ adds.grows (x.n, k) (before.all k w x l st n)
      | inr e ↦ (
          let same : w ≡ way = stands_one p.ways.items i w way (subst (λ (z : ℕ). Stands p.ways.items z w) e st) here in
          subst (λ (z : ℕ). IsOneOf new (x.n, z)) (sym e)
          (adds.all x (subst (λ (z : Way). WayGuardNames z.body x) same n)))
    ];
  }

  pub guards_all : (i : ℕ) (pairs : List (ℕ × ℕ)) → length p.ways.items ≤ i → AreGuards p i pairs
      → AreGuards p (length p.ways.items) pairs
  guards_all i pairs h are = record { only = are.only; all = λ k w x below. are.all k w x (omega (arith, below, h)) }

  pub guards_moved : (pairs moved : List (ℕ × ℕ)) → AreGuards p (length p.ways.items) pairs
      → ((q : ℕ × ℕ) → (IsOneOf moved q ↔ IsOneOf pairs q)) → AreGuards p (length p.ways.items) moved
  guards_moved pairs moved are same =
      record {
        only = λ q o. are.only q ((same q).0 o);
        all = λ k w x below st n. (same (x.n, k)).1 (are.all k w x below st n);
      }

  pub above_start : AreAbove p 0 []
  above_start = record {
    only = λ n k o. absurd (stands_none o.place (n, k) o.stands);
    all = λ n k h. absurd (omega (arith, h));
  }

  pub above_more : (i : ℕ) (way : Way) (old new : List (ℕ × ℕ)) → Stands p.ways.items i way → AreAbove p i old
      → AddsParts (parts_of way.body) i old new → AreAbove p (i + 1) new
  above_more i way old new here before adds = record {
    only = λ n k o. elim (adds.only (n, k) o) [ inl q ↦ before.only n k q | inr r ↦ now n k r ];
    all = λ n k below h. elim (at_most k i below) [
      | inl l ↦ adds.grows (n, k) (before.all n k l h)
      | inr e ↦ (
          let same : h.has.way ≡ way = stands_one p.ways.items i h.has.way way
          (subst (λ (z : ℕ). Stands p.ways.items z h.has.way) e h.has.stands) here in
          subst (λ (z : ℕ). IsOneOf new (z, k)) h.number
          (subst (λ (z : ℕ). IsOneOf new (h.part.1.n, z)) (sym e)
          (adds.all h.part (subst (λ (z : Way). IsOneOf (parts_of z.body) h.part) same h.has.is_part))))
    ];
  }
    where
      now : (n k : ℕ) → IsPartPair (parts_of way.body) i (n, k) → IsWholeOf p n k
      now n k r = record {
        part = r.part;
        has = record {
          way = way;
          stands = subst (λ (z : ℕ). Stands p.ways.items z way) (sym r.second) here;
          is_part = r.is_part;
        };
        number = sym r.first;
      }

  pub above_all : (i : ℕ) (pairs : List (ℕ × ℕ)) → length p.ways.items ≤ i → AreAbove p i pairs
      → AreAbove p (length p.ways.items) pairs
  above_all i pairs h are = record { only = are.only; all = λ n k below q. are.all n k (omega (arith, below, h)) q }

  pub above_moved : (pairs moved : List (ℕ × ℕ)) → AreAbove p (length p.ways.items) pairs
      → ((q : ℕ × ℕ) → (IsOneOf moved q ↔ IsOneOf pairs q)) → AreAbove p (length p.ways.items) moved
  above_moved pairs moved are same = record
      { only = λ n k o. are.only n k ((same (n, k)).0 o); all = λ n k below h. (same (n, k)).1 (are.all n k below h) }

-- pairs in another order are the same ones
pub same_pairs : (pairs moved : List (ℕ × ℕ)) → IsPermutation pairs moved → (q : ℕ × ℕ)
    → (IsOneOf moved q ↔ IsOneOf pairs q)
same_pairs pairs moved perm q = (
  λ o. one_contains pairs q (Contains-permutation moved pairs q (IsPermutation-sym pairs moved perm)
      (contains_one moved q o)),
  λ o. one_contains moved q (Contains-permutation pairs moved q perm (contains_one pairs q o)),
)

-- places, one more of them written
pub places_start : (order : List WayId) (places : List ℕ) → ArePlacedUpTo order 0 places
places_start order places = record { placed = λ k id place h. absurd (omega (arith, h)) }

set_length : (xs : List ℕ) (n v : ℕ) → length (set xs n v) ≡ length xs
set_length [] zero v = refl
set_length [] (suc n) v = refl
set_length (x ∷ xs) zero v = refl
set_length (x ∷ xs) (suc n) v = ap suc (set_length xs n v)

set_at : (xs : List ℕ) (n m v w : ℕ) → Stands (set xs n v) m w → ((m ≡ n) × (w ≡ v)) ⊎ ((m ≡ n → ⊥) × Stands xs m w)
set_at [] zero m v w st = absurd (stands_none m w st)
set_at [] (suc n) m v w st = absurd (stands_none m w st)
set_at (x ∷ xs) zero zero v w st = inl (refl, sym (only_first v w st))
  where
    only_first : (a b : ℕ) → Stands (a ∷ xs) 0 b → a ≡ b
    only_first a b h = cc
set_at (x ∷ xs) zero (suc m) v w st = inr ((λ e. omega (arith, e)), st)
set_at (x ∷ xs) (suc n) zero v w st = inr ((λ e. omega (arith, e)), st)
set_at (x ∷ xs) (suc n) (suc m) v w st = elim (set_at xs n m v w st) [
  | inl h ↦ inl (ap suc h.0, h.1)
  | inr h ↦ inr ((λ e. h.0 (omega (arith, e))), h.1)
]

pub places_more : (order : List WayId) (i : ℕ) (id : WayId) (places : List ℕ) → Stands order i id
    → ArePlacedUpTo order i places → ArePlacedUpTo order (i + 1) (set places id.n i)
places_more order i id places here before =
    record { placed = λ k a place below st at. go k a place below st (set_at places id.n a.n i place at) }
  where
    mine : (a : WayId) (place : ℕ) → a.n ≡ id.n → place ≡ i → IsPlacedAt order a.n place
    mine a place e f = record { id = id; at = subst (λ (z : ℕ). Stands order z id) (sym f) here; number = sym e }

    go : (k : ℕ) (a : WayId) (place : ℕ) → k < i + 1 → Stands order k a
        → ((a.n ≡ id.n) × (place ≡ i)) ⊎ ((a.n ≡ id.n → ⊥) × Stands places a.n place) → IsPlacedAt order a.n place
    go k a place below st (inl h) = mine a place h.0 h.1
    go k a place below st (inr h) = elim (at_most k i below) [
      | inl l ↦ before.placed k a place l st h.1
      | inr e ↦ absurd (h.0 (ap (λ (z : WayId). z.n)
          (stands_one order i a id (subst (λ (z : ℕ). Stands order z a) e st) here)))
    ]

-- a way that is outside the list of places leaves it
pub places_past : (order : List WayId) (i : ℕ) (id : WayId) (places : List ℕ) → Stands order i id → length places ≤ id.n
    → ArePlacedUpTo order i places → ArePlacedUpTo order (i + 1) places
places_past order i id places here out before = record {
  placed = λ k a place below st at. elim (at_most k i below) [
    | inl l ↦ before.placed k a place l st at
    | inr e ↦ (
        let same : a ≡ id = stands_one order i a id (subst (λ (z : ℕ). Stands order z a) e st) here in
        let h = stands_within places a.n place at in
        absurd (omega (arith, h, out, ap (λ (z : WayId). z.n) same)))
  ];
}

pub places_all : (order : List WayId) (i : ℕ) (places : List ℕ) → length order ≤ i → ArePlacedUpTo order i places
    → ArePlacedUpTo order (length order) places
places_all order i places h are = record
    { placed = λ k id place below. are.placed k id place (omega (arith, below, h)) }

-- the pairs of parts, one after the other
pub parts_none : (place : ℕ) (pairs : List (ℕ × ℕ)) → AddsParts [] place pairs pairs
parts_none place pairs = record {
  grows = λ q o. o;
  only = λ q o. inl o;
  all = λ part o. absurd (stands_none o.place part o.stands);
}

pub parts_more : (parts : List (Bool × WayId)) (part : Bool × WayId) (place : ℕ) (first old new : List (ℕ × ℕ))
    → AddsParts parts place first old → new ≡ old ++ (part.1.n, place) ∷ []
    → AddsParts (parts ++ part ∷ []) place first new
parts_more parts part place first old new a e = record {
  grows = λ q o. back q (one_left old ((part.1.n, place) ∷ []) q (a.grows q o));
  only = λ q o. elim (last_cases old (part.1.n, place) q (subst (λ (z : List (ℕ × ℕ)). IsOneOf z q) e o)) [
    | inl k ↦ (elim (a.only q k) [
      | inl h ↦ inl h
      | inr r ↦ inr (record {
        part = r.part;
        is_part = one_left parts (part ∷ []) r.part r.is_part;
        first = r.first;
        second = r.second;
      })
    ])
    | inr i ↦ inr (record {
      part = part;
      is_part = one_last parts part;
      first = ap (λ (z : ℕ × ℕ). z.0) (sym i);
      second = ap (λ (z : ℕ × ℕ). z.1) (sym i);
    })
  ];
  all = λ r o. elim (last_cases parts part r o) [
    | inl k ↦ back (r.1.n, place) (one_left old ((part.1.n, place) ∷ []) (r.1.n, place) (a.all r k))
    | inr i ↦ subst (λ (z : Bool × WayId). IsOneOf new (z.1.n, place)) i
        (back (part.1.n, place) (one_last old (part.1.n, place)))
  ];
}
  where
    back : (q : ℕ × ℕ) → IsOneOf (old ++ (part.1.n, place) ∷ []) q → IsOneOf new q
    back q o = subst (λ (z : List (ℕ × ℕ)). IsOneOf z q) (sym e) o

-- the numbers that stand in pairs are those of ways
module _ (p : GtsParts) (index : WayIndex) (ix : IsWayIndex p index) where
  pub guard_within : (firsts : List ℕ) (n : ℕ) → IsPaired index.guards.pairs.items firsts n
      → n < length index.places.items
  guard_within firsts n r =
      let g = ix.guards.only (r.first, n) r.pair in
      let h = stands_within p.ways.items n g.way g.stands in
      omega (arith, h, ix.long)

  pub above_within : (firsts : List ℕ) (n : ℕ) → IsPaired index.above.pairs.items firsts n
      → n < length index.places.items
  above_within firsts n r =
      let a = ix.above.only r.first n r.pair in
      let h = stands_within p.ways.items n a.has.way a.has.stands in
      omega (arith, h, ix.long)

-- the ways above one way
pub above_added : (above : List (ℕ × ℕ)) (places ways listed : List ℕ) (shown : List ℕ) (w : ℕ) (Old New : ℕ → Type 0)
    → ways ≡ listed → places ≡ shown → ((n : ℕ) → (IsOneOf listed n ↔ IsPaired above (w ∷ []) n))
    → ((q : ℕ) → (New q ↔ (Old q ⊎ IsPlaceWith places (IsOneOf ways) q))) → (q : ℕ)
    → (New q ↔ (Old q ⊎ IsPlaceWith shown (λ n. IsOneOf above (w, n)) q))
above_added above places ways listed shown w Old New f g each adds q = (there, back)
  where
    there : New q → Old q ⊎ IsPlaceWith shown (λ n. IsOneOf above (w, n)) q
    there h = elim ((adds q).0 h) [
      | inl o ↦ inl o
      | inr r ↦ (
          let k = (each r.n).0 (subst (λ (z : List ℕ). IsOneOf z r.n) f r.has) in
          inr (record {
            n = r.n;
            has = subst (λ (z : ℕ). IsOneOf above (z, r.n)) (sym (only_item w k.first k.is_one))
                k.pair;
            stands = subst (λ (z : List ℕ). Stands z r.n q) g r.stands;
          }))
    ]

    back : Old q ⊎ IsPlaceWith shown (λ n. IsOneOf above (w, n)) q → New q
    back h = elim h [
      | inl o ↦ (adds q).1 (inl o)
      | inr r ↦ (
          let k : IsPaired above (w ∷ []) r.n =
          record { first = w; is_one = record { place = 0; stands = refl }; pair = r.has } in
          (adds q).1 (inr (record {
            n = r.n;
            has = subst (λ (z : List ℕ). IsOneOf z r.n) (sym f) ((each r.n).1 k);
            stands = subst (λ (z : List ℕ). Stands z r.n q) (sym g) r.stands;
          })))
    ]

-- each way has a place at which it stands
pub all_placed : (p : GtsParts) (order shown : List WayId) (places : List ℕ) → shown ≡ order → IsWayOrder p order
    → length places ≡ length p.ways.items → ArePlacedUpTo shown (length shown) places → (n place : ℕ)
    → Stands places n place → IsPlacedAt order n place
all_placed p order shown places e is long are n place st =
    let at = is.all n (let h = stands_within places n place st in omega (arith, h, long)) in
    let now = subst (λ (z : List WayId). ArePlacedUpTo z (length z) places) e are in
    subst (λ (z : ℕ). IsPlacedAt order z place) at.3
    (now.placed at.0 at.1 place (stands_within order at.0 at.1 at.2) at.2
    (subst (λ (z : ℕ). Stands places z place) (sym at.3) st))

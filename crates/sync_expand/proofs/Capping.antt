-- Counts that stop at a limit.
use Rattle.std.proofs.Common.{◌≡◌, ◌<◌, ◌≤◌, ◌+◌, ◌*◌, ℕ, zero, suc, min, Bool, List, [], ◌∷◌, length, map, drop, get_or, slice_index, refl, sym, ◌∙◌, ap, subst, inl, inr, arith, drop-cons}
use Rattle.std.proofs.Math.Nat.{mul-le-mul_left, mul-le-mul_right}
use Rattle.std.proofs.lemmas.Bool.{cases_lt}
use Rattle.ar_base.specs.Lists.{Stands}
use Rattle.ar_base.specs.NumbersInside.{EventId}
use Rattle.ar_base.proofs.Standing.{stands_one, stands_get, stands_within}
use Rattle.gts_core.specs.Bound.{event_part_of, member_of}
use Rattle.std.proofs.Common.{Vec}
use Rattle.std.specs.Global.{Global}
use Rattle.ar_base.specs.declared.places.Place.{Place}
use Rattle.gts_core.specs.declared.bound.DeclaredWay.{DeclaredWay}
use Rattle.gts_core.specs.declared.bound.DeclaredWay.TheVariants.{Sync}
use Rattle.sync_expand.specs.Counts.{choice_count, member_count, way_count, member_parts, parts_given}

-- a product whose first factor stops at k stops there as the whole one does
pub cap_mul : (k p r : ℕ) → min k (min k p * r) ≡ min k (p * r)
cap_mul k p zero = let a : min k p * 0 ≡ 0 = omega arith in let b : p * 0 ≡ 0 = omega arith in ap (min k) (a ∙ sym b)
cap_mul k p (suc r) = elim (cases_lt k p) [
  | inl l ↦ over l
  | inr l ↦ (let e : min k p ≡ p = omega (arith, l) in ap (λ (z : ℕ). min k (z * suc r)) e)
]
  where
    over : k < p → min k (min k p * suc r) ≡ min k (p * suc r)
    over l =
        let e : min k p ≡ k = omega (arith, l) in
        let a : k * 1 ≤ k * suc r = mul-le-mul_left k (let h : 1 ≤ suc r = omega arith in h) in
        let b : k * suc r ≤ p * suc r = mul-le-mul_right (suc r) (let h : k ≤ p = omega (arith, l) in h) in
        let first : min k (k * suc r) ≡ k = omega (arith, a) in
        let second : min k (p * suc r) ≡ k = omega (arith, a, b) in
        ap (λ (z : ℕ). min k (z * suc r)) e ∙ (first ∙ sym second)

-- one factor more, where numbers end at top
pub cap_step : (k top m n p c r : ℕ) → k ≤ top → n ≡ min k (min top (m * c)) → min k (m * (c * r)) ≡ p
    → min k (n * r) ≡ p
cap_step k top m n p c r l e h =
    let f : n ≡ min k (m * c) = omega (arith, e, l) in
    ap (λ (z : ℕ). min k (z * r)) f ∙ (cap_mul k (m * c) r ∙ (ap (min k) (assoc m c r) ∙ h))
  where
    assoc : (a b d : ℕ) → (a * b) * d ≡ a * (b * d)
    assoc a b d = grind arith

-- one summand more
pub cap_sum : (k top m n p c r : ℕ) → k ≤ top → n ≡ min k (min top (m + min k c)) → min k (m + (c + r)) ≡ p
    → min k (n + r) ≡ p
cap_sum k top m n p c r l e h = omega (arith, l, e, h)

module _ {A : Type 0} where
  -- the list from an index on begins with its item
  pub drop_next : (xs : List A) (i : ℕ) (a : A) → Stands xs i a → drop i xs ≡ a ∷ drop (i + 1) xs
  drop_next xs i a s =
      let h = stands_within xs i a s in
      let e : get_or xs i a ≡ a = stands_one xs i (get_or xs i a) a (stands_get xs i a h) s in
      let f : drop i xs ≡ get_or xs i a ∷ drop (suc i) xs = drop-cons xs i a h in
      let g : suc i ≡ i + 1 = omega arith in
      f ∙ (ap (λ (b : A). b ∷ drop (suc i) xs) e ∙ ap (λ (n : ℕ). a ∷ drop n xs) g)

  -- nothing is left behind the end
  pub drop_end : (xs : List A) (i : ℕ) → length xs ≤ i → drop i xs ≡ []
  drop_end [] zero h = refl
  drop_end [] (suc i) h = refl
  drop_end (x ∷ xs) zero h = absurd (omega (arith, h))
  drop_end (x ∷ xs) (suc i) h = drop_end xs i (omega (arith, h))

-- what stands among numbers is read there
pub read_number : (xs : List ℕ) (n c : ℕ) → Stands xs n c → slice_index xs n ≡ c
read_number xs n c s = stands_one xs n (get_or xs n 0) c (stands_get xs n 0 (stands_within xs n c s)) s

module _ (counts : List ℕ) where
  pub choices_next : (parts : List (Bool × EventId)) (i : ℕ) (p : Bool × EventId) → Stands parts i p
      → choice_count counts (map event_part_of (drop i parts))
      ≡ slice_index counts p.1.n * choice_count counts (map event_part_of (drop (i + 1) parts))
  choices_next parts i p s = ap (λ (ps : List (Bool × EventId)). choice_count counts (map event_part_of ps))
      (drop_next parts i p s)

  pub choices_end : (parts : List (Bool × EventId)) (i : ℕ) → length parts ≤ i
      → choice_count counts (map event_part_of (drop i parts)) ≡ 1
  choices_end parts i h = ap (λ (ps : List (Bool × EventId)). choice_count counts (map event_part_of ps))
      (drop_end parts i h)

  pub ways_next : (ways : List DeclaredWay) (i : ℕ) (w : DeclaredWay) → Stands ways i w
      → way_count counts (map member_of (drop i ways))
      ≡ member_count counts (member_of w) + way_count counts (map member_of (drop (i + 1) ways))
  ways_next ways i w s = ap (λ (ws : List DeclaredWay). way_count counts (map member_of ws)) (drop_next ways i w s)

  pub ways_end : (ways : List DeclaredWay) (i : ℕ) → length ways ≤ i
      → way_count counts (map member_of (drop i ways)) ≡ 0
  ways_end ways i h = ap (λ (ws : List DeclaredWay). way_count counts (map member_of ws)) (drop_end ways i h)

  pub parts_next : (ways : List DeclaredWay) (i : ℕ) (w : DeclaredWay) → Stands ways i w
      → parts_given counts (map member_of (drop i ways))
      ≡ member_parts counts (member_of w) + parts_given counts (map member_of (drop (i + 1) ways))
  parts_next ways i w s = ap (λ (ws : List DeclaredWay). parts_given counts (map member_of ws)) (drop_next ways i w s)

  pub parts_end : (ways : List DeclaredWay) (i : ℕ) → length ways ≤ i
      → parts_given counts (map member_of (drop i ways)) ≡ 0
  parts_end ways i h = ap (λ (ws : List DeclaredWay). parts_given counts (map member_of ws)) (drop_end ways i h)

-- the parts of the ways of a synchronisation
pub parts_of_sync : (counts : List ℕ) (way : DeclaredWay) (parts : Vec (Bool × EventId) Global) (at : Place)
    (n m l r : ℕ) → way ≡ Sync parts at → member_count counts (member_of way) ≤ 256
    → n ≡ min 257 (choice_count counts (map event_part_of parts.items)) → m ≡ n → l ≡ length parts.items
    → r ≡ min (min (m * l) 18446744073709551615) 1000001
    → r ≡ min 1000001 (member_parts counts (member_of way))
parts_of_sync counts way parts at n m l r e few i j k h =
    let few' : choice_count counts (map event_part_of parts.items) ≤ 256 =
    subst (λ (w : DeclaredWay). member_count counts (member_of w) ≤ 256) e few in
    let a : m ≡ choice_count counts (map event_part_of parts.items) = omega (arith, i, j, few') in
    let b : l ≡ length (map event_part_of parts.items) = k ∙ sym (mapped parts.items) in
    let g : m * l ≡ choice_count counts (map event_part_of parts.items) * length (map event_part_of parts.items) =
    ap (λ (x : ℕ). x * l) a ∙ ap (λ (x : ℕ). choice_count counts (map event_part_of parts.items) * x) b in
    let q : r ≡ min 1000001 (choice_count counts (map event_part_of parts.items) * length
    (map event_part_of parts.items)) = omega (arith, g, h) in
    q ∙ ap (λ (w : DeclaredWay). min 1000001 (member_parts counts (member_of w))) (sym e)
  where
    mapped : (ps : List (Bool × EventId)) → length (map event_part_of ps) ≡ length ps
    mapped [] = refl
    mapped (p ∷ ps) = ap suc (mapped ps)

-- the choices with one part more
pub choice_step : (counts : List ℕ) (parts : List (Bool × EventId)) (i : ℕ) (p : Bool × EventId)
    (count product after q : ℕ) → Stands parts i p → slice_index counts p.1.n ≡ count
    → after ≡ min (min (product * count) 4294967295) 257
    → min 257 (product * choice_count counts (map event_part_of (drop i parts))) ≡ q
    → min 257 (after * choice_count counts (map event_part_of (drop (i + 1) parts))) ≡ q
choice_step counts parts i p count product after q s r a h =
    let e : choice_count counts (map event_part_of (drop i parts))
    ≡ count * choice_count counts (map event_part_of (drop (i + 1) parts)) =
    choices_next counts parts i p s ∙ ap (λ (n : ℕ). n * choice_count counts (map event_part_of (drop (i + 1) parts)))
    r in
    cap_step 257 4294967295 product after q count (choice_count counts (map event_part_of (drop (i + 1) parts)))
    (omega arith) (omega (arith, a)) (ap (λ (n : ℕ). min 257 (product * n)) (sym e) ∙ h)

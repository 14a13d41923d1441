-- The choice at a place in lexicographic order.
use Rattle.std.proofs.Common.{◌≡◌, ◌<◌, ◌≤◌, ◌+◌, ◌*◌, ◌/◌, ◌%◌, ℕ, zero, suc, Bool, List, [], ◌∷◌, ◌++◌, length, map, drop, slice_index, refl, sym, ◌∙◌, ap, subst, arith, inl, inr, length-append}
use Rattle.std.proofs.Math.Nat.{mul-le-mul_left}
use Rattle.std.proofs.lemmas.Bool.{cases_lt}
use Rattle.std.proofs.lemmas.List.{length-map}
use Rattle.std.specs.List.{flat_map, range_with_len}
use Rattle.ar_base.specs.Lists.{Stands}
use Rattle.ar_base.proofs.Standing.{stands_left, stands_right, stands_map}
use Rattle.sync_expand.specs.Counts.{choice_count}
use Rattle.ar_base.specs.Numbers.{WayId}
use Rattle.ar_base.specs.NumbersInside.{EventId}
use Rattle.gts_core.specs.Bound.{event_part_of}
use Rattle.gts_core.specs.View.{part_of}
use Rattle.sync_expand.specs.Plans.{choices_by, first_of}
use Rattle.sync_expand.proofs.Capping.{drop_next, drop_end, choices_next, choices_end}

module _ {A B : Type 0} (f : ℕ → A → B) (cs : List A) where
  -- in blocks, one for each number, the items of a block stand behind those of the blocks before it
  pub block_stands : (first count q r : ℕ) (a : A) → q < count → Stands cs r a
      → Stands (flat_map (λ n. map (f n) cs) (range_with_len first count)) (q * length cs + r) (f (first + q) a)
  block_stands first zero q r a l s = absurd (omega (arith, l))
  block_stands first (suc count) zero r a l s =
      let here : Stands (map (f first) cs ++ flat_map (λ n. map (f n) cs) (range_with_len (first + 1) count)) r
      (f first a) =
      stands_left (map (f first) cs) (flat_map (λ n. map (f n) cs) (range_with_len (first + 1) count)) r (f first a)
      (stands_map (f first) cs r a s) in
      let e : r ≡ 0 * length cs + r = omega arith in
      let g : first ≡ first + 0 = omega arith in
      subst (λ (n : ℕ). Stands (flat_map (λ n. map (f n) cs) (range_with_len first (suc count))) n (f (first + 0) a)) e
      (subst (λ (m : ℕ). Stands (flat_map (λ n. map (f n) cs) (range_with_len first (suc count))) r (f m a)) g here)
  block_stands first (suc count) (suc q) r a l s =
      let rest = block_stands (first + 1) count q r a (omega (arith, l)) s in
      let e : suc q * length cs + r ≡ length (map (f first) cs) + (q * length cs + r) =
      omega (arith, length-map cs (f first)) in
      let g : first + 1 + q ≡ first + suc q = omega arith in
      subst (λ (m : ℕ). Stands (flat_map (λ n. map (f n) cs) (range_with_len first (suc count))) (suc q * length cs + r)
      (f m a)) g
      (stands_right (map (f first) cs) (flat_map (λ n. map (f n) cs) (range_with_len (first + 1) count))
      (q * length cs + r) (suc q * length cs + r) (f (first + 1 + q) a) e rest)

  pub block_length : (first count : ℕ)
      → length (flat_map (λ n. map (f n) cs) (range_with_len first count)) ≡ count * length cs
  block_length first zero = omega arith
  block_length first (suc count) =
      let i = block_length (first + 1) count in
      let a = length-append (map (f first) cs) (flat_map (λ n. map (f n) cs) (range_with_len (first + 1) count)) in
      let m = length-map cs (f first) in
      omega (arith, i, a, m)

module _ (counts : List ℕ) where
  -- there are as many choices as the product of the parts' numbers of ways
  pub choices_length : (ps : List (Bool × ℕ)) → length (choices_by counts ps) ≡ choice_count counts ps
  choices_length [] = refl
  choices_length (p ∷ ps) =
      block_length (λ n c. (p.0, n) ∷ c) (choices_by counts ps) (first_of counts p.1) (slice_index counts p.1)
      ∙ ap (λ (m : ℕ). slice_index counts p.1 * m) (choices_length ps)

  -- a way of the first part and a choice for the others
  pub choice_stands : (p : Bool × ℕ) (ps : List (Bool × ℕ)) (q r : ℕ) (c : List (Bool × ℕ)) → q < slice_index counts p.1
      → Stands (choices_by counts ps) r c
      → Stands (choices_by counts (p ∷ ps)) (q * choice_count counts ps + r) ((p.0, first_of counts p.1 + q) ∷ c)
  choice_stands p ps q r c l s =
      subst (λ (m : ℕ). Stands (choices_by counts (p ∷ ps)) (q * m + r) ((p.0, first_of counts p.1 + q) ∷ c))
      (choices_length ps)
      (block_stands (λ n c. (p.0, n) ∷ c) (choices_by counts ps) (first_of counts p.1) (slice_index counts p.1) q r c l
      s)

-- a number that is one times another and less than that one more is that one
pub one_quotient : (c r n rest : ℕ) → n * c + rest ≡ c * r → rest < c → n ≡ r
one_quotient c r n rest e l = elim (cases_lt n r) [
  | inl a ↦ (let m : c * suc n ≤ c * r = mul-le-mul_left c (let h : suc n ≤ r = omega (arith, a) in h) in absurd (omega (arith, m, e, l)))
  | inr a ↦ elim (cases_lt r n) [
    | inl b ↦ (let m : c * suc r ≤ c * n = mul-le-mul_left c (let h : suc r ≤ n = omega (arith, b) in h) in absurd (omega (arith, m, e, l)))
    | inr b ↦ omega (arith, a, b)
  ]
]

-- a number below a product, told in the second factor's units, has fewer than the first factor of them
pub few_units : (c r q rest n : ℕ) → q * r + rest ≡ n → n < c * r → q < c
few_units c r q rest n e l = elim (cases_lt q c) [
  | inl a ↦ a
  | inr a ↦ (let m : r * c ≤ r * q = mul-le-mul_left r a in absurd (omega (arith, m, e, l)))
]

-- one part more of a choice
pub choice_next : (counts : List ℕ) (parts : List (Bool × EventId)) (i : ℕ) (p : Bool × EventId)
    (span left count next over digit rest : ℕ) → Stands parts i p → slice_index counts p.1.n ≡ count
    → span ≡ choice_count counts (map event_part_of (drop i parts)) → left < span → next * count + over ≡ span
    → over < count → digit * next + rest ≡ left
    → (next ≡ choice_count counts (map event_part_of (drop (i + 1) parts))) × (digit < slice_index counts p.1.n)
    × ((tail : List (Bool × ℕ)) → Stands (choices_by counts (map event_part_of (drop (i + 1) parts))) rest tail
    → Stands (choices_by counts (map event_part_of (drop i parts))) left ((p.0, first_of counts p.1.n + digit) ∷ tail))
choice_next counts parts i p span left count next over digit rest s c e l f g h = (one, few, stands)
  where
    span_is : span ≡ count * choice_count counts (map event_part_of (drop (i + 1) parts))
    span_is = e ∙ (choices_next counts parts i p s
        ∙ ap (λ (n : ℕ). n * choice_count counts (map event_part_of (drop (i + 1) parts))) c)

    one : next ≡ choice_count counts (map event_part_of (drop (i + 1) parts))
    one = one_quotient count (choice_count counts (map event_part_of (drop (i + 1) parts))) next over (f ∙ span_is) g

    left_is : digit * choice_count counts (map event_part_of (drop (i + 1) parts)) + rest ≡ left
    left_is = ap (λ (n : ℕ). digit * n + rest) (sym one) ∙ h

    few : digit < slice_index counts p.1.n
    few = subst (λ (n : ℕ). digit < n) (sym c)
        (few_units count (choice_count counts (map event_part_of (drop (i + 1) parts))) digit rest left left_is
        (subst (λ (n : ℕ). left < n) span_is l))

    stands : (tail : List (Bool × ℕ)) → Stands (choices_by counts (map event_part_of (drop (i + 1) parts))) rest tail
        → Stands (choices_by counts (map event_part_of (drop i parts))) left
        ((p.0, first_of counts p.1.n + digit) ∷ tail)
    stands tail t =
        let k = choice_stands counts (event_part_of p) (map event_part_of (drop (i + 1) parts)) digit rest tail few t in
        let m = subst (λ (n : ℕ). Stands (choices_by counts (event_part_of p ∷ map event_part_of (drop (i + 1) parts)))
        n ((p.0, first_of counts p.1.n + digit) ∷ tail)) left_is k in
        subst (λ (ps : List (Bool × EventId)). Stands (choices_by counts (map event_part_of ps)) left
        ((p.0, first_of counts p.1.n + digit) ∷ tail)) (sym (drop_next parts i p s)) m

-- a number below a product: neither factor is 0
factors : (count r span left : ℕ) → span ≡ count * r → left < span → (0 < count) × (0 < r)
factors zero r span left e l = let z : 0 * r ≡ 0 = omega arith in absurd (omega (arith, e, z, l))
factors (suc c) zero span left e l = let z : suc c * 0 ≡ 0 = omega arith in absurd (omega (arith, e, z, l))
factors (suc c) (suc r) span left e l = (omega arith, omega arith)

-- a choice is split into a way of its first part and a choice for the others, which has the place that is left
pub record IsSplit (counts : List ℕ) (parts : List (Bool × EventId)) (i : ℕ) (p : Bool × EventId)
    (left count next : ℕ) : Type 0 where
  pub count_some : 0 < count
  pub next_some : 0 < next
  pub next_is : next ≡ choice_count counts (map event_part_of (drop (i + 1) parts))
  pub digit : left / next < slice_index counts p.1.n
  pub rest : left % next < next
  pub stands : (tail : List (Bool × ℕ))
      → Stands (choices_by counts (map event_part_of (drop (i + 1) parts))) (left % next) tail
      → Stands (choices_by counts (map event_part_of (drop i parts))) left
      ((p.0, first_of counts p.1.n + left / next) ∷ tail)

pub choice_split : (counts : List ℕ) (parts : List (Bool × EventId)) (i : ℕ) (p : Bool × EventId)
    (span left count : ℕ) → Stands parts i p → slice_index counts p.1.n ≡ count
    → span ≡ choice_count counts (map event_part_of (drop i parts)) → left < span
    → IsSplit counts parts i p left count (span / count)
choice_split counts parts i p span left count s c e l = record {
  count_some = some.0;
  next_some = next_some;
  next_is = next_is;
  digit = all.1;
  rest = rest (span / count) next_some;
  stands = all.2;
}
  where
    span_is : span ≡ count * choice_count counts (map event_part_of (drop (i + 1) parts))
    span_is = e ∙ (choices_next counts parts i p s
        ∙ ap (λ (n : ℕ). n * choice_count counts (map event_part_of (drop (i + 1) parts))) c)

    some : (0 < count) × (0 < choice_count counts (map event_part_of (drop (i + 1) parts)))
    some = factors count (choice_count counts (map event_part_of (drop (i + 1) parts))) span left span_is l

    divides : (n k : ℕ) → 0 < k → (n / k) * k + n % k ≡ n
    divides n k h = omega arith

    rest : (k : ℕ) → 0 < k → left % k < k
    rest k h = omega arith

    over : (n k : ℕ) → 0 < k → n % k < k
    over n k h = omega arith

    next_is : span / count ≡ choice_count counts (map event_part_of (drop (i + 1) parts))
    next_is = one_quotient count (choice_count counts (map event_part_of (drop (i + 1) parts))) (span / count)
        (span % count) (divides span count some.0 ∙ span_is) (over span count some.0)

    next_some : 0 < span / count
    next_some = let h = some.1 in omega (arith, h, next_is)

    all : (span / count ≡ choice_count counts (map event_part_of (drop (i + 1) parts)))
        × (left / (span / count) < slice_index counts p.1.n)
        × ((tail : List (Bool × ℕ))
        → Stands (choices_by counts (map event_part_of (drop (i + 1) parts))) (left % (span / count)) tail
        → Stands (choices_by counts (map event_part_of (drop i parts))) left
        ((p.0, first_of counts p.1.n + left / (span / count)) ∷ tail))
    all = choice_next counts parts i p span left count (span / count) (span % count) (left / (span / count))
        (left % (span / count)) s c e l (divides span count some.0) (over span count some.0)
        (divides left (span / count) next_some)

-- what is planned of a choice with one part more
pub part_more : (chosen : List (Bool × WayId)) (w : Bool × WayId) (tail : List (Bool × ℕ))
    → map part_of (chosen ++ w ∷ []) ++ tail ≡ map part_of chosen ++ part_of w ∷ tail
part_more [] w tail = refl
part_more (c ∷ chosen) w tail = ap (λ (ws : List (Bool × ℕ)). part_of c ∷ ws) (part_more chosen w tail)

-- a way more is chosen
pub choice_more : (counts : List ℕ) (parts : List (Bool × EventId)) (place : ℕ) (old new : List (Bool × WayId))
    (must : Bool) (way : WayId) (n : ℕ) (tail : List (Bool × ℕ)) → new ≡ old ++ (must, way) ∷ []
    → way.n ≡ n → Stands (choices_by counts (map event_part_of parts)) place (map part_of old ++ (must, n) ∷ tail)
    → Stands (choices_by counts (map event_part_of parts)) place (map part_of new ++ tail)
choice_more counts parts place old new must way n tail e f s =
    subst (λ (c : List (Bool × ℕ)). Stands (choices_by counts (map event_part_of parts)) place c)
    (sym (ap (λ (ws : List (Bool × WayId)). map part_of ws ++ tail) e
    ∙ (part_more old (must, way) tail ∙ ap (λ (m : ℕ). map part_of old ++ (must, m) ∷ tail) f))) s

-- no part is left
pub choice_done : (counts : List ℕ) (parts : List (Bool × EventId)) (place i left span : ℕ)
    (chosen : List (Bool × WayId)) → length parts ≤ i → span ≡ choice_count counts (map event_part_of (drop i parts))
    → left < span
    → ((tail : List (Bool × ℕ)) → Stands (choices_by counts (map event_part_of (drop i parts))) left tail
    → Stands (choices_by counts (map event_part_of parts)) place (map part_of chosen ++ tail))
    → Stands (choices_by counts (map event_part_of parts)) place (map part_of chosen)
choice_done counts parts place i left span chosen l e less h =
    let d = drop_end parts i l in
    let one = choices_end counts parts i l in
    let zero_left : left ≡ 0 = omega (arith, e, one, less) in
    let here : Stands (choices_by counts (map event_part_of (drop i parts))) left [] =
    subst (λ (ps : List (Bool × EventId)). Stands (choices_by counts (map event_part_of ps)) left []) (sym d)
    (subst (λ (n : ℕ). Stands (choices_by counts []) n []) (sym zero_left) refl) in
    subst (λ (c : List (Bool × ℕ)). Stands (choices_by counts (map event_part_of parts)) place c)
    (nothing (map part_of chosen)) (h [] here)
  where
    nothing : (xs : List (Bool × ℕ)) → xs ++ [] ≡ xs
    nothing [] = refl
    nothing (x ∷ xs) = ap (λ (ys : List (Bool × ℕ)). x ∷ ys) (nothing xs)

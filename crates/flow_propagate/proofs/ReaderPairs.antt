-- The pairs of a variable and an assignment that names it.
use Rattle.std.proofs.Common.{Ordering, Less, Equal, Greater, ◌≡◌, ℕ, zero, suc, ◌+◌, ◌<◌, ◌≤◌, ◌⊎◌, inl, inr, Bool, true, ◌&&◌, nat_eq, List, [], ◌∷◌, ◌++◌, length, get_or, Contains, refl, sym, ap, ◌∙◌, subst, arith}
use Rattle.std.specs.Ordering.{nat_cmp, ordering_then, eq_by_cmp}
use Rattle.std.specs.Cmp.{IsTotalOrder, IsEquivalence, both_tied, unsigned_ties, unsigned_Decides}
use Rattle.std.proofs.lemmas.Cmp.{nat_cmp_total, nat_eq_equiv, then_total, on_total, and_equiv, on_equiv, ranked}
use Rattle.std.specs.List.{AllByRecursion, dedup}
use Rattle.std.specs.List.Sorted.{IsSorted, IsPermutation, IsStrictlySortedBy}
use Rattle.std.specs.List.Retain.{IsFiltered, DiffersFromLast}
use Rattle.std.proofs.lemmas.List.Sorted.{Contains-permutation, IsPermutation-sym}
use Rattle.std.proofs.lemmas.List.Filters.{dedup_is}
use Rattle.std.proofs.lemmas.List.Kept.{Contains-dedup, Contains-from_dedup, IsStrictlySortedBy-dedup}
use Rattle.std.proofs.lemmas.Bool.{and_parts}
use Rattle.ar_base.specs.Lists.{Stands, IsOneOf}
use Rattle.ar_base.proofs.Standing.{stands_within, stands_one, stands_none, one_here, one_contains, contains_one, one_left, at_most, stands_item}
use Rattle.ar_base.proofs.Items.{one_last, last_cases}
use Rattle.gts_core.specs.View.{assign_of, net_of}
use Rattle.gts_core.proofs.NamesNumbered.{reads_there, reads_back}
use Rattle.gts_core.proofs.Lawfulness.{system_lawful}
use Rattle.gts_core.proofs.Viewing.{variables_long}
use Rattle.gts_core.specs.Sound.{IsSound}
use Rattle.gts_core.specs.declared.system.Assign.{Assign}
use Rattle.gts_core.specs.declared.system.GtsParts.{GtsParts}
use Rattle.ar_meaning.specs.Dependence.{Names}
use Rattle.ar_meaning.specs.DependenceInside.{IsReadBy}
use Rattle.flow_propagate.specs.Plan.{ComesBefore, AreReaders, AreGivers}
use Rattle.gts_core.specs.Named.{ReadsVariable}
use Rattle.flow_propagate.specs.Named.{IsPairFor, AddsNamed, AreNamed, AreTargets, ArePairsSorted}
use Rattle.flow_propagate.proofs.Numbered.{read_there, read_back}

pub named_start : (p : GtsParts) → AreNamed p 0 []
named_start p = record { only = λ q o. absurd (stands_none o.place q o.stands); all = λ x n h r. absurd (omega arith) }

-- one assignment more
pub named_more : (p : GtsParts) (i : ℕ) (a : Assign) (old new : List (ℕ × ℕ)) → i < length p.assigns.items
    → a ≡ get_or p.assigns.items i a → AreNamed p i old → AddsNamed i (ReadsVariable a) old new → AreNamed p (i + 1) new
named_more p i a old new h is before adds = record {
  only = λ q o. elim (adds.only q o) [ inl k ↦ before.only q k | inr k ↦ here q k ];
  all = λ x n below r. at x n r (at_most n i below);
}
  where
    stands : Stands p.assigns.items i a
    stands = stands_item p.assigns.items i a h is

    here : (q : ℕ × ℕ) → IsPairFor i (ReadsVariable a) q → IsReadBy (net_of p) q.0 q.1
    here q k = subst (λ (z : ℕ). IsReadBy (net_of p) z q.1) (sym k.first)
        (subst (λ (z : ℕ). IsReadBy (net_of p) k.variable.n z) (sym k.second)
        (read_there p k.variable.n i (record { assign = a; stands = stands; names = reads_there a k.variable k.has })))

    same : (x n : ℕ) → n ≡ i → IsReadBy (net_of p) x n → IsOneOf new (x, n)
    same x n e h =
        let r = read_back p x n h in
        let one : r.assign ≡ a = stands_one p.assigns.items i r.assign a
        (subst (λ (z : ℕ). Stands p.assigns.items z r.assign) e r.stands) stands in
        let t = reads_back a x (subst (λ (z : Assign). Names (assign_of z) x) one r.names) in
        subst (λ (z : ℕ). IsOneOf new (z, n)) t.is
        (subst (λ (z : ℕ). IsOneOf new (t.variable.n, z)) (sym e) (adds.all t.variable t.has))

    at : (x n : ℕ) → IsReadBy (net_of p) x n → (n < i) ⊎ (n ≡ i) → IsOneOf new (x, n)
    at x n r (inl l) = adds.grows (x, n) (before.all x n l r)
    at x n r (inr e) = same x n e r

pub named_all : (p : GtsParts) (i : ℕ) (pairs : List (ℕ × ℕ)) → length p.assigns.items ≤ i → AreNamed p i pairs
    → AreNamed p (length p.assigns.items) pairs
named_all p i pairs h a = record { only = a.only; all = λ x n below r. a.all x n (omega arith) r }

-- the order of pairs, and their equality
abbrev pub pair_cmp : ℕ × ℕ → ℕ × ℕ → Ordering
pair_cmp x y = ordering_then (nat_cmp x.0 y.0) (nat_cmp x.1 y.1)

abbrev pub pair_eq : ℕ × ℕ → ℕ × ℕ → Bool
pair_eq x y = nat_eq x.0 y.0 && nat_eq x.1 y.1

pair_total : IsTotalOrder pair_cmp
pair_total = then_total (on_total (λ (t : ℕ × ℕ). t.0) nat_cmp_total) (on_total (λ (t : ℕ × ℕ). t.1) nat_cmp_total)

pub pair_equiv : IsEquivalence pair_eq
pair_equiv = and_equiv (on_equiv (λ (t : ℕ × ℕ). t.0) nat_eq_equiv) (on_equiv (λ (t : ℕ × ℕ). t.1) nat_eq_equiv)

pair_ties : (x y : ℕ × ℕ) → pair_eq x y ≡ eq_by_cmp pair_cmp x y
pair_ties x y = both_tied _ _ (nat_cmp x.0 y.0) (nat_cmp x.1 y.1) (unsigned_ties x.0 y.0) (unsigned_ties x.1 y.1)

pub pair_same : (x y : ℕ × ℕ) → pair_eq x y ≡ true → x ≡ y
pair_same x y e =
    let r = and_parts (nat_eq x.0 y.0) (nat_eq x.1 y.1) e in
    let a : x.0 ≡ y.0 = (unsigned_Decides x.0 y.0).0 r.0 in
    let b : x.1 ≡ y.1 = (unsigned_Decides x.1 y.1).0 r.1 in
    ap (λ (z : ℕ). let q : ℕ × ℕ = (z, x.1) in q) a ∙ ap (λ (z : ℕ). let q : ℕ × ℕ = (y.0, z) in q) b

less_cases : (a b : ℕ) (o r : Ordering) → nat_cmp a b ≡ o → ordering_then o r ≡ Less → (a < b) ⊎ ((a ≡ b) × (r ≡ Less))
less_cases a b Less r e h = inl (ranked a b Less (sym e))
less_cases a b Equal r e h = inr (ranked a b Equal (sym e), h)
less_cases a b Greater r e h = absurd (cc h)

less_is : (a b : ℕ) → nat_cmp a b ≡ Less → a < b
less_is a b e = ranked a b Less (sym e)

comes_before : (q r : ℕ × ℕ) → pair_cmp q r ≡ Less → ComesBefore q r
comes_before q r e = elim (less_cases q.0 r.0 (nat_cmp q.0 r.0) (nat_cmp q.1 r.1) refl e)
    [ inl l ↦ inl l | inr k ↦ inr (k.0, less_is q.1 r.1 k.1) ]

all_stand : (P : ℕ × ℕ → Type 0) (xs : List (ℕ × ℕ)) (k : ℕ) (r : ℕ × ℕ) → AllByRecursion P xs → Stands xs k r → P r
all_stand P [] k r a s = absurd (stands_none k r s)
all_stand P (x ∷ xs) zero r a s = let e : x ≡ r = cc in subst P e a.0
all_stand P (x ∷ xs) (suc k) r a s = all_stand P xs k r a.1 s

strictly : (xs : List (ℕ × ℕ)) (j k : ℕ) (q r : ℕ × ℕ) → IsStrictlySortedBy pair_cmp xs → j < k → Stands xs j q
    → Stands xs k r → pair_cmp q r ≡ Less
unfolding IsStrictlySortedBy
strictly [] j k q r s h a b = absurd (stands_none j q a)
strictly (x ∷ xs) j zero q r s h a b = absurd (omega arith)
strictly (x ∷ xs) zero (suc k) q r s h a b =
    let e : x ≡ q = cc in
    subst (λ (z : ℕ × ℕ). pair_cmp z r ≡ Less) e (all_stand (λ y. pair_cmp x y ≡ Less) xs k r s.0 b)
strictly (x ∷ xs) (suc j) (suc k) q r s h a b = strictly xs j k q r s.1 (omega arith) a b

-- the pairs, sorted and each once
pub ascend : (pairs sorted kept : List (ℕ × ℕ)) → IsPermutation pairs sorted → IsSorted pair_cmp sorted
    → IsFiltered (DiffersFromLast pair_eq) [] sorted kept → ArePairsSorted pairs kept
ascend pairs sorted kept perm order filtered =
    let is : kept ≡ dedup pair_eq sorted = dedup_is pair_eq sorted kept filtered in
    let P : List (ℕ × ℕ) → Type 0 = λ z. ArePairsSorted pairs z in
    subst P (sym is) (record {
      all = there;
      only = back;
      ascending = λ j k q r h s t. comes_before q r
          (strictly (dedup pair_eq sorted) j k q r (IsStrictlySortedBy-dedup pair_total pair_ties sorted order) h s t);
    })
  where
    there : (q : ℕ × ℕ) → IsOneOf pairs q → IsOneOf (dedup pair_eq sorted) q
    there q o = one_contains (dedup pair_eq sorted) q
        (Contains-dedup pair_equiv pair_same sorted q
        (Contains-permutation pairs sorted q perm (contains_one pairs q o)))

    back : (q : ℕ × ℕ) → IsOneOf (dedup pair_eq sorted) q → IsOneOf pairs q
    back q o = one_contains pairs q (unsort q
        (Contains-from_dedup pair_eq sorted q (contains_one (dedup pair_eq sorted) q o)))
      where
        unsort : (q : ℕ × ℕ) → Contains sorted q → Contains pairs q
        unsort q c = Contains-permutation sorted pairs q (IsPermutation-sym pairs sorted perm) c

pub readers_sorted : (p : GtsParts) (pairs kept : List (ℕ × ℕ)) → AreNamed p (length p.assigns.items) pairs
    → ArePairsSorted pairs kept → AreReaders p kept
readers_sorted p pairs kept a s = record {
  only = λ x n o. a.only (x, n) (s.only (x, n) o);
  all = λ x n r. s.all (x, n) (let h = read_back p x n r in a.all x n (stands_within p.assigns.items n h.assign h.stands) r);
  ascending = s.ascending;
}

pub givers_sorted : (p : GtsParts) (pairs kept : List (ℕ × ℕ)) → AreTargets p (length p.assigns.items) pairs
    → ArePairsSorted pairs kept → AreGivers p kept
givers_sorted p pairs kept a s = record {
  only = λ x n o. a.only x n (s.only (x, n) o);
  all = λ n x st. s.all (x.target.n, n) (a.all n x (stands_within p.assigns.items n x st) st);
  ascending = s.ascending;
}

pub targets_start : (p : GtsParts) → AreTargets p 0 []
targets_start p = record {
  only = λ x n o. absurd (stands_none o.place (x, n) o.stands);
  all = λ n a h s. absurd (omega arith);
}

-- one assignment more
pub targets_more : (p : GtsParts) (i : ℕ) (a : Assign) (old new : List (ℕ × ℕ)) → i < length p.assigns.items
    → a ≡ get_or p.assigns.items i a → AreTargets p i old → new ≡ old ++ (a.target.n, i) ∷ [] → AreTargets p (i + 1) new
targets_more p i a old new h is before e = record {
  only = λ x n o. elim (last_cases old (a.target.n, i) (x, n) (subst (λ (z : List (ℕ × ℕ)). IsOneOf z (x, n)) e o)) [
    | inl k ↦ before.only x n k
    | inr j ↦ (
      a,
      subst (λ (z : ℕ). Stands p.assigns.items z a) (ap (λ (q : ℕ × ℕ). q.1) j) stands,
      ap
          (λ (q : ℕ × ℕ). q.0) j,
    )
  ];
  all = λ n b below s. subst (λ (z : List (ℕ × ℕ)). IsOneOf z (b.target.n, n)) (sym e) (at n b s (at_most n i below));
}
  where
    stands : Stands p.assigns.items i a
    stands = stands_item p.assigns.items i a h is

    at : (n : ℕ) (b : Assign) → Stands p.assigns.items n b → (n < i) ⊎ (n ≡ i)
        → IsOneOf (old ++ (a.target.n, i) ∷ []) (b.target.n, n)
    at n b s (inl l) = one_left old ((a.target.n, i) ∷ []) (b.target.n, n) (before.all n b l s)
    at n b s (inr j) =
        let one : a ≡ b = stands_one p.assigns.items i a b stands (subst (λ (z : ℕ). Stands p.assigns.items z b) j s) in
        subst (λ (z : Assign). IsOneOf (old ++ (a.target.n, i) ∷ []) (z.target.n, n)) one
        (subst (λ (z : ℕ). IsOneOf (old ++ (a.target.n, i) ∷ []) (a.target.n, z)) (sym j)
        (one_last old (a.target.n, i)))

pub targets_all : (p : GtsParts) (i : ℕ) (pairs : List (ℕ × ℕ)) → length p.assigns.items ≤ i → AreTargets p i pairs
    → AreTargets p (length p.assigns.items) pairs
targets_all p i pairs h a = record { only = a.only; all = λ n x below s. a.all n x (omega arith) s }

-- the variables of the pairs are the system's
pub read_below : (p : GtsParts) → IsSound p → (pairs : List (ℕ × ℕ)) → AreReaders p pairs → (q : ℕ × ℕ)
    → IsOneOf pairs q → q.0 < length p.variables.items
read_below p sound pairs are q o =
    let r = are.only q.0 q.1 o in
    let h = (system_lawful p sound).inside r.assign q.0 (one_here (net_of p).assertions q.1 r.assign r.stands)
    r.names in
    let l = variables_long 0 p.variables.items in omega (arith, h, l)

pub given_below : (p : GtsParts) → IsSound p → (pairs : List (ℕ × ℕ)) → AreGivers p pairs → (q : ℕ × ℕ)
    → IsOneOf pairs q → q.0 < length p.variables.items
given_below p sound pairs are q o =
    let g = are.only q.0 q.1 o in
    let a = sound.assertions g.0 (one_here p.assigns.items q.1 g.0 g.1) in
    let h = stands_within p.variables.items g.0.target.n a.variable a.stands in
    let e = g.2 in omega (arith, h, e)

-- The sizes of a node's family from those of its halves, and tables of sizes.
use Rattle.std.proofs.Common.{◌≡◌, ◌≢◌, ◌≤◌, ◌^◌, ◌-◌, ⊎_elim, ℕ, suc, ◌+◌, max, min, List, [], ◌∷◌, ◌++◌, map, length, get_or, refl, sym, ap, ◌∙◌, arith, length-append}
use Rattle.std.proofs.lemmas.List.{length-map}
use Rattle.ar_base.proofs.Standing.{stands_get}
use Rattle.zdd_nodes.specs.Families.{Family}
use Rattle.zdd_nodes.specs.FamiliesInside.{node}
use Rattle.zdd_nodes.specs.Nodes.{Stored, family, IsNode}
use Rattle.zdd_nodes.proofs.Lists.{slice_get-push_cases}
use Rattle.min_cuts.specs.Sizes.{largest, count}
use Rattle.min_cuts.specs.Kept.{AreMeasured, AreWithinPlaces}

pub length-node : (v : ℕ) (lo hi : Family) → length (node v lo hi) ≡ length hi + length lo
length-node v lo hi = length-append (map (λ s. v ∷ s) hi) lo ∙ ap (λ z. z + length lo) (length-map hi (λ s. v ∷ s))

-- with a limit it is enough to know both up to the limit
pub limited : (a b m : ℕ) → min (a + b) m ≡ min (min a m + min b m) m
limited a b m = grind arith

pub count-node : (v : ℕ) (lo hi : Family) → count (node v lo hi) ≡ min (count hi + count lo) (2 ^ 128 - 1)
count-node v lo hi = ap (λ z. min z (2 ^ 128 - 1)) (length-node v lo hi) ∙ limited (length hi) (length lo) (2 ^ 128 - 1)

pub largest-node : (v : ℕ) (lo hi : Family) → hi ≢ [] → largest (node v lo hi) ≡ max (largest hi + 1) (largest lo)
largest-node v lo [] n = absurd (n refl)
largest-node v lo (s ∷ []) n = at (length s) (largest lo)
  where
    at : (a b : ℕ) → max (suc a) b ≡ max (max a 0 + 1) b
    at a b = grind arith
largest-node v lo (s ∷ t ∷ hi) n = ap (max (suc (length s))) (largest-node v lo (t ∷ hi) (λ e. cc))
    ∙ at (length s) (largest (t ∷ hi)) (largest lo)
  where
    at : (a b c : ℕ) → max (suc a) (max (b + 1) c) ≡ max (max a b + 1) c
    at a b c = grind arith

-- a table grows by what it has next
pub measured_push : (measure : Family → ℕ) (s : Stored) (table : List ℕ) (x : ℕ) → AreMeasured measure s table
    → x ≡ measure (family s (length table)) → AreMeasured measure s (table ++ x ∷ [])
measured_push measure s table x m e = record {
  each = λ k y h. ⊎_elim (λ i. m.each k y i)
      (λ p. p.1 ∙ e ∙ ap (λ n. measure (family s n)) (sym p.0)) (slice_get-push_cases table x k y h);
}

pub measured_none : (measure : Family → ℕ) (s : Stored) → AreMeasured measure s []
measured_none measure s = record { each = λ k x h. cc }

pub small_push : (table : List ℕ) (x : ℕ) → AreWithinPlaces table → x ≤ length table → AreWithinPlaces (table ++ x ∷ [])
small_push table x m e = record {
  each = λ k y h. ⊎_elim (λ i. m.each k y i) (λ p. omega (arith, p.0, p.1, e)) (slice_get-push_cases table x k y h);
}

pub small_none : AreWithinPlaces []
small_none = record { each = λ k x h. cc }

-- the size of a node's family from those of its halves in the table
pub largest_from : (s : Stored) (table : List ℕ) (n v lo hi : ℕ) → IsNode s.families n v lo hi → n ≤ length table
    → AreMeasured largest s table → max (get_or table hi 0 + 1) (get_or table lo 0) ≡ largest (family s n)
largest_from s table n v lo hi i long m =
    let h : get_or table hi 0 ≡ largest (family s hi) =
    m.each hi (get_or table hi 0) (stands_get table hi 0 (omega (arith, long, i.hi_before))) in
    let l : get_or table lo 0 ≡ largest (family s lo) =
    m.each lo (get_or table lo 0) (stands_get table lo 0 (omega (arith, long, i.lo_before))) in
    let e : largest (family s n) ≡ max (largest (family s hi) + 1) (largest (family s lo)) = ap largest i.is
    ∙ largest-node v (family s lo) (family s hi) i.hi_some in
    omega (arith, h, l, e)

pub small_from : (s : Stored) (table : List ℕ) (n v lo hi : ℕ) → IsNode s.families n v lo hi → n ≤ length table
    → AreWithinPlaces table → max (get_or table hi 0 + 1) (get_or table lo 0) ≤ n
small_from s table n v lo hi i long m =
    let h : get_or table hi 0 ≤ hi = m.each hi (get_or table hi 0)
    (stands_get table hi 0 (omega (arith, long, i.hi_before))) in
    let l : get_or table lo 0 ≤ lo = m.each lo (get_or table lo 0)
    (stands_get table lo 0 (omega (arith, long, i.lo_before))) in
    omega (arith, h, l, i.hi_before, i.lo_before)

-- The pairs of variables and of assignments that name them.
use Rattle.std.proofs.Common.{◌≡◌, ◌<◌, ◌≤◌, ◌⊎◌, inl, inr, ℕ, List, length, get_or, ap, arith}
use Rattle.std.specs.List.Sorted.{IsNonDecreasingBy}
use Rattle.std.proofs.lemmas.Bool.{cases_eq}
use Rattle.ar_base.specs.Lists.{IsOneOf}
use Rattle.ar_base.proofs.Standing.{stands_get, stands_within, stands_map_back}
use Rattle.gts_core.specs.View.{assign_of}
use Rattle.gts_core.specs.declared.system.GtsParts.{GtsParts}
use Rattle.flow_propagate.specs.Plan.{AreReaders}

-- they ascend by variable
pub rising : (p : GtsParts) (pairs : List (ℕ × ℕ)) → AreReaders p pairs → IsNonDecreasingBy (λ (q : ℕ × ℕ). q.0) pairs
rising p pairs are = λ i j d l h. go i j d l h (cases_eq i j)
  where
    go : (i j : ℕ) (d : ℕ × ℕ) → i ≤ j → j < length pairs → (i ≡ j) ⊎ (i ≡ j → ⊥)
        → (get_or pairs i d).0 ≤ (get_or pairs j d).0
    go i j d l h (inl e) = let f = ap (λ n. (get_or pairs n d).0) e in omega (arith, f)
    go i j d l h (inr n) =
        let less : i < j = omega (arith, l, n) in
        elim (are.ascending i j (get_or pairs i d) (get_or pairs j d) less
        (stands_get pairs i d (omega (arith, h, less))) (stands_get pairs j d h)) [
          | inl k ↦ omega (arith, k)
          | inr k ↦ (let e = k.0 in omega (arith, e))
        ]

-- their assignments are the system's
pub reader_below : (p : GtsParts) (pairs : List (ℕ × ℕ)) → AreReaders p pairs → (x n : ℕ) → IsOneOf pairs (x, n)
    → n < length p.assigns.items
reader_below p pairs are x n o =
    let r = are.only x n o in
    let b = stands_map_back assign_of p.assigns.items n r.assign r.stands in
    stands_within p.assigns.items n b.0 b.1

-- The longest front of a list that passes a test.
use Rattle.std.proofs.Common.{◌≡◌, ℕ, suc, ◌+◌, Bool, true, false, cond, List, [], ◌∷◌, drop, refl, sym, subst, arith}
use Rattle.std.specs.List.{prefix_len}

-- the first item, if there is one, fails the test
abbrev pub HeadFails : (ℕ → Bool) → List ℕ → Type 0
HeadFails test [] = Unit {0}
HeadFails test (b ∷ bs) = test b ≡ false

fails_cons : (test : ℕ → Bool) (b : ℕ) (bs : List ℕ) (r : Bool) → test b ≡ r
    → HeadFails test (drop (prefix_len test bs) bs)
    → HeadFails test (drop (cond r (1 + prefix_len test bs) 0) (b ∷ bs))
fails_cons test b bs true e h =
    let q : 1 + prefix_len test bs ≡ suc (prefix_len test bs) = omega arith in
    subst (λ n. HeadFails test (drop n (b ∷ bs))) (sym q) h
fails_cons test b bs false e h = e

-- what stands behind the front does not go on with it
pub run_stops : (test : ℕ → Bool) (bs : List ℕ) → HeadFails test (drop (prefix_len test bs) bs)
run_stops test [] = tt
run_stops test (b ∷ bs) = fails_cons test b bs (test b) refl (run_stops test bs)

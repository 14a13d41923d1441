-- Flags that are turned and turned back.
use Rattle.std.proofs.Common.{◌≡◌, ℕ, zero, suc, Bool, true, false, not, List, [], ◌∷◌, ◌++◌, set, refl, sym, ap, ◌∙◌}
use Rattle.ar_base.specs.Numbers.{WayId}
use Rattle.way_flags.specs.Parts.{flag_at}
use Rattle.way_flags.specs.Turning.{flags_turned}

-- the flags with one turned round
abbrev pub flip : List Bool → ℕ → List Bool
flip flags n = set flags n (not (flag_at flags n))

twice : (b : Bool) → not (not b) ≡ b
twice true = refl
twice false = refl

pub flip_back : (flags : List Bool) (n : ℕ) → flip (flip flags n) n ≡ flags
flip_back [] zero = refl
flip_back [] (suc n) = refl
flip_back (f ∷ flags) zero = ap (λ b. b ∷ flags) (twice f)
flip_back (f ∷ flags) (suc n) = ap (λ z. f ∷ z) (flip_back flags n)

flip_swap : (flags : List Bool) (m n : ℕ) → flip (flip flags m) n ≡ flip (flip flags n) m
flip_swap [] zero zero = refl
flip_swap [] zero (suc n) = refl
flip_swap [] (suc m) zero = refl
flip_swap [] (suc m) (suc n) = refl
flip_swap (f ∷ flags) zero zero = refl
flip_swap (f ∷ flags) zero (suc n) = refl
flip_swap (f ∷ flags) (suc m) zero = refl
flip_swap (f ∷ flags) (suc m) (suc n) = ap (λ z. f ∷ z) (flip_swap flags m n)

turned_flip : (flags : List Bool) (ways : List WayId) (n : ℕ) → flags_turned (flip flags n) ways ≡ flip (flags_turned flags ways) n
turned_flip flags [] n = refl
turned_flip flags (w ∷ ways) n = ap (λ z. flags_turned z ways) (flip_swap flags n w.n) ∙ turned_flip (flip flags w.n) ways n

pub turned_last : (flags : List Bool) (ways : List WayId) (w : WayId)
    → flags_turned flags (ways ++ w ∷ []) ≡ flip (flags_turned flags ways) w.n
turned_last flags [] w = refl
turned_last flags (v ∷ ways) w = turned_last (flip flags v.n) ways w

-- one flag more was turned
pub turned_more : (first flags : List Bool) (ways : List WayId) (w : WayId) → first ≡ flags_turned flags ways
    → first ≡ flags_turned (flip flags w.n) (ways ++ w ∷ [])
turned_more first flags ways w e =
    e ∙ sym (turned_last (flip flags w.n) ways w ∙ ap (λ z. flip z w.n) (turned_flip flags ways w.n)
    ∙ flip_back (flags_turned flags ways) w.n)

-- turning the same flags twice leaves them as they were
pub turned_back : (flags : List Bool) (ways : List WayId) → flags_turned (flags_turned flags ways) ways ≡ flags
turned_back flags [] = refl
turned_back flags (w ∷ ways) =
    ap (λ z. flags_turned z ways) (sym (turned_flip (flip flags w.n) ways w.n)
    ∙ ap (λ z. flags_turned z ways) (flip_back flags w.n)) ∙ turned_back flags ways

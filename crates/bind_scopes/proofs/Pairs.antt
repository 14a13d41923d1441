-- Tests for one pair.
use Rattle.std.proofs.Common.{◌≡◌, ℕ, ◌⊎◌, inl, inr, true, false, ◌==◌, ◌&&◌, arith}
use Rattle.std.proofs.lemmas.Bool.Decides.{nat_tests}
use Rattle.hierarchy.proofs.Finding.{same_or_not}
use Rattle.bind_scopes.specs.Indexed.{is_same_index}

-- a pair is itself and no other
pub pair_same : (b x : ℕ) → is_same_index (b, x) (b, x) ≡ true
pair_same b x = grind (arith, nat_tests)

pub pair_one : (b x c y : ℕ) → is_same_index (b, x) (c, y) ≡ true → (b ≡ c) × (x ≡ y)
pair_one b x c y e = by (same_or_not b c) (same_or_not x y) e
  where
    by : (((b == c) ≡ true) × (b ≡ c)) ⊎ (((b == c) ≡ false) × (b ≡ c → ⊥))
        → (((x == y) ≡ true) × (x ≡ y)) ⊎ (((x == y) ≡ false) × (x ≡ y → ⊥)) → ((b == c) && (x == y)) ≡ true
        → (b ≡ c) × (x ≡ y)
    by (inl p) (inl q) e = (p.1, q.1)
    by (inl p) (inr q) e = absurd (let v : (b == c) ≡ true = p.0 in let w : (x == y) ≡ false = q.0 in let r = rw (v, w) at e in cc)
    by (inr p) q e = absurd (let v : (b == c) ≡ false = p.0 in let r = rw v at e in cc)

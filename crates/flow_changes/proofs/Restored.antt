-- Values that are written one after the other.
use Rattle.std.proofs.Common.{◌≡◌, ◌<◌, ◌+◌, ℕ, List, [], ◌∷◌, ◌++◌, length, take, set, refl, sym, ap, ◌∙◌, arith}
use Rattle.ar_base.specs.Lists.{Stands}
use Rattle.ar_base.specs.Numbers.{VarId}
use Rattle.domains.specs.declared.Value.{Value}
use Rattle.gts_core.specs.declared.system.GtsParts.{GtsParts}
use Rattle.flow_changes.specs.Restoring.{decoded_at, restored}
use Rattle.flow_changes.proofs.Picks.{take_next, taken_long}

module _ (p : GtsParts) where
  -- one value more
  pub restored_more : (t : List Value) (xs : List VarId) (cs : List ℕ) (x : VarId) (c : ℕ) → length xs ≡ length cs
      → restored p t (xs ++ x ∷ []) (cs ++ c ∷ []) ≡ set (restored p t xs cs) x.n (decoded_at p x.n c)
  restored_more t [] [] x c e = refl
  restored_more t [] (d ∷ cs) x c e = absurd (omega (arith, e))
  restored_more t (y ∷ xs) [] x c e = absurd (omega (arith, e))
  restored_more t (y ∷ xs) (d ∷ cs) x c e = restored_more (set t y.n (decoded_at p y.n d)) xs cs x c (omega (arith, e))

  -- the first values and the next one
  pub restored_next : (t : List Value) (xs : List VarId) (cs : List ℕ) (i : ℕ) (x : VarId) (c : ℕ)
      → length xs ≡ length cs → i < length xs → Stands xs i x → Stands cs i c
      → restored p t (take (i + 1) xs) (take (i + 1) cs)
      ≡ set (restored p t (take i xs) (take i cs)) x.n (decoded_at p x.n c)
  restored_next t xs cs i x c e h s w =
      ap (λ (z : List VarId). restored p t z (take (i + 1) cs)) (take_next xs i x s)
      ∙ ap (λ (z : List ℕ). restored p t (take i xs ++ x ∷ []) z) (take_next cs i c w)
      ∙ restored_more t (take i xs) (take i cs) x c
      (taken_long i xs (omega (arith, h)) ∙ sym (taken_long i cs (omega (arith, h, e))))

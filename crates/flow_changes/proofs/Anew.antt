-- What the new state determines, found anew, and what changed then.
use Rattle.std.proofs.Common.{◌≡◌, ℕ, zero, suc, ◌+◌, ◌<◌, List, [], ◌∷◌, ◌++◌, length, slice_get, inl, inr, refl, sym, ap, ◌∙◌, subst, arith, length-append}
use Rattle.ar_base.specs.Lists.{Stands, IsOneOf}
use Rattle.ar_base.specs.Sets.{Ascends}
use Rattle.ar_base.proofs.Standing.{stands_none, stands_split, stands_within, stands_some, one_here}
use Rattle.flow_changes.specs.Picking.{KeepsOthers, ArePicked, AreWithin}

-- one number more
pub numbers_next : (i : ℕ) (old new : List ℕ) → new ≡ old ++ i ∷ []
    → (length old ≡ i) × ((k n : ℕ) → Stands old k n → n ≡ k)
    → (length new ≡ i + 1) × ((k n : ℕ) → Stands new k n → n ≡ k)
numbers_next i old new e a = (
  ap (λ (z : List ℕ). length z) e ∙ (let l = length-append old (i ∷ []) in omega (arith, l, a.0)),
  λ k n s. elim (stands_split old (i ∷ []) k n (subst (λ (z : List ℕ). Stands z k n) e s))
      [ inl h ↦ a.1 k n h | inr h ↦ last k n h.0 h.1 h.2 ],
)
  where
    last : (k n j : ℕ) → k ≡ length old + j → Stands (i ∷ []) j n → n ≡ k
    last k n zero p s = let f : i ≡ n = cc in omega (arith, f, p, a.0)
    last k n (suc j) p s = absurd (stands_none j n s)

module _ (numbers : List ℕ) (each : (k n : ℕ) → Stands numbers k n → n ≡ k) where
  pub all_ascend : Ascends numbers
  all_ascend = record { ascends = λ j k a b l s t. let x = each j a s in let y = each k b t in omega (arith, l, x, y) }

  pub all_within : {A : Type 0} (xs : List A) → length numbers ≡ length xs → AreWithin numbers xs
  all_within xs e n o = let h = stands_within numbers o.place n o.stands in let x = each o.place n o.stands in omega (arith, h, x, e)

  pub all_picked : {A : Type 0} (xs : List A) → length numbers ≡ length xs → ArePicked numbers xs xs
  all_picked {A} xs e = record { long = sym e; each = λ k n a s t. subst (λ (z : ℕ). Stands xs z a) (each k n s) t }

  -- none is left out
  pub all_kept : {A : Type 0} (xs ys : List A) → length numbers ≡ length xs → length ys ≡ length xs
      → KeepsOthers numbers xs ys
  all_kept xs ys e l = record { long = l; others = λ n o. past xs ys n l (λ h. o (at n h)) }
    where
      at : (n : ℕ) → n < length xs → IsOneOf numbers n
      at n h =
          let s = stands_some numbers n (omega (arith, h, e)) in
          subst (λ (z : ℕ). IsOneOf numbers z) (each n s.0 s.1) (one_here numbers n s.0 s.1)

      past : {B : Type 0} (us vs : List B) (n : ℕ) → length vs ≡ length us → (n < length us → ⊥)
          → slice_get vs n ≡ slice_get us n
      past [] [] n l f = refl
      past [] (v ∷ vs) n l f = absurd (omega (arith, l))
      past (u ∷ us) [] n l f = absurd (omega (arith, l))
      past (u ∷ us) (v ∷ vs) zero l f = absurd (f (omega arith))
      past (u ∷ us) (v ∷ vs) (suc n) l f = past us vs n (omega (arith, l)) (λ h. f (omega (arith, h)))

-- Numbers that stand at their own places, and the numbers of things.
use Rattle.std.proofs.Common.{◌≡◌, ℕ, zero, suc, ◌+◌, ◌<◌, List, [], ◌∷◌, ◌++◌, length, map, take, get_or, ap, ◌∙◌, sym, subst, arith, inl, inr, length-append}
use Rattle.std.proofs.lemmas.List.{map-append, take_more}
use Rattle.ar_base.specs.Lists.{Stands, IsOneOf}
use Rattle.ar_base.specs.NumbersInside.{numbers_of}
use Rattle.ar_base.specs.Sets.{Ascends}
use Rattle.ar_base.specs.declared.numbers.Id.{Id}
use Rattle.ar_base.proofs.Standing.{stands_none, stands_some, stands_split, stands_within}

-- one number more
pub numbers_next : (i : ℕ) (old new : List ℕ) → new ≡ old ++ i ∷ []
    → (length old ≡ i) × ((k n : ℕ) → Stands old k n → n ≡ k)
    → (length new ≡ i + 1) × ((k n : ℕ) → Stands new k n → n ≡ k)
numbers_next i old new e a = (
  ap (λ (z : List ℕ). length z) e ∙ (let l = length-append old (i ∷ []) in omega (arith, l, a.0)),
  λ k n s. elim (stands_split old (i ∷ []) k n (subst (λ (z : List ℕ). Stands z k n) e s))
      [ inl h ↦ a.1 k n h | inr h ↦ last k n h.0 h.1 h.2 ],
)
  where
    last : (k n j : ℕ) → k ≡ length old + j → Stands (i ∷ []) j n → n ≡ k
    last k n zero p s = let f : i ≡ n = cc in omega (arith, f, p, a.0)
    last k n (suc j) p s = absurd (stands_none j n s)

module _ (numbers : List ℕ) (each : (k n : ℕ) → Stands numbers k n → n ≡ k) where
  -- they ascend
  pub own_ascend : Ascends numbers
  own_ascend = record { ascends = λ j k a b l s t. let x = each j a s in let y = each k b t in omega (arith, l, x, y) }

  -- each is less than their count
  pub own_below : (n : ℕ) → IsOneOf numbers n → n < length numbers
  own_below n o = let w = stands_within numbers o.place n o.stands in let e = each o.place n o.stands in omega (arith, w, e)

  -- each number less than their count is one of them
  pub own_all : (n : ℕ) → n < length numbers → IsOneOf numbers n
  own_all n l =
      let s = stands_some numbers n l in
      record { place = n; stands = subst (λ (z : ℕ). Stands numbers n z) (each n s.0 s.1) s.1 }

-- the number of one thing more
pub numbers_more : {K : Type 0} (ids : List (Id K)) (i : ℕ) (none : Id K) (old : List ℕ) → i < length ids
    → old ≡ numbers_of (take i ids) → old ++ (get_or ids i none).n ∷ [] ≡ numbers_of (take (i + 1) ids)
numbers_more {K} ids i none old l e =
    ap (λ (z : List ℕ). z ++ (get_or ids i none).n ∷ []) e
    ∙ sym (ap (λ (z : List (Id K)). numbers_of z) (take_more ids i none l)
    ∙ map-append (λ (x : Id K). x.n) (take i ids) (get_or ids i none ∷ []))

-- Truth values, and what tests tell.
use mathlib.Core.Bool.{beq}
use Rattle.std.proofs.Common.{◌≡◌, ◌↔◌, ℕ, Bool, true, false, not, List, IsTrue, bytes_eq, refl, sym, ◌∙◌}
use Rattle.std.proofs.lemmas.Slice.Eq.{bytes_eq-Decides}

-- where the negation is true, the value is not
pub not_true : (b : Bool) → not b ≡ true → b ≡ true → ⊥
not_true true e f = cc
not_true false e f = cc

-- what is not true has a true negation
pub true_not : (b : Bool) → (b ≡ true → ⊥) → not b ≡ true
true_not true h = absurd (h refl)
true_not false h = refl

-- what is false is not true
pub not_both : (b : Bool) → b ≡ false → b ≡ true → ⊥
not_both true e h = cc e
not_both false e h = cc h

-- values that are true together are one
pub alike : (a b : Bool) → (a ≡ true → b ≡ true) → (b ≡ true → a ≡ true) → a ≡ b
alike true b f g = sym (f refl)
alike false true f g = g refl
alike false false f g = refl

-- of two values that differ one is the other's negation
pub other_mark : (a b : Bool) → (a ≡ b → ⊥) → not b ≡ a
other_mark true true f = absurd (f refl)
other_mark true false f = refl
other_mark false true f = refl
other_mark false false f = absurd (f refl)

-- values that test as different differ
pub not_equal : (a b : Bool) → beq a b ≡ false → a ≡ b → ⊥
not_equal true true e i = cc
not_equal true false e i = cc
not_equal false true e i = cc
not_equal false false e i = cc

-- what a test that is false denies
pub not_read : {P : Type 0} (b : Bool) → b ≡ false → (IsTrue b ↔ P) → P → ⊥
not_read b e h p = by b e (h.1 p)
  where
    by : (b : Bool) → b ≡ false → IsTrue b → ⊥
    by false e t = cc
    by true e t = cc

-- what a test that is true tells
pub is_read : {P : Type 0} (b : Bool) → b ≡ true → (IsTrue b ↔ P) → P
is_read b e h = h.0 (by b e)
  where
    by : (b : Bool) → b ≡ true → IsTrue b
    by true e = (let g : true ≡ true = cc in g)
    by false e = cc

-- equal texts test as equal
pub equal_is_false : (text word : List ℕ) (b : Bool) → text ≡ word → b ≡ bytes_eq text word → b ≡ false → ⊥
equal_is_false text word b same is told =
    let yes : b ≡ true = is ∙ (bytes_eq-Decides text word).1 same in
    let bad : true ≡ false = sym yes ∙ told in
    absurd (cc)

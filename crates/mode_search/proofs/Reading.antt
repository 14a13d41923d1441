-- What is read at places of lists, and flags.
use Rattle.std.proofs.Common.{◌≡◌, ℕ, zero, suc, inl, inr, Bool, true, false, List, [], ◌∷◌, length, set, replicate, refl, sym, ap, subst}
use Rattle.std.proofs.lemmas.Bool.{cases_eq}
use Rattle.ar_base.specs.Lists.{Stands}
use Rattle.ar_base.proofs.Standing.{stands_none}
use Rattle.ar_meaning.specs.Found.{IsAnswer}

pub stands_set_other : {A : Type 0} (xs : List A) (i n : ℕ) (a b : A) → (n ≡ i → ⊥) → Stands (set xs i a) n b
    → Stands xs n b
stands_set_other [] i n a b d s = absurd (stands_none n b s)
stands_set_other (x ∷ xs) zero zero a b d s = absurd (d refl)
stands_set_other (x ∷ xs) zero (suc n) a b d s = s
stands_set_other (x ∷ xs) (suc i) zero a b d s = s
stands_set_other (x ∷ xs) (suc i) (suc n) a b d s = stands_set_other xs i n a b (λ e. d (ap suc e)) s

pub stands_set_same : {A : Type 0} (xs : List A) (i : ℕ) (a b : A) → Stands (set xs i a) i b → b ≡ a
stands_set_same [] i a b s = absurd (stands_none i b s)
stands_set_same (x ∷ xs) zero a b s = cc
stands_set_same (x ∷ xs) (suc i) a b s = stands_set_same xs i a b s

pub stands_repeat : {A : Type 0} (count n : ℕ) (a b : A) → Stands (replicate count a) n b → b ≡ a
stands_repeat zero n a b s = absurd (stands_none n b s)
stands_repeat (suc count) zero a b s = cc
stands_repeat (suc count) (suc n) a b s = stands_repeat count n a b s

pub long_repeat : {A : Type 0} (count : ℕ) (a : A) → length (replicate count a) ≡ count
long_repeat zero a = refl
long_repeat (suc count) a = ap suc (long_repeat count a)

-- each flag says of its number whether P holds
abbrev pub AreFlags : (ℕ → Type 0) → List Bool → Type 0
AreFlags P flags = (n : ℕ) (b : Bool) → Stands flags n b → IsAnswer b (P n)

pub answer_as : (P Q : Type 0) (b : Bool) → (P → Q) → (Q → P) → IsAnswer b P → IsAnswer b Q
answer_as P Q true f g h = f h
answer_as P Q false f g h = λ q. h (g q)

-- one flag is written anew, and P changes at its number alone
pub flags_put : (P Q : ℕ → Type 0) (flags : List Bool) (i : ℕ) (c : Bool) → AreFlags P flags
    → ((n : ℕ) → (n ≡ i → ⊥) → P n → Q n) → ((n : ℕ) → (n ≡ i → ⊥) → Q n → P n) → IsAnswer c (Q i)
    → AreFlags Q (set flags i c)
flags_put P Q flags i c are on off answer n b s = elim (cases_eq n i) [
  | inl e ↦ (let same : b ≡ c = stands_set_same flags i c b (subst (λ (z : ℕ). Stands (set flags i c) z b) e s) in
      subst (λ (z : ℕ). IsAnswer b (Q z)) (sym e) (subst (λ (z : Bool). IsAnswer z (Q i)) (sym same) answer))
  | inr d ↦ answer_as (P n) (Q n) b (on n d) (off n d) (are n b (stands_set_other flags i n c b d s))
]

pub flags_none : (P : ℕ → Type 0) (count : ℕ) → ((n : ℕ) → P n → ⊥) → AreFlags P (replicate count false)
flags_none P count lacks n b s = subst (λ (z : Bool). IsAnswer z (P n)) (sym (stands_repeat count n false b s))
    (lacks n)

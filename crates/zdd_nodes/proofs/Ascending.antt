-- Ascending sets, number by number.
use Rattle.std.proofs.Common.{◌≡◌, ℕ, zero, suc, ◌<◌, List, [], ◌∷◌, refl, subst, arith}
use Rattle.std.specs.List.{AllByRecursion}
use Rattle.ar_base.specs.Lists.{Stands, IsOneOf}
use Rattle.ar_base.specs.Sets.{Ascends}
use Rattle.ar_base.proofs.Standing.{one_here, stands_none}
use Rattle.ar_base.proofs.Sets.{ascends_rest}

-- the members ascend, in a form that computes
abbrev pub IsAscending : List ℕ → Type 0
IsAscending [] = Unit {0}
IsAscending (x ∷ s) = AllByRecursion (λ y. x < y) s × IsAscending s

each_from : (x : ℕ) (s : List ℕ) → ((e : ℕ) → IsOneOf s e → x < e) → AllByRecursion (λ y. x < y) s
each_from x [] h = tt
each_from x (y ∷ s) h = (
  h y (one_here (y ∷ s) 0 y refl),
  each_from x s
      (λ e i. h e (one_here (y ∷ s) (suc i.place) e i.stands)),
)

each_at : (x : ℕ) (s : List ℕ) → AllByRecursion (λ y. x < y) s → (k e : ℕ) → Stands s k e → x < e
each_at x [] a k e p = absurd (stands_none k e p)
each_at x (y ∷ s) a zero e p = let is : y ≡ e = cc in subst (λ z. x < z) is a.0
each_at x (y ∷ s) a (suc k) e p = each_at x s a.1 k e p

pub ascends_nil : Ascends []
ascends_nil = record { ascends = λ j k a b l p q. absurd (stands_none j a p) }

pub ascends_cons : (x : ℕ) (s : List ℕ) → AllByRecursion (λ y. x < y) s → Ascends s → Ascends (x ∷ s)
ascends_cons x s above up = record { ascends = λ j k a b l p q. by j k a b l p q }
  where
    by : (j k a b : ℕ) → j < k → Stands (x ∷ s) j a → Stands (x ∷ s) k b → a < b
    by j zero a b l p q = absurd (omega (arith, l))
    by zero (suc k) a b l p q = let is : x ≡ a = cc in subst (λ z. z < b) is (each_at x s above k b q)
    by (suc j) (suc k) a b l p q = up.ascends j k a b (omega (arith, l)) p q

pub ascends_head : (x : ℕ) (s : List ℕ) → Ascends (x ∷ s) → AllByRecursion (λ y. x < y) s
ascends_head x s up = each_from x s (λ e i. up.ascends 0 (suc i.place) x e (omega arith) refl i.stands)

-- both forms say the same
pub is_ascending : (s : List ℕ) → Ascends s → IsAscending s
is_ascending [] up = tt
is_ascending (x ∷ s) up = (ascends_head x s up, is_ascending s (ascends_rest x s up))

pub ascends_from : (s : List ℕ) → IsAscending s → Ascends s
ascends_from [] a = ascends_nil
ascends_from (x ∷ s) a = ascends_cons x s a.0 (ascends_from s a.1)

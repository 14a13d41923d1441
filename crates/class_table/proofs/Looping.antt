-- Loops that look for the earliest place.
use Rattle.std.proofs.Common.{ℕ, ◌+◌, ◌≤◌, ◌⊎◌, List, length, Option, None, subst, arith}
use Rattle.ar_base.specs.Lists.{Stands}
use Rattle.ar_base.specs.declared.places.Place.{Place}
use Rattle.ar_base.proofs.Standing.{stands_one, stands_within}
use Rattle.class_table.specs.Earliest.{IsEarliest, IsEarlierOf, Until, IsNotBefore}
use Rattle.class_table.proofs.FirstPlaces.{earliest_same, earliest_start, earliest_more, earliest_next, earliest_beside}

-- the item at a number has P at the place
pub record AtItem {A : Type 0} (xs : List A) (P : ℕ → A → Place → Type 0) (k : ℕ) (p : Place) : Type 0 where
  pub item : A
  pub stands : Stands xs k item
  pub has : P k item p

module _ {A : Type 0} (xs : List A) (P : ℕ → A → Place → Type 0) where
  pub loop_start : IsEarliest (Until (AtItem xs P) 0) None
  loop_start = earliest_start

  at_item : (i : ℕ) (a : A) → Stands xs i a → (p : Place) → P i a p → AtItem xs P i p
  at_item i a s p h = record { item = a; stands = s; has = h }

  of_item : (i : ℕ) (a : A) → Stands xs i a → (p : Place) → AtItem xs P i p → P i a p
  of_item i a s p h = subst (λ (b : A). P i b p) (stands_one xs i h.item a h.stands s) h.has

  pub loop_next : (i : ℕ) (a : A) (f g r : Option Place) → Stands xs i a → IsEarliest (Until (AtItem xs P) i) f
      → IsEarliest (P i a) g → IsEarlierOf f g r
      → IsEarliest (Until (AtItem xs P) (i + 1)) r
  loop_next i a f g r s h k e = earliest_next i f g r h (earliest_same g (at_item i a s) (of_item i a s) k) e

  -- the same, where an item was tested only at places before the one found
  pub loop_beside : (i : ℕ) (a : A) (f g r : Option Place) (R : Place → Type 0) → Stands xs i a
      → IsEarliest (Until (AtItem xs P) i) f → IsEarliest R g → IsEarlierOf f g r → ((p : Place) → R p → P i a p)
      → ((p : Place) → P i a p → R p ⊎ IsNotBefore p f)
      → IsEarliest (Until (AtItem xs P) (i + 1)) r
  loop_beside i a f g r R s h k e to from =
      earliest_more i r (earliest_beside f g r h k e (λ p q. at_item i a s p (to p q)) (λ p q. from p (of_item i a s p q)))

  pub loop_end : (Q : Place → Type 0) (i : ℕ) (f : Option Place) → length xs ≤ i
      → ((k : ℕ) (a : A) (p : Place) → Stands xs k a → P k a p → Q p)
      → ((p : Place) → Q p → (k : ℕ) × AtItem xs P k p) → IsEarliest (Until (AtItem xs P) i) f → IsEarliest Q f
  loop_end Q i f l to from h = earliest_same f (λ p u. to u.k u.holds.item p u.holds.stands u.holds.has) back h
    where
      back : (p : Place) → Q p → Until (AtItem xs P) i p
      back p q = let w = from p q in let b = stands_within xs w.0 w.1.item w.1.stands in record { k = w.0; below = omega arith; holds = w.1 }

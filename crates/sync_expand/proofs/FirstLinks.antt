-- The first of links.
use Rattle.std.proofs.Common.{◌≡◌, ℕ, ◌+◌, ◌<◌, ◌≤◌, ◌⊎◌, List, length, Option, Some, None, sym, subst, inl, inr, arith}
use Rattle.ar_base.specs.Lists.{Stands}
use Rattle.ar_base.proofs.Standing.{stands_one, stands_within}
use Rattle.ar_base.proofs.Comparing.{lt_or_same, earlier_then, earlier_not}
use Rattle.gts_core.specs.declared.bound.DeclaredEvent.{DeclaredEvent}
use Rattle.sync_expand.specs.Links.{IsClimbIn, IsFirstLink, nowhere, there, IsEarlierLink, no_first, no_second, first, second, UntilLink}
use Rattle.sync_expand.specs.declared.links.Link.{Link}

-- by equations of what the cases are
pub of_first : (f g : Option Link) → f ≡ None → IsEarlierLink f g g
of_first f g e = subst (λ (z : Option Link). IsEarlierLink z g g) (sym e) no_first

pub of_second : (f g : Option Link) (p : Link) → f ≡ Some p → g ≡ None → IsEarlierLink f g (Some p)
of_second f g p e i =
    subst (λ (z : Option Link). IsEarlierLink z g (Some p)) (sym e)
    (subst (λ (z : Option Link). IsEarlierLink (Some p) z (Some p)) (sym i) no_second)

pub of_both : (f g r : Option Link) (p q : Link) → f ≡ Some p → g ≡ Some q → IsEarlierLink (Some p) (Some q) r
    → IsEarlierLink f g r
of_both f g r p q e i h =
    subst (λ (z : Option Link). IsEarlierLink z g r) (sym e)
    (subst (λ (z : Option Link). IsEarlierLink (Some p) z r) (sym i) h)

module _ {P Q : Link → Type 0} where
  -- the first link of either of two properties
  pub first_both : (f g r : Option Link) → IsFirstLink P f → IsFirstLink Q g → IsEarlierLink f g r
      → IsFirstLink (λ p. P p ⊎ Q p) r
  first_both f g r (nowhere h) (nowhere k) no_first = nowhere (λ p b. elim b [ inl a ↦ h p a | inr a ↦ k p a ])
  first_both f g r (nowhere h) (there a k) no_first =
      there (inr a) (λ q e b. elim b [ inl c ↦ h q c | inr c ↦ k q e c ])
  first_both f g r (there a h) (nowhere k) no_second =
      there (inl a) (λ q e b. elim b [ inl c ↦ h q e c | inr c ↦ k q c ])
  first_both f g r (there {l = p} a h) (there {l = s} b k) (first n) =
      there (inl a) (λ q e d. elim d [ inl c ↦ h q e c | inr c ↦ k q (earlier_not q.at p.at s.at e n) c ])
  first_both f g r (there {l = p} a h) (there {l = s} b k) (second n) =
      there (inr b) (λ q e d. elim d [ inl c ↦ h q (earlier_then q.at s.at p.at e n) c | inr c ↦ k q e c ])

  -- the first link of a property that the same links have
  pub first_same : (f : Option Link) → ((p : Link) → P p → Q p) → ((p : Link) → Q p → P p) → IsFirstLink P f
      → IsFirstLink Q f
  first_same f to from (nowhere h) = nowhere (λ p q. h p (from p q))
  first_same f to from (there {l = p} a h) = there (to p a) (λ q e b. h q e (from q b))

module _ {P : ℕ → Link → Type 0} where
  -- the first link so far, and with one number more
  pub first_start : IsFirstLink (UntilLink P 0) None
  first_start = nowhere (λ p u. omega (arith, u.below))

  pub first_next : (n : ℕ) (f g r : Option Link) → IsFirstLink (UntilLink P n) f → IsFirstLink (P n) g → IsEarlierLink f g r
      → IsFirstLink (UntilLink P (n + 1)) r
  first_next n f g r h k e = first_same r to from (first_both f g r h k e)
    where
      to : (p : Link) → UntilLink P n p ⊎ P n p → UntilLink P (n + 1) p
      to p (inl u) = record { k = u.k; below = omega (arith, u.below); holds = u.holds }
      to p (inr u) = record { k = n; below = omega arith; holds = u }

      last : (k : ℕ) → k < n + 1 → (k < n) ⊎ (k ≡ n)
      last k l = lt_or_same k n (omega (arith, l))

      from : (p : Link) → UntilLink P (n + 1) p → UntilLink P n p ⊎ P n p
      from p u = elim (last u.k u.below) [
        | inl l ↦ inl (record { k = u.k; below = l; holds = u.holds })
        | inr e ↦ inr (subst (λ (m : ℕ). P m p) e u.holds)
      ]

-- the item at a number has P at the link
pub record AtItem {A : Type 0} (xs : List A) (P : ℕ → A → Link → Type 0) (k : ℕ) (p : Link) : Type 0 where
  pub item : A
  pub stands : Stands xs k item
  pub has : P k item p

module _ {A : Type 0} (xs : List A) (P : ℕ → A → Link → Type 0) where
  pub loop_start : IsFirstLink (UntilLink (AtItem xs P) 0) None
  loop_start = first_start

  pub loop_next : (i : ℕ) (a : A) (f g r : Option Link) → Stands xs i a → IsFirstLink (UntilLink (AtItem xs P) i) f
      → IsFirstLink (P i a) g → IsEarlierLink f g r
      → IsFirstLink (UntilLink (AtItem xs P) (i + 1)) r
  loop_next i a f g r s h k e = first_next i f g r h (first_same g to from k) e
    where
      to : (p : Link) → P i a p → AtItem xs P i p
      to p h = record { item = a; stands = s; has = h }

      from : (p : Link) → AtItem xs P i p → P i a p
      from p h = subst (λ (b : A). P i b p) (stands_one xs i h.item a h.stands s) h.has

  pub loop_end : (Q : Link → Type 0) (i : ℕ) (f : Option Link) → length xs ≤ i
      → ((k : ℕ) (a : A) (p : Link) → Stands xs k a → P k a p → Q p)
      → ((p : Link) → Q p → (k : ℕ) × AtItem xs P k p) → IsFirstLink (UntilLink (AtItem xs P) i) f → IsFirstLink Q f
  loop_end Q i f l to from h = first_same f (λ p u. to u.k u.holds.item p u.holds.stands u.holds.has) back h
    where
      back : (p : Link) → Q p → UntilLink (AtItem xs P) i p
      back p q = let w = from p q in let b = stands_within xs w.0 w.1.item w.1.stands in record { k = w.0; below = omega arith; holds = w.1 }

-- a link that climbs is one of the event of this number
pub record IsOfEvent (ranks : List ℕ) (gap k : ℕ) (d : DeclaredEvent) (l : Link) : Type 0 where
  pub number : l.event.n ≡ k
  pub climb : IsClimbIn d.ways.items l.event ranks gap l

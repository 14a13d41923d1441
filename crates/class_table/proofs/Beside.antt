-- Places that are looked for beside the one found.
use Rattle.std.proofs.Common.{◌≡◌, ℕ, ◌+◌, ◌≤◌, ◌⊎◌, inl, inr, List, length, Option, Some, None, refl, sym, ap, ◌∙◌, subst, arith}
use Rattle.std.proofs.lemmas.Option.{same_Some}
use Rattle.ar_base.specs.Breach.{IsEarlier}
use Rattle.ar_base.specs.Lists.{Stands}
use Rattle.ar_base.specs.declared.places.Place.{Place}
use Rattle.ar_base.proofs.Comparing.{lt_or_same, earlier_then, not_before}
use Rattle.ar_base.proofs.Standing.{stands_one, stands_within}
use Rattle.class_table.specs.Declaring.{Declared}
use Rattle.class_table.specs.Rules.{IsWithin}
use Rattle.class_table.specs.Shown.{put_inside, NamesRound}
use Rattle.class_table.specs.declared.tables.Owned.{Owned}
use Rattle.class_table.specs.Earliest.{IsEarliest, nowhere, there, Until, IsNotBefore, behind, FindsBeside, kept, new}
use Rattle.class_table.proofs.Enclosing.{names_at}
use Rattle.class_table.proofs.Looping.{AtItem}

past : (q s : Place) → IsEarlier q s → IsNotBefore q (Some s) → ⊥
past q s l (behind m) = m l

-- what is not before the place found is not before an earlier one
still_behind : (f : Option Place) (r p : Place) → IsNotBefore r f → ((q : Place) → f ≡ Some q → IsEarlier p q)
    → IsNotBefore r (Some p)
still_behind f r p (behind {p = q} n) e = behind (λ l. n (earlier_then r p q l (e q refl)))

module _ {P Q : Place → Type 0} where
  -- one property after the other
  pub finds_both : (f g r : Option Place) → FindsBeside P f g → FindsBeside Q g r → FindsBeside (λ p. P p ⊎ Q p) f r
  finds_both f g r (kept a) (kept b) = kept (λ p c. elim c [ inl d ↦ a p d | inr d ↦ b p d ])
  finds_both f g r (kept a) (new {p = p} e b n) =
      new e (inr b) (λ q l c. elim c [ inl d ↦ past q p l (still_behind f q p (a q d) e) | inr d ↦ n q l d ])
  finds_both f g r (new {p = p} e a n) (kept b) =
      new e (inl a) (λ q l c. elim c [ inl d ↦ n q l d | inr d ↦ past q p l (b q d) ])
  finds_both f g r (new {p = s} e a n) (new {p = p} i b m) =
      new (λ q h. earlier_then p s q (i s refl) (e q h)) (inr b)
      (λ q l c. elim c [ inl d ↦ n q (earlier_then q p s l (i s refl)) d | inr d ↦ m q l d ])

  -- a property that holds at the same places
  pub finds_same : (f r : Option Place) → ((p : Place) → P p → Q p) → ((p : Place) → Q p → P p) → FindsBeside P f r
      → FindsBeside Q f r
  finds_same f r to from (kept a) = kept (λ p b. a p (from p b))
  finds_same f r to from (new {p = p} e a n) = new e (to p a) (λ q l b. n q l (from q b))

module _ {P : Place → Type 0} where
  -- no place has it
  pub finds_none : (f : Option Place) → ((p : Place) → P p → ⊥) → FindsBeside P f f
  finds_none f n = kept (λ p a. absurd (n p a))

  -- where nothing was found before, the earliest place is found
  pub finds_first : (r : Option Place) → FindsBeside P None r → IsEarliest P r
  finds_first r (kept a) = nowhere (λ p b. elim (a p b) [ ])
  finds_first r (new e a n) = there a n

module _ {A : Type 0} (xs : List A) (P : ℕ → A → Place → Type 0) where
  -- a loop over items
  pub finds_start : (f : Option Place) → FindsBeside (Until (AtItem xs P) 0) f f
  finds_start f = finds_none f (λ p u. let l = u.below in omega (arith, l))

  pub finds_next : (i : ℕ) (a : A) (f g r : Option Place) → Stands xs i a → FindsBeside (Until (AtItem xs P) i) f g
      → FindsBeside (P i a) g r → FindsBeside (Until (AtItem xs P) (i + 1)) f r
  finds_next i a f g r s h k = finds_same f r to from (finds_both f g r h k)
    where
      to : (p : Place) → Until (AtItem xs P) i p ⊎ P i a p → Until (AtItem xs P) (i + 1) p
      to p (inl u) = record { k = u.k; below = omega (arith, u.below); holds = u.holds }
      to p (inr b) = record { k = i; below = omega arith; holds = record { item = a; stands = s; has = b } }

      from : (p : Place) → Until (AtItem xs P) (i + 1) p → Until (AtItem xs P) i p ⊎ P i a p
      from p u = elim (lt_or_same u.k i (let l = u.below in omega (arith, l))) [
        | inl l ↦ inl (record { k = u.k; below = l; holds = u.holds })
        | inr e ↦
            let w = subst (λ (k : ℕ). AtItem xs P k p) e u.holds in
            inr (subst (λ (b : A). P i b p) (stands_one xs i w.item a w.stands s) w.has)
      ]

  pub finds_end : (Q : Place → Type 0) (i : ℕ) (f r : Option Place) → length xs ≤ i
      → ((k : ℕ) (a : A) (p : Place) → Stands xs k a → P k a p → Q p)
      → ((p : Place) → Q p → (k : ℕ) × AtItem xs P k p) → FindsBeside (Until (AtItem xs P) i) f r → FindsBeside Q f r
  finds_end Q i f r l to from h = finds_same f r (λ p u. to u.k u.holds.item p u.holds.stands u.holds.has) back h
    where
      back : (p : Place) → Q p → Until (AtItem xs P) i p
      back p q = let w = from p q in let b = stands_within xs w.0 w.1.item w.1.stands in record { k = w.0; below = omega (arith, b, l); holds = w.1 }

-- a class that a member of a body names
module _ (d : Declared) (body : ℕ) (o : Owned) (class : ℕ) (at : Place) (f : Option Place)
    (names : put_inside d o ≡ Some (class, Some at)) where
  pub finds_round : ((q : Place) → f ≡ Some q → IsEarlier at q) → IsWithin d class body
      → FindsBeside (NamesRound d body o) f (Some at)
  finds_round e w = new e (record { class = class; names = names; again = w })
      (λ q l h. not_before q at l (names_at d body o class (Some at) at q names refl h))

  pub finds_no_round : (IsWithin d class body → ⊥) → FindsBeside (NamesRound d body o) f f
  finds_no_round n = finds_none f (λ p h.
      let e = ap (λ (z : ℕ × Option Place). z.0) (same_Some _ _ (sym h.names ∙ names)) in
      n (subst (λ (k : ℕ). IsWithin d k body) e h.again))

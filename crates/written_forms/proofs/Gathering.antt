-- The earliest places among operands.
use Rattle.std.proofs.Common.{ℕ, ◌⊎◌, inl, inr, List, [], ◌∷◌, ◌++◌, map, Option, None, sym, subst}
use Rattle.ar_base.specs.Lists.{Stands}
use Rattle.ar_base.specs.declared.places.Place.{Place}
use Rattle.ar_base.proofs.Standing.{stands_map, stands_map_back, one_here, one_none, one_cases, one_first, one_split, one_left, one_right}
use Rattle.class_table.specs.Earliest.{IsEarliest, nowhere, IsEarlierOf}
use Rattle.class_table.proofs.FirstPlaces.{earliest_both, earliest_same}
use Rattle.class_table.proofs.Looping.{AtItem}
use Rattle.written_forms.specs.Operands.{OperandOfKind}
use Rattle.written_forms.specs.WrongInside.{Among}

module _ (P : OperandOfKind → Place → Type 0) where
  pub none_among : IsEarliest (Among P []) None
  none_among = nowhere (λ p a. one_none a.operand a.is_operand)

  pub one_among : (o : OperandOfKind) (f : Option Place) → IsEarliest (P o) f → IsEarliest (Among P (o ∷ [])) f
  one_among o f h = earliest_same f to from h
    where
      to : (p : Place) → P o p → Among P (o ∷ []) p
      to p k = record { operand = o; is_operand = one_first o []; has = k }

      from : (p : Place) → Among P (o ∷ []) p → P o p
      from p a = elim (one_cases o [] a.operand a.is_operand) [
        | inl e ↦ subst (λ (z : OperandOfKind). P z p) (sym e) a.has
        | inr n ↦ absurd (one_none a.operand n)
      ]

  pub both_among : (xs ys : List OperandOfKind) (f g r : Option Place) → IsEarliest (Among P xs) f → IsEarliest (Among P
      ys) g → IsEarlierOf f g r
      → IsEarliest (Among P (xs ++ ys)) r
  both_among xs ys f g r h k e = earliest_same r to from (earliest_both f g r h k e)
    where
      to : (p : Place) → Among P xs p ⊎ Among P ys p → Among P (xs ++ ys) p
      to p (inl a) = record { operand = a.operand; is_operand = one_left xs ys a.operand a.is_operand; has = a.has }
      to p (inr a) = record { operand = a.operand; is_operand = one_right xs ys a.operand a.is_operand; has = a.has }

      from : (p : Place) → Among P (xs ++ ys) p → Among P xs p ⊎ Among P ys p
      from p a = elim (one_split xs ys a.operand a.is_operand) [
        | inl i ↦ inl (record { operand = a.operand; is_operand = i; has = a.has })
        | inr i ↦ inr (record { operand = a.operand; is_operand = i; has = a.has })
      ]

  -- two operands
  pub two_among : (o q : OperandOfKind) (f g r : Option Place) → IsEarliest (P o) f → IsEarliest (P q) g → IsEarlierOf f
      g r → IsEarliest (Among P (o ∷ q ∷ [])) r
  two_among o q f g r h k e = both_among (o ∷ []) (q ∷ []) f g r (one_among o f h) (one_among q g k) e

  -- operands by the items of a list, one for each
  module _ {A : Type 0} (f : A → OperandOfKind) (xs : List A) where
    pub mapped_to : (k : ℕ) (a : A) (p : Place) → Stands xs k a → P (f a) p → Among P (map f xs) p
    mapped_to k a p s h = record {
      operand = f a;
      is_operand = one_here (map f xs) k (f a) (stands_map f xs k a s);
      has = h;
    }

    pub mapped_back : (p : Place) → Among P (map f xs) p → (k : ℕ) × AtItem xs (λ (k : ℕ) (a : A). P (f a)) k p
    mapped_back p a =
        let b = stands_map_back f xs a.is_operand.place a.operand a.is_operand.stands in (
          a.is_operand.place,
          record {
            item = b.0;
            stands = b.1;
            has =
                subst (λ (z : OperandOfKind). P z p) (sym b.2) a.has;
          },
        )

  -- operands by the items of a list, two for each
  module _ {A : Type 0} (f g : A → OperandOfKind) (xs : List A) where
    pub paired_to : (k : ℕ) (a : A) (p : Place) → Stands xs k a → P (f a) p ⊎ P (g a) p
        → Among P (map f xs ++ map g xs) p
    paired_to k a p s (inl h) =
        let m = mapped_to f xs k a p s h in
        record { operand = m.operand; is_operand = one_left (map f xs) (map g xs) m.operand m.is_operand; has = m.has }
    paired_to k a p s (inr h) =
        let m = mapped_to g xs k a p s h in
        record { operand = m.operand; is_operand = one_right (map f xs) (map g xs) m.operand m.is_operand; has = m.has }

    pub paired_back : (p : Place) → Among P (map f xs ++ map g xs) p
        → (k : ℕ) × AtItem xs (λ (k : ℕ) (a : A) (p : Place). P (f a) p ⊎ P (g a) p) k p
    paired_back p a = elim (one_split (map f xs) (map g xs) a.operand a.is_operand) [
      | inl i ↦
          let m = mapped_back f xs p (record { operand = a.operand; is_operand = i; has = a.has }) in
          (m.0, record { item = m.1.item; stands = m.1.stands; has = inl m.1.has })
      | inr i ↦
          let m = mapped_back g xs p (record { operand = a.operand; is_operand = i; has = a.has }) in
          (m.0, record { item = m.1.item; stands = m.1.stands; has = inr m.1.has })
    ]

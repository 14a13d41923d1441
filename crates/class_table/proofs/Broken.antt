-- The least rule that is broken.
use Rattle.std.proofs.Common.{ℕ, ◌<◌, ◌⊎◌, List, [], ◌∷◌, ◌++◌, Option, Some, None, sym, subst, inl, inr, arith}
use Rattle.ar_base.specs.Lists.{IsOneOf}
use Rattle.ar_base.specs.Breach.{IsBroken, AreKept}
use Rattle.ar_base.specs.declared.places.Place.{Place}
use Rattle.ar_base.proofs.Standing.{one_cases, one_none, one_first, one_split, one_left, one_right, only_item}
use Rattle.ar_syntax.specs.declared.items.Model.{Model}
use Rattle.class_table.specs.Declaring.{Declared}
use Rattle.class_table.specs.Rules.{BreaksItems, BreaksTypes, BreaksContainment, BreaksNames, LacksMain, BreaksTextRule, l1, l2, l3, l4, l5}
use Rattle.class_table.specs.Earliest.{IsEarliest, nowhere, there}

module _ (model : Model) (main : Option (List ℕ)) (d : Declared) where
  -- the tests of the rules, each with what it found

  pub is_l1 : (p : Place) → BreaksTextRule model main d 1 p → BreaksItems model.items.items p
  is_l1 p (l1 h) = h

  pub is_l2 : (p : Place) → BreaksTextRule model main d 2 p → BreaksTypes d p
  is_l2 p (l2 h) = h

  pub is_l3 : (p : Place) → BreaksTextRule model main d 3 p → BreaksContainment d p
  is_l3 p (l3 h) = h

  pub is_l4 : (p : Place) → BreaksTextRule model main d 4 p → BreaksNames d p
  is_l4 p (l4 h) = h

  pub is_l5 : (p : Place) → BreaksTextRule model main d 5 p → LacksMain model main d p
  is_l5 p (l5 h) = h

-- what holds of the first and of each of the rest
pub each_of : (P : ℕ → Type 0) (x : ℕ) (xs : List ℕ) → P x → ((r : ℕ) → IsOneOf xs r → P r) → (r : ℕ)
    → IsOneOf (x ∷ xs) r → P r
each_of P x xs h k r o = elim (one_cases x xs r o) [ inl e ↦ subst P e h | inr s ↦ k r s ]

pub each_of_none : (P : ℕ → Type 0) (r : ℕ) → IsOneOf [] r → P r
each_of_none P r o = absurd (one_none r o)

module _ (breaks : ℕ → Place → Type 0) where
  pub none_kept : AreKept [] breaks
  none_kept = record { kept = λ r p o b. one_none r o }

  -- one rule more that is kept
  pub one_more_kept : (rules : List ℕ) (n : ℕ) → AreKept rules breaks → IsEarliest (breaks n) None
      → AreKept (rules ++ n ∷ []) breaks
  one_more_kept rules n h (nowhere e) = record { kept = λ r p o b. by r p b (one_split rules (n ∷ []) r o) }
    where
      by : (r : ℕ) (p : Place) → breaks r p → IsOneOf rules r ⊎ IsOneOf (n ∷ []) r → ⊥
      by r p b (inl o) = h.kept r p o b
      by r p b (inr o) = e p (subst (λ (s : ℕ). breaks s p) (sym (only_item n r o)) b)

  -- the rule behind those that are kept, where those after it are greater, is broken first at the place that is found
  pub broken_at : (before after : List ℕ) (n : ℕ) (p : Place) → ((s : ℕ) → IsOneOf after s → n < s)
      → AreKept before breaks → IsEarliest (breaks n) (Some p) → IsBroken (before ++ n ∷ after) breaks n p
  broken_at before after n p least h (there b e) = record {
    is_one = one_right before (n ∷ after) n (one_first n after);
    breaks_there = b;
    no_lesser = λ s q o l c. lesser s q l c (one_split before (n ∷ after) s o);
    no_earlier = e;
  }
    where
      lesser : (s : ℕ) (q : Place) → s < n → breaks s q → IsOneOf before s ⊎ IsOneOf (n ∷ after) s → ⊥
      lesser s q l c (inl o) = h.kept s q o c
      lesser s q l c (inr o) = elim (one_cases n after s o) [
        | inl f ↦ omega (arith, f, l)
        | inr f ↦ let g = least s f in omega (arith, g, l)
      ]

  -- a greater rule behind the rules changes nothing
  pub broken_of_more : (rules : List ℕ) (m n : ℕ) (p : Place) → n < m → IsBroken rules breaks n p
      → IsBroken (rules ++ m ∷ []) breaks n p
  broken_of_more rules m n p g b = record {
    is_one = one_left rules (m ∷ []) n b.is_one;
    breaks_there = b.breaks_there;
    no_lesser = λ s q o l c. lesser s q l c (one_split rules (m ∷ []) s o);
    no_earlier = b.no_earlier;
  }
    where
      lesser : (s : ℕ) (q : Place) → s < n → breaks s q → IsOneOf rules s ⊎ IsOneOf (m ∷ []) s → ⊥
      lesser s q l c (inl o) = b.no_lesser s q o l c
      lesser s q l c (inr o) = let e = only_item m s o in omega (arith, e, g, l)

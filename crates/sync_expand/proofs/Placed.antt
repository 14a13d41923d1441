-- Items of lists in loops.
use Rattle.std.proofs.Common.{◌≡◌, ℕ, zero, suc, ◌+◌, ◌<◌, ◌⊎◌, List, [], ◌∷◌, ◌++◌, length, take, get_or, slice_get, Option, Some, None, is_some, false, IfSome, option_copied, refl, sym, ◌∙◌, ap, subst, inl, inr}
use Rattle.std.proofs.Common.{Bor, ltb, ltb-true, ltb-false}
use Rattle.std.proofs.lemmas.Option.{slice_get_past}
use Rattle.std.proofs.lemmas.List.{take_more}
use Rattle.ar_base.specs.Lists.{Stands, IsOneOf}
use Rattle.ar_base.proofs.Standing.{stands_one, stands_get, stands_within, one_split}

module _ {A : Type 0} where
  -- the item of a loop stands at its index
  pub item_stands : (xs : List A) (i : ℕ) (a : A) → i < length xs → a ≡ get_or xs i a → Stands xs i a
  item_stands xs i a h e = subst (λ (b : A). Stands xs i b) (sym e) (stands_get xs i a h)

  -- one item more is taken
  pub take_next : (xs : List A) (i : ℕ) (a : A) → Stands xs i a → take (i + 1) xs ≡ take i xs ++ a ∷ []
  take_next xs i a p =
      let h = stands_within xs i a p in
      take_more xs i a h ∙ ap (λ (b : A). take i xs ++ b ∷ [])
      (stands_one xs i (get_or xs i a) a (stands_get xs i a h) p)

  pub none_of : (o : Option A) → ((a : A) → o ≡ Some a → ⊥) → o ≡ None
  none_of None n = refl
  none_of (Some a) n = absurd (n a refl)

  -- one of a list with one item more
  pub one_last : (xs : List A) (a x : A) → IsOneOf (xs ++ a ∷ []) x → IsOneOf xs x ⊎ (x ≡ a)
  one_last xs a x h = elim (one_split xs (a ∷ []) x h) [ inl i ↦ inl i | inr i ↦ inr (only i.place i.stands) ]
    where
      only : (k : ℕ) → Stands (a ∷ []) k x → x ≡ a
      only zero s = cc
      only (suc zero) s = cc
      only (suc (suc k)) s = cc

  -- an item that was looked up stands there
  pub copied_get : (xs : List A) (k : ℕ) (r : Option (Bor A)) → is_some r ≡ ltb k (length xs)
      → IfSome r (λ x. x.now ≡ get_or xs k x.now) → option_copied r ≡ slice_get xs k
  copied_get xs k (Some x) e i = sym (item_stands xs k x.now (ltb-true _ _ (sym e)) i)
  copied_get xs k None e i = sym (slice_get_past xs k (ltb-false _ _ (sym e)))

  pub is_nothing : (o : Option A) → is_some o ≡ false → o ≡ None
  is_nothing None e = refl
  is_nothing (Some a) e = absurd (cc)

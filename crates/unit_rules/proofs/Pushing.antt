-- Loops that push an item for each item of a list.
use Rattle.std.proofs.Common.{◌≡◌, ℕ, ◌+◌, ◌≤◌, List, [], ◌∷◌, ◌++◌, length, take, sym, subst}
use Rattle.std.proofs.lemmas.List.{take_all}
use Rattle.ar_base.specs.Lists.{Stands, Along, none, one_and}
use Rattle.class_table.proofs.Laid.{along_append}
use Rattle.class_table.proofs.Taken.{take_next}

module _ {A B : Type 0} (R : A → B → Type 0) where
  pub push_start : (ys : List B) → ys ≡ [] → Along R [] ys
  push_start ys e = subst (Along R []) (sym e) none

  pub push_next : (xs : List A) (i : ℕ) (a : A) (ys zs : List B) (b : B) → Stands xs i a → Along R (take i xs) ys
      → R a b → zs ≡ ys ++ b ∷ [] → Along R (take (i + 1) xs) zs
  push_next xs i a ys zs b s h r e =
      subst (λ (us : List A). Along R us zs) (sym (take_next xs i a s))
      (subst (Along R (take i xs ++ a ∷ [])) (sym e) (along_append (take i xs) ys (a ∷ []) (b ∷ []) h (one_and r none)))

  pub push_end : (xs : List A) (i : ℕ) (ys : List B) → length xs ≤ i → Along R (take i xs) ys → Along R xs ys
  push_end xs i ys l h = subst (λ (us : List A). Along R us ys) (take_all i xs l) h

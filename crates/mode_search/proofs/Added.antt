-- Lists that are gathered for the items of another list, and what holds of each item so far.
use Rattle.std.proofs.Common.{◌≡◌, ℕ, zero, suc, ◌+◌, ◌<◌, ◌≤◌, ◌⊎◌, inl, inr, List, [], ◌∷◌, ◌++◌, length, drop}
use Rattle.std.proofs.Common.{take, take_all, get_or, refl, sym, ap, ◌∙◌, subst}
use Rattle.std.proofs.lemmas.List.{take_more}
use Rattle.ar_base.specs.Lists.{Stands, IsOneOf}
use Rattle.ar_base.proofs.Standing.{stands_none, one_here, one_first, one_split, one_left, one_right, only_item}
use Rattle.ar_base.proofs.Items.{next_left, none_left}
use Rattle.gts_core.specs.Adding.{Adds}
use Rattle.gts_core.proofs.Added.{Remains, remains_start, remains_on, remains_all}
use Rattle.mode_search.specs.Adding.{SomeHas, in_this, in_later}

module _ {A B : Type 0} (P : B → A → Type 0) where
  pub some_cases : (b : B) (bs : List B) (x : A) → SomeHas P (b ∷ bs) x → P b x ⊎ SomeHas P bs x
  some_cases b bs x (in_this h) = inl h
  some_cases b bs x (in_later h) = inr h

  no_some : (bs : List B) (x : A) → bs ≡ [] → SomeHas P bs x → ⊥
  no_some bs x e (in_this h) = cc
  no_some bs x e (in_later h) = cc

  pub some_start : (bs : List B) (now : List A) → now ≡ []
      → Remains (λ x. SomeHas P (drop 0 bs) x) (λ x. SomeHas P bs x) [] now
  some_start bs now e = subst (λ (z : List A). Remains (λ x. SomeHas P bs x) (λ x. SomeHas P bs x) [] z) (sym e)
      (remains_start (λ x. SomeHas P bs x) [])

  pub some_on : (old now new : List A) (bs : List B) (i : ℕ) (b : B) → i < length bs → b ≡ get_or bs i b
      → Remains (λ x. SomeHas P (drop i bs) x) (λ x. SomeHas P bs x) old now
      → Adds (P b) now new → Remains (λ x. SomeHas P (drop (i + 1) bs) x) (λ x. SomeHas P bs x) old new
  some_on old now new bs i b h is r p =
      let split = next_left bs i b h is in
      remains_on (P b) (λ x. SomeHas P (drop i bs) x) (λ x. SomeHas P (drop (i + 1) bs) x) (λ x. SomeHas P bs x) old now
      new r p
      (λ x d. some_cases b (drop (i + 1) bs) x (subst (λ (z : List B). SomeHas P z x) split d))
      (λ x d. subst (λ (z : List B). SomeHas P z x) (sym split) (in_this d))
      (λ x d. subst (λ (z : List B). SomeHas P z x) (sym split) (in_later d))

  pub some_all : (old now : List A) (bs : List B) (i : ℕ) → length bs ≤ i
      → Remains (λ x. SomeHas P (drop i bs) x) (λ x. SomeHas P bs x) old now → Adds (λ x. SomeHas P bs x) old now
  some_all old now bs i h r = remains_all (λ x. SomeHas P (drop i bs) x) (λ x. SomeHas P bs x) old now r
      (λ x d. no_some (drop i bs) x (none_left bs i h) d)

  -- the item that has it
  pub some_item : (bs : List B) (x : A) → SomeHas P bs x → (b : B) × IsOneOf bs b × P b x
  some_item [] x h = absurd (no_some [] x refl h)
  some_item (b ∷ bs) x h = elim (some_cases b bs x h) [
    | inl p ↦ (b, one_first b bs, p)
    | inr r ↦ (let o = some_item bs x r in (o.0, one_here (b ∷ bs) (suc o.1.place) o.0 o.1.stands, o.2))
  ]

  pub some_here : (bs : List B) (x : A) (b : B) (k : ℕ) → Stands bs k b → P b x → SomeHas P bs x
  some_here [] x b k s p = absurd (stands_none k b s)
  some_here (c ∷ bs) x b zero s p = let e : c ≡ b = cc in in_this (subst (λ (z : B). P z x) (sym e) p)
  some_here (c ∷ bs) x b (suc k) s p = in_later (some_here bs x b k s p)

-- what holds of each item so far
module _ {A : Type 0} (xs : List A) (i : ℕ) where
  pub taken_cases : (a x : A) → i < length xs → a ≡ get_or xs i a → IsOneOf (take (i + 1) xs) x
      → IsOneOf (take i xs) x ⊎ (a ≡ x)
  taken_cases a x h is o = elim (one_split (take i xs) (a ∷ []) x
      (subst (λ (z : List A). IsOneOf z x) (take_more xs i a h ∙ ap (λ (z : A). take i xs ++ z ∷ []) (sym is)) o)) [
        | inl k ↦ inl k
        | inr k ↦ inr (only_item a x k)
      ]

  pub each_more : (P : A → Type 0) (a : A) → i < length xs → a ≡ get_or xs i a → ((x : A) → IsOneOf (take i xs) x → P x)
      → P a → (x : A) → IsOneOf (take (i + 1) xs) x → P x
  each_more P a h is before p x o = elim (taken_cases a x h is o) [ inl k ↦ before x k | inr e ↦ subst P e p ]

  pub each_all : (P : A → Type 0) → length xs ≤ i → ((x : A) → IsOneOf (take i xs) x → P x) → (x : A) → IsOneOf xs x
      → P x
  each_all P h before x o = before x (subst (λ (z : List A). IsOneOf z x) (sym (take_all i xs h)) o)

  pub taken_here : (a : A) → i < length xs → a ≡ get_or xs i a → IsOneOf (take (i + 1) xs) a
  taken_here a h is = subst (λ (z : List A). IsOneOf z a)
      (sym (take_more xs i a h ∙ ap (λ (z : A). take i xs ++ z ∷ []) (sym is)))
      (one_right (take i xs) (a ∷ []) a (one_first a []))

  pub taken_more : (a x : A) → i < length xs → a ≡ get_or xs i a → IsOneOf (take i xs) x → IsOneOf (take (i + 1) xs) x
  taken_more a x h is o = subst (λ (z : List A). IsOneOf z x)
      (sym (take_more xs i a h ∙ ap (λ (z : A). take i xs ++ z ∷ []) (sym is))) (one_left (take i xs) (a ∷ []) x o)

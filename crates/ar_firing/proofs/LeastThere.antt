-- A set that has P has a least such set within it, where P can be told of each set and is of its members alone.
use Rattle.std.proofs.Common.{◌≡◌, ◌<◌, ◌⊎◌, inl, inr, ⊎_elim, ℕ, zero, suc, List, [], ◌∷◌, ◌++◌, map, Contains, arith, sym, subst}
use Rattle.std.proofs.lemmas.List.Elements.{Contains-append_left, Contains-append_right}
use Rattle.ar_base.specs.Lists.{IsOneOf}
use Rattle.ar_base.specs.Sets.{Within}
use Rattle.ar_base.proofs.Standing.{one_none, one_cases, one_first, one_rest}
use Rattle.ar_base.proofs.Sets.{member_told, within_self}
use Rattle.domains.proofs.Members.{contains-head, contains-map}
use Rattle.typed_expr.proofs.Listing.{Told}
use Rattle.ar_meaning.proofs.Outcomes.{not_told, both_told, some_told}
use Rattle.ar_firing.specs.Cuts.{IsLeast}
use Rattle.ar_firing.proofs.LeastSets.{decided, within_then, Left, counted, fewer, from_words}
use Rattle.ar_firing.proofs.RunsTold.{within_told}

-- the parts of a list, and the part that has just the members of another
parts : List ℕ → List (List ℕ)
parts [] = [] ∷ []
parts (x ∷ xs) = map (λ p. x ∷ p) (parts xs) ++ parts xs

picked : List ℕ → List ℕ → List ℕ
picked [] part = []
picked (x ∷ xs) part = ⊎_elim (λ o. x ∷ picked xs part) (λ n. picked xs part) (member_told part x)

picked_in : (xs part : List ℕ) → Contains (parts xs) (picked xs part)
unfolding parts picked
picked_in [] part = contains-head [] []
picked_in (x ∷ xs) part = go (member_told part x) (picked_in xs part)
  where
    go : (d : IsOneOf part x ⊎ (IsOneOf part x → ⊥)) → Contains (parts xs) (picked xs part)
        → Contains (map (λ p. x ∷ p) (parts xs) ++ parts xs) (⊎_elim (λ o. x ∷ picked xs part) (λ n. picked xs part) d)
    go (inl o) h =
        Contains-append_left (map (λ p. x ∷ p) (parts xs)) (parts xs) (x ∷ picked xs part)
        (contains-map (λ p. x ∷ p) (picked xs part) (parts xs) h)
    go (inr n) h = Contains-append_right (map (λ p. x ∷ p) (parts xs)) (parts xs) (picked xs part) h

picked_within : (xs part : List ℕ) (e : ℕ) → IsOneOf (picked xs part) e → IsOneOf part e
unfolding picked
picked_within [] part e o = absurd (one_none e o)
picked_within (x ∷ xs) part e o = go (member_told part x) (picked_within xs part e) o
  where
    go : (d : IsOneOf part x ⊎ (IsOneOf part x → ⊥)) → (IsOneOf (picked xs part) e → IsOneOf part e)
        → IsOneOf (⊎_elim (λ o. x ∷ picked xs part) (λ n. picked xs part) d) e → IsOneOf part e
    go (inl i) h p = elim (one_cases x (picked xs part) e p) [ inl q ↦ subst (λ z. IsOneOf part z) q i | inr q ↦ h q ]
    go (inr n) h p = h p

picked_all : (xs part : List ℕ) (e : ℕ) → IsOneOf xs e → IsOneOf part e → IsOneOf (picked xs part) e
unfolding picked
picked_all [] part e o i = absurd (one_none e o)
picked_all (x ∷ xs) part e o i = go (member_told part x) (λ p. picked_all xs part e p i) (one_cases x xs e o)
  where
    go : (d : IsOneOf part x ⊎ (IsOneOf part x → ⊥)) → (IsOneOf xs e → IsOneOf (picked xs part) e)
        → (x ≡ e) ⊎ IsOneOf xs e → IsOneOf (⊎_elim (λ o. x ∷ picked xs part) (λ n. picked xs part) d) e
    go (inl q) h (inl s) = subst (λ z. IsOneOf (x ∷ picked xs part) z) s (one_first x (picked xs part))
    go (inl q) h (inr p) = one_rest x (picked xs part) e (h p)
    go (inr n) h (inl s) = absurd (n (subst (λ z. IsOneOf part z) (sym s) i))
    go (inr n) h (inr p) = h p

module _ (P : List ℕ → Type 0) (told : (set : List ℕ) → Told (P set))
    (same : (set other : List ℕ) → Within set other → Within other set → P set → P other) where
  -- a part with P that lacks some of the set
  abbrev Lesser : List ℕ → List ℕ → Type 0
  Lesser set part = (Within part set × (Within set part → ⊥)) × P part

  none_lesser : (set : List ℕ) → (((q : List ℕ) × Contains (parts set) q × Lesser set q) → ⊥) → (part : List ℕ)
      → Within part set → (Within set part → ⊥) → P part → ⊥
  none_lesser set none part w n p =
      let down : Within (picked set part) part = record { each = λ e o. picked_within set part e o } in
      let up : Within part (picked set part) = record { each = λ e o. picked_all set part e (w.each e o) o } in
      none (
        picked set part,
        picked_in set part,
        ((within_then down w, λ b. n (within_then b down)), same part (picked set part) up down p),
      )

  least_of : (set : List ℕ) (most : ℕ) (part : List ℕ) → counted set part < most → Within part set → P part
      → (q : List ℕ) × Within q set × IsLeast P q
  least_of set zero part c w p = absurd (omega (arith, c))
  least_of set (suc most) part c w p =
      go
      (some_told (Lesser part) (parts part)
      (λ q m. both_told (both_told (within_told q part) (not_told (within_told part q))) (told q)))
      (λ q d v r. least_of set most q d v r)
    where
      lesser : (q : List ℕ) → Lesser part q
          → ((q : List ℕ) → counted set q < most → Within q set → P q → (q : List ℕ) × Within q set × IsLeast P q)
          → Within part q ⊎ Left part q → (q : List ℕ) × Within q set × IsLeast P q
      lesser q h on (inl b) = absurd (h.0.1 b)
      lesser q h on (inr l) =
          let o = w.each l.event l.is_one in
          let d = fewer set q part l.event o.place h.0.0 o.stands l.is_one l.is_not in
          on q (omega (arith, c, d)) (within_then h.0.0 w) h.1

      go : Told ((q : List ℕ) × Contains (parts part) q × Lesser part q)
          → ((q : List ℕ) → counted set q < most → Within q set → P q → (q : List ℕ) × Within q set × IsLeast P q)
          → (q : List ℕ) × Within q set × IsLeast P q
      go (inl h) on = lesser h.0 h.2 on (decided part h.0)
      go (inr n) on = (part, w, from_words P (record { has = p; no_lesser = none_lesser part n }))

  pub least_there : (set : List ℕ) → P set → (q : List ℕ) × Within q set × IsLeast P q
  least_there set p = least_of set (suc (counted set set)) set (omega arith) (within_self set) p

-- Names of numbers, and the map of their places.
use Rattle.std.proofs.Common.{◌≡◌, ◌⊎◌, ⊎_elim, inl, inr, ℕ, ◌+◌, ◌<◌, ◌≤◌, ◌^◌, Bool, true, false, cond, ◌&&◌, eqb, List, [], ◌∷◌, ◌++◌, length, Option, Some, None, refl, sym, ap, ◌∙◌, subst, arith, eqb-true, length-append, true≢false}
use Rattle.std.specs.Option.{is_some}
use Rattle.std.specs.HashMap.{HashMap, Updates}
use Rattle.std.proofs.lemmas.Bool.{and_parts}
use Rattle.std.proofs.lemmas.List.{length-map}
use Rattle.ar_base.specs.Lists.{Stands, AreDifferent}
use Rattle.ar_base.specs.NumbersInside.{EventId, numbers_of}
use Rattle.ar_base.proofs.Few.{few_below}
use Rattle.ar_base.proofs.Standing.{stands_none, stands_left, stands_split, stands_next, stands_alone, stands_map_back}
use Rattle.zdd_nodes.proofs.Laws.{eqb-refl}
use Rattle.mode_diagrams.specs.Lacking.{same_event, tree_place_of, IsTreePut}
use Rattle.event_order.specs.Renumbered.{AreDistinct, IsNamed}
use Rattle.event_order.specs.Taking.{AreNumbersOf}

-- ---- names
pub named_left : (xs ys : List EventId) (e : ℕ) → IsNamed xs e → IsNamed (xs ++ ys) e
named_left xs ys e n = record {
  number = n.number;
  name = n.name;
  stands = stands_left xs ys n.number n.name n.stands;
  is = n.is;
}

pub named_split : (xs ys : List EventId) (e : ℕ) → IsNamed (xs ++ ys) e → IsNamed xs e ⊎ IsNamed ys e
named_split xs ys e n = ⊎_elim
    (λ p. inl (record { number = n.number; name = n.name; stands = p; is = n.is }))
    (λ p. inr (record { number = p.0; name = n.name; stands = p.2; is = n.is }))
    (stands_split xs ys n.number n.name n.stands)

named_only : (x : EventId) (e : ℕ) → IsNamed (x ∷ []) e → x.n ≡ e
named_only x e n =
    let a = stands_alone x n.number n.name n.stands in ap (λ (y : EventId). y.n) (sym a.1) ∙ n.is

pub named_next : (xs : List EventId) (x : EventId) (e : ℕ) → IsNamed (xs ++ x ∷ []) e → IsNamed xs e ⊎ (x.n ≡ e)
named_next xs x e n = ⊎_elim (λ l. inl l) (λ r. inr (named_only x e r)) (named_split xs (x ∷ []) e n)

pub named_last : (xs : List EventId) (x : EventId) → IsNamed (xs ++ x ∷ []) x.n
named_last xs x = record { number = length xs; name = x; stands = stands_next xs x []; is = refl }

-- ---- different names
distinct_none : AreDistinct []
distinct_none = record { one = λ i j m n p q e. absurd (stands_none i m p) }

distinct_more : (xs : List EventId) (x : EventId) → AreDistinct xs → (IsNamed xs x.n → ⊥) → AreDistinct (xs ++ x ∷ [])
distinct_more xs x d fresh = record {
  one = λ i j m n p q e. both i j m n e (stands_split xs (x ∷ []) i m p) (stands_split xs (x ∷ []) j n q);
}
  where
    none : (i : ℕ) (m n : EventId) → Stands xs i m → m.n ≡ n.n → (k : ℕ) → Stands (x ∷ []) k n → ⊥
    none i m n p e k q =
        let a = stands_alone x k n q in
        fresh (record { number = i; name = m; stands = p; is = e ∙ ap (λ (y : EventId). y.n) a.1 })

    both : (i j : ℕ) (m n : EventId) → m.n ≡ n.n
        → Stands xs i m ⊎ ((k : ℕ) × (i ≡ length xs + k) × Stands (x ∷ []) k m)
        → Stands xs j n ⊎ ((k : ℕ) × (j ≡ length xs + k) × Stands (x ∷ []) k n) → i ≡ j
    both i j m n e (inl p) (inl q) = d.one i j m n p q e
    both i j m n e (inl p) (inr q) = absurd (none i m n p e q.0 q.2)
    both i j m n e (inr p) (inl q) = absurd (none j n m q (sym e) p.0 p.2)
    both i j m n e (inr p) (inr q) =
        let a = (stands_alone x p.0 m p.2).0 in
        let b = (stands_alone x q.0 n q.2).0 in
        p.1 ∙ ap (λ k. length xs + k) (a ∙ sym b) ∙ sym q.1

different_numbers : (xs : List EventId) → AreDistinct xs → AreDifferent (numbers_of xs)
different_numbers xs d = record {
  one = λ i j a p q.
      let x = stands_map_back (λ (y : EventId). y.n) xs i a p in
      let y = stands_map_back (λ (y : EventId). y.n) xs j a q in
      d.one i j x.0 y.0 x.1 y.1 (x.2 ∙ sym y.2);
}

-- no more names than there are numbers for events
pub few_names : (xs : List EventId) → AreDistinct xs → ((e : ℕ) → IsNamed xs e → e < 2 ^ 32) → length xs ≤ 2 ^ 32
few_names xs d fit =
    subst (λ n. n ≤ 2 ^ 32) (length-map xs (λ (y : EventId). y.n))
    (few_below (2 ^ 32) (numbers_of xs) (different_numbers xs d)
    (λ e o. let x = stands_map_back (λ (y : EventId). y.n) xs o.place e o.stands in
    fit e (record { number = o.place; name = x.0; stands = x.1; is = x.2 })))

-- there is a number for one event more
pub room : (xs : List EventId) (x : EventId) → AreDistinct xs → ((e : ℕ) → IsNamed xs e → e < 2 ^ 32)
    → (IsNamed xs x.n → ⊥) → x.n < 2 ^ 32 → length xs < 2 ^ 32
room xs x d fit fresh fits =
    let l = few_names (xs ++ x ∷ []) (distinct_more xs x d fresh)
    (λ e n. ⊎_elim (λ y. fit e y) (λ q. subst (λ k. k < 2 ^ 32) q fits) (named_next xs x e n)) in
    omega (arith, l, length-append xs (x ∷ []))

-- ---- the map of places
pub numbers_none : {S : Type 0} (m : HashMap EventId ℕ S) → m.entries ≡ [] → AreNumbersOf [] m
numbers_none m n = record {
  distinct = distinct_none;
  fit = λ e x. absurd (stands_none x.number x.name x.stands);
  sound = λ e i h. absurd (nothing e i h);
  whole = λ e x. absurd (stands_none x.number x.name x.stands);
}
  where
    nothing : (e : EventId) (i : ℕ) → tree_place_of m e ≡ Some i → ⊥
    nothing e i h = let g = rw n at h in cc

module _ {S : Type 0} (xs : List EventId) (x : EventId) (old new : HashMap EventId ℕ S) (here : ℕ)
    (is_here : here ≡ length xs) (u : Updates same_event old new x (Some here)) (a : AreNumbersOf xs old)
    (fresh : IsNamed xs x.n → ⊥) (fits : x.n < 2 ^ 32) where
  found : (e : EventId) (i : ℕ) → tree_place_of new e ≡ Some i → (t : Bool) → same_event x e ≡ t
      → (n : EventId) × Stands (xs ++ x ∷ []) i n × (n.n ≡ e.n)
  found e i h true t =
      let s : Some i ≡ Some here = sym h ∙ u.0 e ∙ ap (λ c. cond c (Some here) (tree_place_of old e)) t in
      let same : i ≡ here = cc in
      let y = eqb-true x.n e.n (and_parts (eqb x.n e.n) true t).0 in
      (x, subst (λ k. Stands (xs ++ x ∷ []) k x) (sym (same ∙ is_here)) (stands_next xs x []), y)
  found e i h false t =
      let s : tree_place_of old e ≡ Some i = sym (u.0 e ∙ ap (λ c. cond c (Some here) (tree_place_of old e)) t) ∙ h in
      let w = a.sound e i s in
      (w.0, stands_left xs (x ∷ []) i w.0 w.1, w.2)

  still : (e : EventId) → IsTreePut old e → (t : Bool) → same_event x e ≡ t → IsTreePut new e
  still e p true t = (here, u.0 e ∙ ap (λ c. cond c (Some here) (tree_place_of old e)) t)
  still e p false t = (p.0, u.0 e ∙ ap (λ c. cond c (Some here) (tree_place_of old e)) t ∙ p.1)

  pub numbers_more : AreNumbersOf (xs ++ x ∷ []) new
  numbers_more = record {
    distinct = distinct_more xs x a.distinct fresh;
    fit = λ e n. ⊎_elim (λ l. a.fit e l) (λ q. subst (λ k. k < 2 ^ 32) q fits) (named_next xs x e n);
    sound = λ e i h. found e i h (same_event x e) refl;
    whole = λ e n. ⊎_elim
        (λ l. still e (a.whole e l) (same_event x e) refl)
        (λ q.
        let t : same_event x e ≡ true = ap (λ m. eqb m e.n && true) q ∙ ap (λ c. c && true) (eqb-refl e.n) in
        (here, u.0 e ∙ ap (λ c. cond c (Some here) (tree_place_of old e)) t))
        (named_next xs x e.n n);
  }

-- ---- what the map says
named_by : {S : Type 0} (xs : List EventId) (m : HashMap EventId ℕ S) → AreNumbersOf xs m → (e : EventId) (b : Bool)
    → (p : Option ℕ) → tree_place_of m e ≡ p → b ≡ is_some p → b ≡ true → IsNamed xs e.n
named_by xs m a e b (Some i) q is h =
    let w = a.sound e i q in record { number = i; name = w.0; stands = w.1; is = w.2 }
named_by xs m a e b None q is h = absurd (true≢false (sym h ∙ is))

pub has_number : {S : Type 0} (xs : List EventId) (m : HashMap EventId ℕ S) → AreNumbersOf xs m → (e : EventId) (b : Bool)
    → b ≡ is_some (tree_place_of m e) → b ≡ true → IsNamed xs e.n
has_number xs m a e b is h = named_by xs m a e b (tree_place_of m e) refl is h

pub has_none : {S : Type 0} (xs : List EventId) (m : HashMap EventId ℕ S) → AreNumbersOf xs m → (e : EventId) (b : Bool)
    → b ≡ is_some (tree_place_of m e) → b ≡ false → IsNamed xs e.n → ⊥
has_none xs m a e b is h n =
    let w = a.whole e n in absurd (true≢false (sym (is ∙ ap is_some w.1) ∙ h))

pub none_put : {S : Type 0} (xs : List EventId) (m : HashMap EventId ℕ S) → AreNumbersOf xs m → (e : EventId)
    → tree_place_of m e ≡ None → IsNamed xs e.n → ⊥
none_put xs m a e q n = let w = a.whole e n in let wrong : None ≡ Some w.0 = sym q ∙ w.1 in cc

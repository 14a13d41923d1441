-- A path from its root downward is what a set takes of the tree's edges, in their order.
use Rattle.std.proofs.Common.{◌≡◌, ⊎_elim, ℕ, zero, suc, ◌+◌, ◌<◌, Bool, true, false, cond, ◌||◌, eqb, List, [], ◌∷◌, ◌++◌, map, reverse, length, filter, refl, sym, ap, ap₂, ◌∙◌, subst, arith, true≢false, eqb-true, eq-eqb, append_assoc}
use Rattle.std.specs.List.{list_any}
use Rattle.std.proofs.lemmas.List.Elements.{filter-append}
use Rattle.std.proofs.lemmas.List.{reverse-append}
use Rattle.std.proofs.lemmas.Bool.{false_from_ne_true}
use Rattle.ar_base.specs.Lists.{Stands}
use Rattle.ar_base.proofs.Standing.{stands_left, stands_right, stands_split, stands_within}
use Rattle.domains.specs.declared.Value.{Value}
use Rattle.ar_meaning.specs.Runs.{Label}
use Rattle.ar_firing.specs.Forest.{Row, ModeTree}
use Rattle.ar_firing.specs.Trees.{IsTree}
use Rattle.firable_families.specs.FirableInside.{LeadsToMode}
use Rattle.firable_families.specs.FirableInside.LeadsToMode.{root, edge}

-- whether the edge has the event of one of the labels
abbrev pub on : List Label → Row → Bool
on ls r = list_any (λ l. eqb l.event r.label.event) ls

abbrev pub label_of : Row → Label
label_of r = r.label

-- a list at one of its places
split_at : (xs : List Row) (k : ℕ) (r : Row) → Stands xs k r
    → (f : List Row) × (b : List Row) × (xs ≡ f ++ r ∷ b) × (length f ≡ k)
split_at [] k r h = cc
split_at (x ∷ xs) zero r h = ([], xs, let e : x ≡ r = cc in ap (λ z. z ∷ xs) e, refl)
split_at (x ∷ xs) (suc k) r h = let i = split_at xs k r h in (x ∷ i.0, i.1, ap (λ z. x ∷ z) i.2, ap suc i.3)

pub same_tests : (p q : Row → Bool) (xs : List Row) → ((k : ℕ) (r : Row) → Stands xs k r → p r ≡ q r)
    → filter p xs ≡ filter q xs
same_tests p q [] h = refl
same_tests p q (x ∷ xs) h = ap₂ (λ b z. cond b (x ∷ z) z) (h zero x refl) (same_tests p q xs (λ k r i. h (suc k) r i))

none_pass : (p : Row → Bool) (xs : List Row) → ((k : ℕ) (r : Row) → Stands xs k r → p r ≡ false) → filter p xs ≡ []
none_pass p [] h = refl
none_pass p (x ∷ xs) h = ap (λ b. cond b (x ∷ filter p xs) (filter p xs)) (h zero x refl)
    ∙ none_pass p xs (λ k r i. h (suc k) r i)

pub on_some : (ls : List Label) (r : Row) → on ls r ≡ true
    → (k : ℕ) × (l : Label) × Stands ls k l × (l.event ≡ r.label.event)
on_some [] r h = absurd (true≢false (sym h))
on_some (l ∷ ls) r h = step (on_some ls r) (eqb l.event r.label.event) refl
  where
    step : (on ls r ≡ true → (k : ℕ) × (m : Label) × Stands ls k m × (m.event ≡ r.label.event)) → (b : Bool)
        → eqb l.event r.label.event ≡ b → (k : ℕ) × (m : Label) × Stands (l ∷ ls) k m × (m.event ≡ r.label.event)
    step ih true e = (zero, l, refl, eqb-true l.event r.label.event e)
    step ih false e = let i = ih (ap (λ b. b || on ls r) (sym e) ∙ h) in (suc i.0, i.1, i.2, i.3)

module _ (tree : ModeTree) (t : IsTree tree) where
  -- the edges of a path stand before an edge that goes on from it
  earlier : {ls : List Label} {m : Value} → LeadsToMode tree ls m → (k : ℕ) (r : Row) → Stands tree.edges k r → r.from
      ≡ m → (i : ℕ) (l : Label) → Stands ls i l → (j : ℕ) (q : Row) → Stands tree.edges j q → q.label.event ≡ l.event
      → j < k
  earlier (root e) k r h f i l a j q b w = cc
  earlier (edge {l = x} {ls = xs} {m = m} {to = to} p s) k r h f i l a j q b w =
      at (λ i a. earlier p s.place (record { from = m; label = x; to = to }) s.stands refl i l a j q b w) i a
    where
      before : s.place < k
      before = ⊎_elim
          (λ e. absurd (t.begins s.place (record { from = m; label = x; to = to }) s.stands (sym f ∙ e)))
          (λ o. let g : o.0 ≡ s.place = t.enters o.0 s.place o.1 (record { from = m; label = x; to = to }) o.3 s.stands
          (o.4 ∙ f) in omega (arith, o.2, g))
          (t.from k r h)

      at : ((i : ℕ) → Stands xs i l → j < s.place) → (i : ℕ) → Stands (x ∷ xs) i l → j < k
      at ih zero a =
          let e : x ≡ l = cc in
          let g : j ≡ s.place = t.event j s.place q (record { from = m; label = x; to = to }) b s.stands (w
          ∙ sym (ap (λ (z : Label). z.event) e)) in
          omega (arith, before, g)
      at ih (suc i) a = let g = ih i a in omega (arith, before, g)

  -- the edges with a path's events, in their order, are the path from its root downward; `front` is the first edges, as
  -- many as have those of the path
  pub in_front : {ls : List Label} {m : Value} → LeadsToMode tree ls m → (front back : List Row)
      → tree.edges ≡ front ++ back
      → ((i : ℕ) (l : Label) → Stands ls i l → (j : ℕ) (q : Row) → Stands tree.edges j q → q.label.event ≡ l.event
      → j < length front) → map label_of (filter (on ls) front) ≡ reverse ls
  in_front (root e) front back w h = ap (map label_of) (none_pass (on []) front (λ k r i. refl))
  in_front (edge {l = x} {ls = xs} {m = m} {to = to} p s) front back w h = step (λ f1 b1 e1 h1. in_front p f1 b1 e1 h1)
    where
      r : Row
      r = record { from = m; label = x; to = to }

      k : ℕ
      k = s.place

      inside : k < length front
      inside = h zero x refl k r s.stands refl

      stands_front : Stands front k r
      stands_front = ⊎_elim (λ y. y) (λ y. absurd (omega (arith, y.1, inside)))
          (stands_split front back k r (subst (λ z. Stands z k r) w s.stands))

      step : ((f1 b1 : List Row) → tree.edges ≡ f1 ++ b1
          → ((i : ℕ) (l : Label) → Stands xs i l → (j : ℕ) (q : Row) → Stands tree.edges j q → q.label.event ≡ l.event
          → j < length f1) → map label_of (filter (on xs) f1) ≡ reverse xs)
          → map label_of (filter (on (x ∷ xs)) front) ≡ reverse (x ∷ xs)
      step ih =
          let c = split_at front k r stands_front in
          let f1 = c.0 in
          let f2 = c.1 in
          let whole : tree.edges ≡ f1 ++ (r ∷ f2 ++ back) = w ∙ ap (λ z. z ++ back) c.2
          ∙ append_assoc f1 (r ∷ f2) back in
          let in_f1 = λ (j : ℕ) (q : Row) (i : Stands f1 j q). subst (λ z. Stands z j q) (sym whole)
          (stands_left f1 (r ∷ f2 ++ back) j q i) in
          let in_f2 = λ (j : ℕ) (q : Row) (i : Stands f2 j q). subst (λ z. Stands z (length f1 + suc j) q) (sym whole)
          (stands_right f1 (r ∷ f2 ++ back) (suc j) (length f1 + suc j) q refl (stands_left f2 back j q i)) in
          let first : filter (on (x ∷ xs)) f1 ≡ filter (on xs) f1 =
          same_tests (on (x ∷ xs)) (on xs) f1
          (λ j q i. ap (λ b. b || on xs q) (false_from_ne_true (eqb x.event q.label.event)
          (λ y. let g : j ≡ k = t.event j k q r (in_f1 j q i) s.stands (sym (eqb-true x.event q.label.event y)) in
          omega (arith, g, c.3, within f1 j q i)))) in
          let last : filter (on (x ∷ xs)) f2 ≡ [] =
          none_pass (on (x ∷ xs)) f2 (λ j q i. false_from_ne_true (on (x ∷ xs) q) (λ y.
          let o = on_some (x ∷ xs) q y in
          late (length f1 + suc j) q (in_f2 j q i) (omega (arith, c.3)) o.0 o.1 o.2 o.3)) in
          let here : on (x ∷ xs) r ≡ true = ap (λ b. b || on xs r) (eq-eqb x.event x.event refl) in
          ap (λ z. map label_of (filter (on (x ∷ xs)) z)) c.2
          ∙ ap (map label_of) (filter-append (on (x ∷ xs)) f1 (r ∷ f2)
          ∙ ap₂ (λ (a b : List Row). a ++ b) first
          (ap (λ b. cond b (r ∷ filter (on (x ∷ xs)) f2) (filter (on (x ∷ xs)) f2)) here ∙ ap (λ z. r ∷ z) last))
          ∙ map_last (filter (on xs) f1) r
          ∙ ap (λ z. z ++ x ∷ []) (ih f1 (r ∷ f2 ++ back) whole
          (λ i l a j q b e. subst (λ z. j < z) (sym c.3) (earlier p k r s.stands refl i l a j q b e)))
          ∙ sym (reverse-append (x ∷ []) xs)
        where
          within : (f1 : List Row) (j : ℕ) (q : Row) → Stands f1 j q → j < length f1
          within f1 j q i = stands_within f1 j q i

          late : (j : ℕ) (q : Row) → Stands tree.edges j q → k < j → (i : ℕ) (l : Label) → Stands (x ∷ xs) i l
              → l.event ≡ q.label.event → ⊥
          late j q b u zero l a e = let y : x ≡ l = cc in
              let g : j ≡ k = t.event j k q r b s.stands (sym e ∙ sym (ap (λ (z : Label). z.event) y)) in
              omega (arith, g, u)
          late j q b u (suc i) l a e = let g = earlier p k r s.stands refl i l a j q b (sym e) in omega (arith, g, u)

          map_last : (ys : List Row) (r : Row) → map label_of (ys ++ r ∷ []) ≡ map label_of ys ++ r.label ∷ []
          map_last [] r = refl
          map_last (y ∷ ys) r = ap (λ z. y.label ∷ z) (map_last ys r)

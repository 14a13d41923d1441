-- Each ascending set that is made of one set of each tree is one of what is left, and what is left is kept in order.
use Rattle.std.proofs.Common.{◌≡◌, ◌≢◌, ◌⊎◌, inl, inr, ⊎_elim, ℕ, zero, suc, ◌+◌, ◌<◌, Bool, true, false, not, cond, ◌||◌, eqb, List, [], ◌∷◌, map, refl, sym, ap, ◌∙◌, subst, arith, true≢false, eqb-true}
use Rattle.std.specs.List.{AllByRecursion, list_all}
use Rattle.std.proofs.lemmas.List.Folds.{list_any-append}
use Rattle.std.proofs.lemmas.Bool.Decides.{nat_tests}
use Rattle.std.proofs.lemmas.Bool.{false_from_ne_true}
use Rattle.ar_base.specs.Lists.{Stands}
use Rattle.ar_base.proofs.Standing.{stands_map}
use Rattle.zdd_nodes.specs.Families.{Family, same, holds, has}
use Rattle.zdd_nodes.specs.FamiliesInside.{node, IsFamily}
use Rattle.zdd_nodes.specs.Sections.{upper, lower, IsCounted}
use Rattle.zdd_nodes.proofs.Ascending.{IsAscending, ascends_from}
use Rattle.zdd_nodes.proofs.Laws.{has-filter-yes, IsAbove_set, holds_here, holds-above, holds_more}
use Rattle.zdd_nodes.proofs.Sections.{AtLeast}
use Rattle.zdd_nodes.proofs.Order.{IsFamily-node, IsFamily-nil, IsFamily-unit}
use Rattle.firable_families.specs.Walk.{left, after, could, all_lower, all_taken, some_occurs, occurs, taken}
use Rattle.firable_families.proofs.Walking.{at_least, above_all, left_above, left_section}
use Rattle.firable_families.proofs.Merging.{IsMerged, AreParted, map_stands, remove, remove_part, remove_other, remove_none, upper_has, lower_occurs, taken_occurs, has_map, place_some, place_all, holds_none, occurs_from}

pub left_family : (k i : ℕ) (fs : List Family) → IsFamily (left k i fs)
left_family zero i fs = elim (list_all (λ f. has f []) fs) as (λ b. IsFamily (cond b ([] ∷ []) []))
    [ true ↦ IsFamily-unit | false ↦ IsFamily-nil ]
left_family (suc k) i fs =
    let lo = left k (suc i) (all_lower i fs) in
    let taking = left k (suc i) (all_taken i fs) in
    elim (some_occurs i fs) as (λ b. IsFamily (node i lo (cond b taking []))) [
      | true ↦ IsFamily-node i lo taking (left_above i k (suc i) (all_lower i fs) (omega arith))
          (left_above i k (suc i) (all_taken i fs) (omega arith)) (left_family k (suc i) (all_lower i fs))
          (left_family k (suc i) (all_taken i fs))
      | false ↦ left_family k (suc i) (all_lower i fs)
    ]

parted_lower : (i : ℕ) (fs : List Family) → AreParted fs → AreParted (all_lower i fs)
parted_lower i fs p = record {
  one = λ m n e f g a b x y.
      let q = map_stands (lower i) fs m f a in
      let r = map_stands (lower i) fs n g b in
      p.one m n e q.0 r.0 q.1 r.1 (lower_occurs i e q.0 (ap (occurs e) (sym q.2) ∙ x))
      (lower_occurs i e r.0 (ap (occurs e) (sym r.2) ∙ y));
}

parted_taken : (i : ℕ) (fs : List Family) → AreParted fs → AreParted (all_taken i fs)
parted_taken i fs p = record {
  one = λ m n e f g a b x y.
      let q = map_stands (taken i) fs m f a in
      let r = map_stands (taken i) fs n g b in
      p.one m n e q.0 r.0 q.1 r.1 (taken_occurs i e q.0 (ap (occurs e) (sym q.2) ∙ x))
      (taken_occurs i e r.0 (ap (occurs e) (sym r.2) ∙ y));
}

remove_not : (i : ℕ) (s : List ℕ) → holds i (remove i s) ≡ true → ⊥
remove_not i [] h = holds_none i h
remove_not i (x ∷ s) h = step (remove_not i s) (eqb i x) refl
  where
    step : (holds i (remove i s) ≡ true → ⊥) → (b : Bool) → eqb i x ≡ b → ⊥
    step ih true q = ih (ap (λ b. holds i (cond (not b) (x ∷ remove i s) (remove i s))) (sym q) ∙ h)
    step ih false q = ih (ap (λ b. b || holds i (remove i s)) (sym q)
        ∙ ap (λ b. holds i (cond (not b) (x ∷ remove i s) (remove i s))) (sym q) ∙ h)

holds_other : (e x : ℕ) (s : List ℕ) → holds e (x ∷ s) ≡ true → (e ≡ x) ⊎ (holds e s ≡ true)
holds_other e x s h = step (eqb e x) refl
  where
    step : (b : Bool) → eqb e x ≡ b → (e ≡ x) ⊎ (holds e s ≡ true)
    step true q = inl (eqb-true e x q)
    step false q = inr (ap (λ b. b || holds e s) (sym q) ∙ h)

lower_merged : (i : ℕ) (fs : List Family) (s : List ℕ) → holds i s ≡ false → IsMerged fs s → IsMerged (all_lower i fs) s
lower_merged i fs s o m = record {
  choice = m.choice;
  each = λ n g k. let q = map_stands (lower i) fs n g k in subst (λ z. has z (m.choice n) ≡ true) (sym q.2) (has-filter-yes (λ t. not (holds i t)) (m.choice n) q.0 (ap not (out n q.0 q.1)) (m.each n q.0 q.1));
  sound = λ n g e k h. let q = map_stands (lower i) fs n g k in m.sound n q.0 e q.1 h;
  whole = λ e h. let r = m.whole e h in (r.0, lower i r.1, stands_map (lower i) fs r.0 r.1 r.2, r.3);
}
  where
    out : (n : ℕ) (f : Family) → Stands fs n f → holds i (m.choice n) ≡ false
    out n f k = false_from_ne_true (holds i (m.choice n)) (λ h. true≢false (sym (m.sound n f i k h) ∙ o))

some_taken : (i : ℕ) (fs : List Family) (u : List ℕ) → IsMerged fs (i ∷ u) → some_occurs i fs ≡ true
some_taken i fs u m = let w = m.whole i (holds_here i u) in place_some (occurs i) fs w.0 w.1 w.2 (occurs_from i w.1 (m.choice w.0) (m.each w.0 w.1 w.2) w.3)

taken_merged : (i : ℕ) (fs : List Family) (u : List ℕ) → AreParted fs → IsAbove_set i u → IsMerged fs (i ∷ u)
    → IsMerged (all_taken i fs) u
taken_merged i fs u p a m = record {
  choice = λ n. remove i (m.choice n);
  each = λ n g k. let q = map_stands (taken i) fs n g k in subst (λ z. has z (remove i (m.choice n)) ≡ true) (sym q.2) (each_of n q.0 q.1 (occurs i q.0) refl);
  sound = λ n g e k h.
      let q = map_stands (taken i) fs n g k in
      ⊎_elim (λ x. absurd (remove_not i (m.choice n) (ap (λ z. holds z (remove i (m.choice n))) (sym x) ∙ h))) (λ y. y)
      (holds_other e i u (m.sound n q.0 e q.1 (remove_part i e (m.choice n) h)));
  whole = λ e h.
      let r = m.whole e (holds_more e i u h) in (
        r.0,
        taken i r.1,
        stands_map (taken i) fs r.0 r.1 r.2,
        ⊎_elim (λ x. absurd (true≢false (sym h ∙ ap (λ z. holds z u) x ∙ holds-above i u a))) (λ y. y)
            (remove_other i e (m.choice r.0) r.3),
      );
}
  where
    each_of : (n : ℕ) (f : Family) → Stands fs n f → (b : Bool) → occurs i f ≡ b
        → has (taken i f) (remove i (m.choice n)) ≡ true
    each_of n f k true q =
        let w = m.whole i (holds_here i u) in
        let e : w.0 ≡ n = p.one w.0 n i w.1 f w.2 k (occurs_from i w.1 (m.choice w.0) (m.each w.0 w.1 w.2) w.3) q in
        ap (λ b. has (cond b (upper i f) f) (remove i (m.choice n))) q
        ∙ upper_has i f (m.choice n) (m.each n f k) (subst (λ z. holds i (m.choice z) ≡ true) e w.3)
    each_of n f k false q =
        let o : holds i (m.choice n) ≡ false =
        false_from_ne_true (holds i (m.choice n))
        (λ h. true≢false (sym (occurs_from i f (m.choice n) (m.each n f k) h) ∙ q)) in
        ap (λ b. has (cond b (upper i f) f) (remove i (m.choice n))) q ∙ ap (has f) (remove_none i (m.choice n) o)
        ∙ m.each n f k

has_low : (i : ℕ) (lo hi : Family) (s : List ℕ) → has lo s ≡ true → has (node i lo hi) s ≡ true
has_low i lo hi s h = list_any-append (same s) (map (λ t. i ∷ t) hi) lo ∙ or_second (has (map (λ t. i ∷ t) hi) s)
  where
    or_second : (b : Bool) → (b || has lo s) ≡ true
    or_second true = refl
    or_second false = h

has_high : (i : ℕ) (lo hi : Family) (u : List ℕ) → has hi u ≡ true → has (node i lo hi) (i ∷ u) ≡ true
has_high i lo hi u h = list_any-append (same (i ∷ u)) (map (λ t. i ∷ t) hi) lo
    ∙ ap (λ b. b || has lo (i ∷ u)) (has_map (λ t. i ∷ t) hi u h)

no_members : (t : List ℕ) → ((e : ℕ) → holds e t ≡ true → ⊥) → t ≡ []
no_members [] h = refl
no_members (x ∷ t) h = absurd (h x (holds_here x t))

pub left_whole : (k i e : ℕ) (fs : List Family) (s : List ℕ) → e ≡ k + i → AreParted fs → IsAscending s → AtLeast i s
    → AllByRecursion (λ x. x < e) s → IsMerged fs s → has (left k i fs) s ≡ true
left_whole zero i e fs [] q p a l u m =
    ap (λ b. has (cond b ([] ∷ []) []) [])
    (place_all (λ f. has f []) fs (λ n f k. ap (has f)
    (sym (no_members (m.choice n) (λ x h. holds_none x (m.sound n f x k h)))) ∙ m.each n f k))
left_whole zero i e fs (x ∷ s) q p a l u m = absurd (omega (arith, q, l.0, u.0))
left_whole (suc k) i e fs [] q p a l u m =
    has_low i (left k (suc i) (all_lower i fs)) (cond (some_occurs i fs) (left k (suc i) (all_taken i fs)) []) []
    (left_whole k (suc i) e (all_lower i fs) [] (omega (arith, q)) (parted_lower i fs p) tt tt tt
    (lower_merged i fs [] refl m))
left_whole (suc k) i e fs (x ∷ s) q p a l u m = step
    (λ r v. left_whole k (suc i) e (all_taken i fs) s (omega (arith, q)) (parted_taken i fs p) a.1
    (at_least i x s l.0 a.0) u.1 v)
    (λ h v. left_whole k (suc i) e (all_lower i fs) (x ∷ s) (omega (arith, q)) (parted_lower i fs p) a
    (omega (arith, h), at_least i x s l.0 a.0) u v)
    (eqb x i) refl
  where
    lo : Family
    lo = left k (suc i) (all_lower i fs)

    taking : Family
    taking = left k (suc i) (all_taken i fs)

    step : (x ≡ i → IsMerged (all_taken i fs) s → has taking s ≡ true)
        → (i < x → IsMerged (all_lower i fs) (x ∷ s) → has lo (x ∷ s) ≡ true) → (b : Bool) → eqb x i ≡ b
        → has (node i lo (cond (some_occurs i fs) taking [])) (x ∷ s) ≡ true
    step with_it without_it true h =
        let r : x ≡ i = eqb-true x i h in
        let m2 : IsMerged fs (i ∷ s) = subst (λ z. IsMerged fs (z ∷ s)) r m in
        let t = with_it r (taken_merged i fs s p (subst (λ z. IsAbove_set z s) r a.0) m2) in
        ap (λ z. has (node i lo (cond (some_occurs i fs) taking [])) (z ∷ s)) r
        ∙ has_high i lo (cond (some_occurs i fs) taking []) s
        (ap (λ b. has (cond b taking []) s) (some_taken i fs s m2) ∙ t)
    step with_it without_it false h =
        let less : i < x = grind (arith, nat_tests, h, l.0) in
        has_low i lo (cond (some_occurs i fs) taking []) (x ∷ s)
        (without_it less (lower_merged i fs (x ∷ s) (holds-above i (x ∷ s) (above_all i x s less a)) m))

-- each node of the walk is a counted section of the whole
pub left_counted : (n c k e : ℕ) (p : List ℕ) (fs : List Family) → n ≡ c + k → e ≡ c + 0 → IsAscending p → AtLeast 0 p
    → AllByRecursion (λ x. x < e) p
    → could c 0 p fs ≡ true → left k e (after c 0 p fs) ≢ [] → left k e (after c 0 p fs) ≢ [] ∷ []
    → IsCounted (left n 0 fs) (left k e (after c 0 p fs))
left_counted n c k e p fs m q a l u d x y = record {
  at = e;
  taken = p;
  taken_below = (ascends_from p a, u);
  is = ap (λ b. cond b (left k e (after c 0 p fs)) []) (sym d) ∙ sym (left_section c n k 0 e p fs m q a l u);
  not_empty = x;
  not_unit = y;
}

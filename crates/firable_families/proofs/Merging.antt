-- The sets of what is left are those that are made of one set of each tree.
use Rattle.std.proofs.Common.{◌≡◌, ◌⊎◌, inl, inr, ⊎_elim, ℕ, zero, suc, Bool, true, false, not, cond, ◌&&◌, ◌||◌, eqb, List, [], ◌∷◌, map, filter, get_or, refl, sym, ap, ap₂, ◌∙◌, subst, true≢false, eqb-true}
use Rattle.std.specs.List.{list_any, list_all}
use Rattle.std.proofs.lemmas.Bool.{and_parts}
use Rattle.std.proofs.lemmas.List.Folds.{list_any-append}
use Rattle.std.proofs.lemmas.Option.{get_or_from_slice_get}
use Rattle.ar_base.specs.Lists.{Stands}
use Rattle.ar_base.proofs.Standing.{stands_map, stands_map_back}
use Rattle.zdd_nodes.specs.Families.{Family, same, holds, has}
use Rattle.zdd_nodes.specs.Sections.{upper, lower}
use Rattle.zdd_nodes.proofs.Laws.{has-filter-yes, same-true, same-refl, any_more, holds_here, holds_more}
use Rattle.zdd_nodes.proofs.Minimal.{any_from, witness}
use Rattle.firable_families.proofs.Listing.{filter_part}
use Rattle.firable_families.specs.Walk.{left, all_lower, all_taken, some_occurs, occurs, taken}

-- the set is made of one set of each family, and has no other member
pub record IsMerged (fs : List Family) (set : List ℕ) : Type 0 where
  pub choice : ℕ → List ℕ
  pub each : (n : ℕ) (f : Family) → Stands fs n f → has f (choice n) ≡ true
  pub sound : (n : ℕ) (f : Family) (e : ℕ) → Stands fs n f → holds e (choice n) ≡ true → holds e set ≡ true
  pub whole : (e : ℕ) → holds e set ≡ true → (n : ℕ) × (f : Family) × Stands fs n f × (holds e (choice n) ≡ true)

-- no event is in sets of two of the families
pub record AreParted (fs : List Family) : Type 0 where
  pub one : (m n e : ℕ) (f g : Family) → Stands fs m f → Stands fs n g → occurs e f ≡ true → occurs e g ≡ true → m ≡ n

pub map_stands : {A B : Type 0} (g : A → B) (xs : List A) (n : ℕ) (y : B) → Stands (map g xs) n y
    → (x : A) × Stands xs n x × (y ≡ g x)
map_stands g xs n y i = let r = stands_map_back g xs n y i in (r.0, r.1, sym r.2)

-- ---- one event taken off
abbrev pub remove : ℕ → List ℕ → List ℕ
remove i s = filter (λ x. not (eqb i x)) s

remove_cons : (i x : ℕ) (s : List ℕ) → remove i (x ∷ s) ≡ cond (not (eqb i x)) (x ∷ remove i s) (remove i s)
remove_cons i x s = refl

pub remove_part : (i e : ℕ) (s : List ℕ) → holds e (remove i s) ≡ true → holds e s ≡ true
remove_part i e [] h = absurd (true≢false (sym h))
remove_part i e (x ∷ s) h = step (remove_part i e s) (eqb i x) refl
  where
    step : (holds e (remove i s) ≡ true → holds e s ≡ true) → (b : Bool) → eqb i x ≡ b → holds e (x ∷ s) ≡ true
    step ih true q = holds_more e x s (ih
        (ap (λ b. holds e (cond (not b) (x ∷ remove i s) (remove i s))) (sym q) ∙ ap (holds e) (sym (remove_cons i x s))
        ∙ h))
    step ih false q = first (eqb e x) refl
      where
        k : (eqb e x || holds e (remove i s)) ≡ true
        k = ap (λ b. holds e (cond (not b) (x ∷ remove i s) (remove i s))) (sym q)
            ∙ ap (holds e) (sym (remove_cons i x s)) ∙ h

        first : (b : Bool) → eqb e x ≡ b → holds e (x ∷ s) ≡ true
        first true r = ap (λ b. b || holds e s) r
        first false r = holds_more e x s (ih (ap (λ b. b || holds e (remove i s)) (sym r) ∙ k))

pub remove_other : (i e : ℕ) (s : List ℕ) → holds e s ≡ true → (e ≡ i) ⊎ (holds e (remove i s) ≡ true)
remove_other i e [] h = absurd (true≢false (sym h))
remove_other i e (x ∷ s) h = step (remove_other i e s) (eqb e x) refl (eqb i x) refl
  where
    at : (b : Bool) → eqb i x ≡ b → holds e (remove i (x ∷ s)) ≡ holds e (cond (not b) (x ∷ remove i s) (remove i s))
    at b q = ap (holds e) (remove_cons i x s) ∙ ap (λ c. holds e (cond (not c) (x ∷ remove i s) (remove i s))) q

    step : (holds e s ≡ true → (e ≡ i) ⊎ (holds e (remove i s) ≡ true)) → (b : Bool) → eqb e x ≡ b → (c : Bool)
        → eqb i x ≡ c → (e ≡ i) ⊎ (holds e (remove i (x ∷ s)) ≡ true)
    step ih true r true q = inl (eqb-true e x r ∙ sym (eqb-true i x q))
    step ih true r false q = inr (at false q ∙ ap (λ b. b || holds e (remove i s)) r)
    step ih false r true q = ⊎_elim (λ l. inl l) (λ k. inr (at true q ∙ k)) (ih (ap (λ b. b || holds e s) (sym r) ∙ h))
    step ih false r false q = ⊎_elim (λ l. inl l) (λ k. inr (at false q ∙ holds_more e x (remove i s) k))
        (ih (ap (λ b. b || holds e s) (sym r) ∙ h))

pub remove_none : (i : ℕ) (s : List ℕ) → holds i s ≡ false → remove i s ≡ s
remove_none i [] h = refl
remove_none i (x ∷ s) h = step (remove_none i s) (eqb i x) refl
  where
    step : (holds i s ≡ false → remove i s ≡ s) → (b : Bool) → eqb i x ≡ b → remove i (x ∷ s) ≡ x ∷ s
    step ih true q = absurd (true≢false (sym (ap (λ b. b || holds i s) q) ∙ h))
    step ih false q = remove_cons i x s ∙ ap (λ b. cond (not b) (x ∷ remove i s) (remove i s)) q
        ∙ ap (λ z. x ∷ z) (ih (ap (λ b. b || holds i s) (sym q) ∙ h))

-- ---- halves of one family
pub has_map : (g : List ℕ → List ℕ) (f : Family) (s : List ℕ) → has f s ≡ true → has (map g f) (g s) ≡ true
has_map g [] s h = absurd (true≢false (sym h))
has_map g (t ∷ f) s h = step (has_map g f s) (same s t) refl
  where
    step : (has f s ≡ true → has (map g f) (g s) ≡ true) → (b : Bool) → same s t ≡ b → has (map g (t ∷ f)) (g s) ≡ true
    step ih true e = ap (λ z. same (g s) (g z) || has (map g f) (g s)) (sym (same-true s t e))
        ∙ ap (λ b. b || has (map g f) (g s)) (same-refl (g s))
    step ih false e = any_more (same (g s)) (g t) (map g f) (ih (ap (λ b. b || has f s) (sym e) ∙ h))

pub map_has : (g : List ℕ → List ℕ) (f : Family) (u : List ℕ) → has (map g f) u ≡ true
    → (t : List ℕ) × (has f t ≡ true) × (u ≡ g t)
map_has g [] u h = absurd (true≢false (sym h))
map_has g (t ∷ f) u h = step (map_has g f u) (same u (g t)) refl
  where
    step : (has (map g f) u ≡ true → (t : List ℕ) × (has f t ≡ true) × (u ≡ g t)) → (b : Bool) → same u (g t) ≡ b
        → (v : List ℕ) × (has (t ∷ f) v ≡ true) × (u ≡ g v)
    step ih true e = (t, ap (λ b. b || has f t) (same-refl t), same-true u (g t) e)
    step ih false e = let r = ih (ap (λ b. b || has (map g f) u) (sym e) ∙ h) in (r.0, any_more (same r.0) t f r.1, r.2)

pub upper_has : (i : ℕ) (f : Family) (t : List ℕ) → has f t ≡ true → holds i t ≡ true
    → has (upper i f) (remove i t) ≡ true
upper_has i f t h k = has_map (filter (λ x. not (eqb i x))) (filter (holds i) f) t (has-filter-yes (holds i) t f k h)

has_upper : (i : ℕ) (f : Family) (u : List ℕ) → has (upper i f) u ≡ true
    → (t : List ℕ) × (has f t ≡ true) × (holds i t ≡ true) × (u ≡ remove i t)
has_upper i f u h = let r = map_has (filter (λ x. not (eqb i x))) (filter (holds i) f) u h in let q = filter_part (holds i) f r.0 r.1 in (r.0, q.0, q.1, r.2)

pub occurs_from : (e : ℕ) (f : Family) (t : List ℕ) → has f t ≡ true → holds e t ≡ true → occurs e f ≡ true
occurs_from e f t h k = any_from (holds e) f t h k

pub lower_occurs : (i e : ℕ) (f : Family) → occurs e (lower i f) ≡ true → occurs e f ≡ true
lower_occurs i e f h =
    let w = witness (holds e) (lower i f) h in
    occurs_from e f w.set (filter_part (λ s. not (holds i s)) f w.set w.in_family).0 w.passes

pub taken_occurs : (i e : ℕ) (f : Family) → occurs e (taken i f) ≡ true → occurs e f ≡ true
taken_occurs i e f h = step (occurs i f) refl
  where
    step : (b : Bool) → occurs i f ≡ b → occurs e f ≡ true
    step true q =
        let w = witness (holds e) (upper i f) (ap (λ b. occurs e (cond b (upper i f) f)) (sym q) ∙ h) in
        let r = has_upper i f w.set w.in_family in
        occurs_from e f r.0 r.1 (remove_part i e r.0 (ap (holds e) (sym r.3) ∙ w.passes))
    step false q = ap (λ b. occurs e (cond b (upper i f) f)) (sym q) ∙ h

-- ---- the first set of a family that passes a test
abbrev pick : (List ℕ → Bool) → Family → List ℕ
pick p [] = []
pick p (t ∷ f) = cond (p t) t (pick p f)

picked : (p : List ℕ → Bool) (f : Family) (t : List ℕ) → has f t ≡ true → p t ≡ true
    → (has f (pick p f) ≡ true) × (p (pick p f) ≡ true)
picked p [] t h k = absurd (true≢false (sym h))
picked p (u ∷ f) t h k = step (picked p f t) (p u) refl
  where
    chosen : Bool → List ℕ
    chosen b = cond b u (pick p f)

    step : (has f t ≡ true → p t ≡ true → (has f (pick p f) ≡ true) × (p (pick p f) ≡ true)) → (b : Bool) → p u ≡ b
        → (has (u ∷ f) (chosen (p u)) ≡ true) × (p (chosen (p u)) ≡ true)
    step ih true e = (
      ap (λ b. has (u ∷ f) (chosen b)) e
          ∙ ap (λ b. b || has f u) (same-refl u),
      ap (λ b. p (chosen b)) e ∙ e,
    )
    step ih false e = at (same t u) refl
      where
        at : (c : Bool) → same t u ≡ c → (has (u ∷ f) (chosen (p u)) ≡ true) × (p (chosen (p u)) ≡ true)
        at true d = absurd (true≢false (sym k ∙ ap p (same-true t u d) ∙ e))
        at false d =
            let r = ih (ap (λ b. b || has f t) (sym d) ∙ h) k in
            (ap (λ b. has (u ∷ f) (chosen b)) e ∙ any_more (same (pick p f)) u f r.0, ap (λ b. p (chosen b)) e ∙ r.1)

pub some_place : (p : Family → Bool) (fs : List Family) → list_any p fs ≡ true
    → (n : ℕ) × (f : Family) × Stands fs n f × (p f ≡ true)
some_place p [] h = absurd (true≢false (sym h))
some_place p (f ∷ fs) h = step (some_place p fs) (p f) refl
  where
    step : (list_any p fs ≡ true → (n : ℕ) × (f : Family) × Stands fs n f × (p f ≡ true)) → (b : Bool) → p f ≡ b
        → (n : ℕ) × (g : Family) × Stands (f ∷ fs) n g × (p g ≡ true)
    step ih true e = (zero, f, refl, e)
    step ih false e = let r = ih (ap (λ b. b || list_any p fs) (sym e) ∙ h) in (suc r.0, r.1, r.2, r.3)

pub place_some : (p : Family → Bool) (fs : List Family) (n : ℕ) (f : Family) → Stands fs n f → p f ≡ true
    → list_any p fs ≡ true
place_some p [] n f i h = cc
place_some p (g ∷ fs) zero f i h = let e : g ≡ f = cc in ap (λ z. p z || list_any p fs) e ∙ ap (λ b. b || list_any p fs) h
place_some p (g ∷ fs) (suc n) f i h =
    elim (p g) as (λ b. (b || list_any p fs) ≡ true) [ true ↦ refl | false ↦ place_some p fs n f i h ]

pub all_place : (p : Family → Bool) (fs : List Family) → list_all p fs ≡ true → (n : ℕ) (f : Family) → Stands fs n f
    → p f ≡ true
all_place p [] h n f i = cc
all_place p (g ∷ fs) h zero f i = let e : g ≡ f = cc in ap p (sym e) ∙ (and_parts (p g) (list_all p fs) h).0
all_place p (g ∷ fs) h (suc n) f i = all_place p fs (and_parts (p g) (list_all p fs) h).1 n f i

pub place_all : (p : Family → Bool) (fs : List Family) → ((n : ℕ) (f : Family) → Stands fs n f → p f ≡ true)
    → list_all p fs ≡ true
place_all p [] h = refl
place_all p (g ∷ fs) h = ap₂ (λ a b. a && b) (h zero g refl) (place_all p fs (λ n f i. h (suc n) f i))

-- ---- each set of what is left is made of one set of each tree
pub holds_none : (e : ℕ) → holds e [] ≡ true → ⊥
holds_none e h = true≢false (sym h)

merged_lower : (i : ℕ) (fs : List Family) (s : List ℕ) → IsMerged (all_lower i fs) s → IsMerged fs s
merged_lower i fs s m = record {
  choice = m.choice;
  each = λ n f k. (filter_part (λ t. not (holds i t)) f (m.choice n)
      (m.each n (lower i f) (stands_map (lower i) fs n f k))).0;
  sound = λ n f e k h. m.sound n (lower i f) e (stands_map (lower i) fs n f k) h;
  whole = λ e h. let r = m.whole e h in let q = map_stands (lower i) fs r.0 r.1 r.2 in (r.0, q.0, q.1, r.3);
}

merged_taken : (i : ℕ) (fs : List Family) (u : List ℕ) → some_occurs i fs ≡ true → IsMerged (all_taken i fs) u
    → IsMerged fs (i ∷ u)
merged_taken i fs u o m = record {
  choice = λ n. chosen n (get_or fs n []);
  each = λ n f k. subst (λ z. has f (chosen n z) ≡ true) (sym (get_or_from_slice_get fs n f [] k))
      (each_of n f (in_taken n f k) (occurs i f) refl);
  sound = λ n f e k h. sound_of n f e k (ap (λ z. holds e (chosen n z)) (sym (get_or_from_slice_get fs n f [] k)) ∙ h)
      (occurs i f) refl;
  whole = λ e h. whole_of e (eqb e i) refl h;
}
  where
    test : ℕ → List ℕ → Bool
    test n t = holds i t && same (m.choice n) (remove i t)

    chosen : ℕ → Family → List ℕ
    chosen n f = cond (occurs i f) (pick (test n) f) (m.choice n)

    in_taken : (n : ℕ) (f : Family) → Stands fs n f → has (taken i f) (m.choice n) ≡ true
    in_taken n f k = m.each n (taken i f) (stands_map (taken i) fs n f k)

    from_upper : (n : ℕ) (f : Family) → has (taken i f) (m.choice n) ≡ true → occurs i f ≡ true
        → (has f (pick (test n) f) ≡ true) × (test n (pick (test n) f) ≡ true)
    from_upper n f h q =
        let r = has_upper i f (m.choice n) (ap (λ b. has (cond b (upper i f) f) (m.choice n)) (sym q) ∙ h) in
        picked (test n) f r.0 r.1 (ap₂ (λ a b. a && b) r.2
        (ap (λ z. same (m.choice n) z) (sym r.3) ∙ same-refl (m.choice n)))

    each_of : (n : ℕ) (f : Family) → has (taken i f) (m.choice n) ≡ true → (b : Bool) → occurs i f ≡ b
        → has f (chosen n f) ≡ true
    each_of n f h true q = ap (λ b. has f (cond b (pick (test n) f) (m.choice n))) q ∙ (from_upper n f h q).0
    each_of n f h false q = ap (λ b. has f (cond b (pick (test n) f) (m.choice n))) q
        ∙ ap (λ b. has (cond b (upper i f) f) (m.choice n)) (sym q) ∙ h

    sound_of : (n : ℕ) (f : Family) (e : ℕ) → Stands fs n f → holds e (chosen n f) ≡ true → (b : Bool) → occurs i f ≡ b
        → holds e (i ∷ u) ≡ true
    sound_of n f e k h true q =
        let p = from_upper n f (in_taken n f k) q in
        let t = and_parts (holds i (pick (test n) f)) (same (m.choice n) (remove i (pick (test n) f))) p.1 in
        ⊎_elim (λ x. ap (λ z. holds z (i ∷ u)) x ∙ holds_here i u)
        (λ y. holds_more e i u (m.sound n (taken i f) e (stands_map (taken i) fs n f k)
        (ap (holds e) (same-true (m.choice n) (remove i (pick (test n) f)) t.1) ∙ y)))
        (remove_other i e (pick (test n) f) (ap (λ b. holds e (cond b (pick (test n) f) (m.choice n))) (sym q) ∙ h))
    sound_of n f e k h false q = holds_more e i u
        (m.sound n (taken i f) e (stands_map (taken i) fs n f k)
        (ap (λ b. holds e (cond b (pick (test n) f) (m.choice n))) (sym q) ∙ h))

    at_place : (e n : ℕ) (f : Family) → Stands fs n f → holds e (chosen n f) ≡ true
        → holds e (chosen n (get_or fs n [])) ≡ true
    at_place e n f k h = ap (λ z. holds e (chosen n z)) (get_or_from_slice_get fs n f [] k) ∙ h

    kept_in : (e n : ℕ) (f : Family) → Stands fs n f → holds e (m.choice n) ≡ true → (b : Bool) → occurs i f ≡ b
        → holds e (chosen n f) ≡ true
    kept_in e n f k h true q =
        let p = from_upper n f (in_taken n f k) q in
        let t = and_parts (holds i (pick (test n) f)) (same (m.choice n) (remove i (pick (test n) f))) p.1 in
        ap (λ b. holds e (cond b (pick (test n) f) (m.choice n))) q
        ∙ remove_part i e (pick (test n) f)
        (ap (holds e) (sym (same-true (m.choice n) (remove i (pick (test n) f)) t.1)) ∙ h)
    kept_in e n f k h false q = ap (λ b. holds e (cond b (pick (test n) f) (m.choice n))) q ∙ h

    whole_of : (e : ℕ) (b : Bool) → eqb e i ≡ b → (b || holds e u) ≡ true
        → (n : ℕ) × (f : Family) × Stands fs n f × (holds e (chosen n (get_or fs n [])) ≡ true)
    whole_of e true q h =
        let w = some_place (occurs i) fs o in
        let p = from_upper w.0 w.1 (in_taken w.0 w.1 w.2) w.3 in
        let t = and_parts (holds i (pick (test w.0) w.1)) (same (m.choice w.0) (remove i (pick (test w.0) w.1))) p.1 in (
          w.0,
          w.1,
          w.2,
          at_place e w.0 w.1 w.2
              (ap (λ b. holds e (cond b (pick (test w.0) w.1) (m.choice w.0))) w.3
              ∙ ap (λ z. holds z (pick (test w.0) w.1)) (eqb-true e i q) ∙ t.0),
        )
    whole_of e false q h =
        let r = m.whole e h in
        let y = map_stands (taken i) fs r.0 r.1 r.2 in
        (r.0, y.0, y.1, at_place e r.0 y.0 y.1 (kept_in e r.0 y.0 y.1 r.3 (occurs i y.0) refl))

pub left_sound : (k i : ℕ) (fs : List Family) (s : List ℕ) → has (left k i fs) s ≡ true → IsMerged fs s
left_sound zero i fs s h = step (list_all (λ f. has f []) fs) refl
  where
    step : (b : Bool) → list_all (λ f. has f []) fs ≡ b → IsMerged fs s
    step true e =
        let g : has ([] ∷ []) s ≡ true = ap (λ b. has (cond b ([] ∷ []) []) s) (sym e) ∙ h in
        let q : s ≡ [] = same-true s [] (or_none (same s []) g) in
        record {
          choice = λ n. [];
          each = λ n f k. all_place (λ f. has f []) fs e n f k;
          sound = λ n f e k x. absurd (holds_none e x);
          whole = λ e x. absurd (holds_none e (ap (holds e) (sym q) ∙ x));
        }
      where
        or_none : (b : Bool) → (b || false) ≡ true → b ≡ true
        or_none true x = x
        or_none false x = x
    step false e = absurd (true≢false (sym (ap (λ b. has (cond b ([] ∷ []) []) s) (sym e) ∙ h)))
left_sound (suc k) i fs s h = step (λ u x. left_sound k (suc i) (all_taken i fs) u x)
    (λ x. left_sound k (suc i) (all_lower i fs) s x) (has (map (λ t. i ∷ t) hi) s) refl
  where
    lo : Family
    lo = left k (suc i) (all_lower i fs)

    taking : Family
    taking = left k (suc i) (all_taken i fs)

    hi : Family
    hi = cond (some_occurs i fs) taking []

    with_it : (u : List ℕ) → (has taking u ≡ true → IsMerged (all_taken i fs) u) → has hi u ≡ true → (b : Bool)
        → some_occurs i fs ≡ b → IsMerged fs (i ∷ u)
    with_it u ih x true e = merged_taken i fs u e (ih (ap (λ b. has (cond b taking []) u) (sym e) ∙ x))
    with_it u ih x false e = absurd (true≢false (sym (ap (λ b. has (cond b taking []) u) (sym e) ∙ x)))

    step : ((u : List ℕ) → has taking u ≡ true → IsMerged (all_taken i fs) u)
        → (has lo s ≡ true → IsMerged (all_lower i fs) s) → (b : Bool) → has (map (λ t. i ∷ t) hi) s ≡ b → IsMerged fs s
    step ih jh true e = let r = map_has (λ t. i ∷ t) hi s e in subst (IsMerged fs) (sym r.2) (with_it r.0 (ih r.0) r.1 (some_occurs i fs) refl)
    step ih jh false e = merged_lower i fs s
        (jh (ap (λ b. b || has lo s) (sym e) ∙ sym (list_any-append (same s) (map (λ t. i ∷ t) hi) lo) ∙ h))

-- Short forms of sets with an event of a unit.
use Rattle.std.proofs.Common.{◌≡◌, ◌≢◌, ◌⊎◌, inl, inr, ℕ, zero, suc, ◌<◌, ◌≤◌, Bool, true, false, not, cond, ◌||◌, ◌&&◌, List, [], ◌∷◌, ◌++◌, filter, map, length, refl, sym, ap, ap₂, ◌∙◌, subst, true≢false, append_assoc, get_or, arith}
use Rattle.std.specs.List.{AllByRecursion, list_any, flat_map}
use Rattle.std.proofs.lemmas.List.{map-append}
use Rattle.std.proofs.lemmas.List.Folds.{list_any-append}
use Rattle.ar_base.specs.Lists.{IsOneOf}
use Rattle.ar_base.proofs.Standing.{one_first, one_rest, one_cases, one_none, stands_map_back, one_here, stands_map}
use Rattle.zdd_nodes.specs.Families.{Family, same}
use Rattle.zdd_nodes.specs.FamiliesInside.{node, IsAbove}
use Rattle.zdd_nodes.specs.Behind.{behind_events}
use Rattle.zdd_nodes.proofs.Laws.{IsAbove_set, same-true, same-above, eqb-refl, each_of}
use Rattle.zdd_nodes.proofs.Behind.{behind_node}
use Rattle.gate_modules.specs.Forms.{AreOfDifferentUnits}
use Rattle.gate_modules.specs.Modules.{lies}
use Rattle.gate_modules.specs.Shortened.{ShortForm, touches, is_covered, short_form, units_where, same_form, once}
use Rattle.gate_modules.specs.ShortenedInside.{event_numbers}
use Rattle.ar_base.specs.NumbersInside.{EventId}
use Rattle.zdd_nodes.specs.Nodes.{Stored, family}
use Rattle.zdd_nodes.specs.Bounds.{AtLeast}
use Rattle.gate_modules.specs.declared.ranges.Range.{Range}
use Rattle.gate_modules.proofs.Exchange.{AllIn, not_high}
use Rattle.gate_modules.proofs.Once.{is_new, repeated, once_apart, once_repeated}
use Rattle.gate_modules.proofs.Splitting.{filter_both, filter_none, all_weaker, all_filter}

-- ---- tests of the ranges
pub touches_both : (s t : List ℕ) (c : Range) → touches (s ++ t) c ≡ (touches s c || touches t c)
touches_both s t c = list_any-append (lies c) s t

pub covered_in : (chosen : List Range) (r : Range) (x : ℕ) → IsOneOf chosen r → lies r x ≡ true
    → is_covered chosen x ≡ true
covered_in [] r x i h = absurd (one_none r i)
covered_in (c ∷ chosen) r x i h = elim (one_cases c chosen r i) [
  | inl e ↦ ap (λ b. b || is_covered chosen x) (ap (λ z. lies z x) e ∙ h)
  | inr j ↦ ap (λ b. lies c x || b) (covered_in chosen r x j h) ∙ or_true (lies c x)
]
  where
    or_true : (b : Bool) → (b || true) ≡ true
    or_true true = refl
    or_true false = refl

-- an uncovered event is of no range
pub uncovered_in : (chosen : List Range) (r : Range) (x : ℕ) → IsOneOf chosen r → is_covered chosen x ≡ false
    → lies r x ≡ false
uncovered_in chosen r x i h = step (lies r x) refl
  where
    step : (b : Bool) → lies r x ≡ b → lies r x ≡ false
    step true e = absurd (true≢false (sym (covered_in chosen r x i e) ∙ h))
    step false e = e

pub touches_some : (a : List ℕ) (r : Range) → a ≢ [] → AllIn r a → touches a r ≡ true
touches_some [] r n h = absurd (n refl)
touches_some (x ∷ a) r n h = ap (λ b. b || touches a r) h.0

pub touches_none : (a : List ℕ) (c : Range) → AllByRecursion (λ x. lies c x ≡ false) a → touches a c ≡ false
touches_none [] c h = refl
touches_none (x ∷ a) c h = ap₂ (λ b d. b || d) h.0 (touches_none a c h.1)

pub touches_high : (a : List ℕ) (c : Range) → AtLeast c.to a → touches a c ≡ false
touches_high a c h = touches_none a c (all_weaker (λ x. c.to ≤ x) (λ x. lies c x ≡ false) (λ x l. not_high c x l) a h)

-- ---- lists of ranges
pub all_members : (P : Range → Type 0) (xs : List Range) → ((c : Range) → IsOneOf xs c → P c) → AllByRecursion P xs
all_members P [] h = tt
all_members P (c ∷ xs) h = (h c (one_first c xs), all_members P xs (λ d i. h d (one_rest c xs d i)))

pub filter_same : (p q : Range → Bool) (xs : List Range) → AllByRecursion (λ c. p c ≡ q c) xs
    → filter p xs ≡ filter q xs
filter_same p q [] h = refl
filter_same p q (c ∷ xs) h = ap₂ (λ b z. cond b (c ∷ z) z) h.0 (filter_same p q xs h.1)

-- a passing range stays
pub one_passes : (q : Range → Bool) (xs : List Range) (r : Range) → IsOneOf xs r → q r ≡ true → IsOneOf (filter q xs) r
one_passes q [] r i h = absurd (one_none r i)
one_passes q (c ∷ xs) r i h = step (one_passes q xs r) (q c) refl (one_cases c xs r i)
  where
    step : (IsOneOf xs r → q r ≡ true → IsOneOf (filter q xs) r) → (b : Bool) → q c ≡ b → (c ≡ r) ⊎ IsOneOf xs r
        → IsOneOf (filter q (c ∷ xs)) r
    step ih true e (inl is) = subst (λ b. IsOneOf (cond b (c ∷ filter q xs) (filter q xs)) r) (sym e)
        (subst (λ z. IsOneOf (z ∷ filter q xs) r) (sym is) (one_first r (filter q xs)))
    step ih true e (inr j) = subst (λ b. IsOneOf (cond b (c ∷ filter q xs) (filter q xs)) r) (sym e)
        (one_rest c (filter q xs) r (ih j h))
    step ih false e (inl is) = absurd (true≢false (sym h ∙ sym (ap q is) ∙ e))
    step ih false e (inr j) = subst (λ b. IsOneOf (cond b (c ∷ filter q xs) (filter q xs)) r) (sym e) (ih j h)

pub passed_one : (q : Range → Bool) (xs : List Range) (r : Range) → IsOneOf (filter q xs) r
    → IsOneOf xs r × (q r ≡ true)
passed_one q [] r i = absurd (one_none r i)
passed_one q (c ∷ xs) r i = step (passed_one q xs r) (q c) refl
  where
    step : (IsOneOf (filter q xs) r → IsOneOf xs r × (q r ≡ true)) → (b : Bool) → q c ≡ b
        → IsOneOf (c ∷ xs) r × (q r ≡ true)
    step ih true e = elim (one_cases c (filter q xs) r
        (subst (λ b. IsOneOf (cond b (c ∷ filter q xs) (filter q xs)) r) e i)) [
          | inl is ↦ (subst (λ z. IsOneOf (c ∷ xs) z) is (one_first c xs), sym (ap q is) ∙ e)
          | inr j ↦ let t = ih j in (one_rest c xs r t.0, t.1)
        ]
    step ih false e = let t = ih (subst (λ b. IsOneOf (cond b (c ∷ filter q xs) (filter q xs)) r) e i) in (one_rest c xs r t.0, t.1)

pub unit_there : (q : Range → Bool) (chosen : List Range) (r : Range) → IsOneOf chosen r → q r ≡ true
    → IsOneOf (units_where q chosen) r.unit.n
unit_there q chosen r i h = let j = one_passes q chosen r i h in record { place = j.place; stands = stands_map (λ (c : Range). c.unit.n) (filter q chosen) j.place r j.stands }

pub there_passes : (q : Range → Bool) (chosen : List Range) → AreOfDifferentUnits chosen → (r : Range)
    → IsOneOf chosen r → IsOneOf (units_where q chosen) r.unit.n → q r ≡ true
there_passes q chosen d r i j =
    let b = stands_map_back (λ (c : Range). c.unit.n) (filter q chosen) j.place r.unit.n j.stands in
    let t = passed_one q chosen b.0 (one_here (filter q chosen) j.place b.0 b.1) in
    ap q (d.units r b.0 i t.0 (sym b.2)) ∙ t.1

-- ---- forms that differ
pub new_from : (xs : List ShortForm) (y : ShortForm) → AllByRecursion (λ a. same_form a y ≡ false) xs
    → is_new xs y ≡ true
new_from [] y h = refl
new_from (a ∷ xs) y h = ap (λ b. not (b || list_any (λ c. same_form c y) xs)) h.0 ∙ new_from xs y h.1

and_left : (a b : Bool) → a ≡ false → (a && b) ≡ false
and_left a b e = ap (λ z. z && b) e

and_right : (a b : Bool) → b ≡ false → (a && b) ≡ false
and_right true b e = e
and_right false b e = refl

same_front : (p s t : List ℕ) → same (p ++ s) (p ++ t) ≡ same s t
same_front [] s t = refl
same_front (x ∷ p) s t = ap (λ b. b && same (p ++ s) (p ++ t)) (eqb-refl x) ∙ same_front p s t

all_mapped : (P : ShortForm → Type 0) (g : List ℕ → ShortForm) (f : Family) → AllByRecursion (λ s. P (g s)) f
    → AllByRecursion P (map g f)
all_mapped P g [] h = tt
all_mapped P g (s ∷ f) h = (h.0, all_mapped P g f h.1)

all_behind : (P : List ℕ → Type 0) (p : List ℕ) (f : Family) → AllByRecursion (λ s. P (p ++ s)) f
    → AllByRecursion P (behind_events p f)
all_behind P p [] h = tt
all_behind P p (s ∷ f) h = (h.0, all_behind P p f h.1)

every : (P : List ℕ → Type 0) (f : Family) → ((s : List ℕ) → P s) → AllByRecursion P f
every P [] h = tt
every P (s ∷ f) h = (h s, every P f h)

module _ (chosen : List Range) (d : AreOfDifferentUnits chosen) (taken : List ℕ) (v : ℕ) where
  -- the forms of these sets behind the taken events and v, and of those behind the taken events
  abbrev pub with_v : Family → List ShortForm
  with_v X = map (short_form chosen) (behind_events (taken ++ v ∷ []) X)

  abbrev pub without_v : Family → List ShortForm
  without_v R = map (short_form chosen) (behind_events taken R)

  all_differ : (X R : Family) (A B : List ℕ → Type 0) → AllByRecursion A X → AllByRecursion B R
      → ((s t : List ℕ) → A s → B t → same_form (short_form chosen ((taken ++ v ∷ []) ++ s))
      (short_form chosen (taken ++ t)) ≡ false)
      → AllByRecursion (λ b. is_new (with_v X) b ≡ true) (without_v R)
  all_differ X R A B ax br h =
      all_mapped (λ b. is_new (with_v X) b ≡ true) (short_form chosen) (behind_events taken R)
      (all_behind (λ s. is_new (with_v X) (short_form chosen s) ≡ true) taken R
      (each_of B (λ t. is_new (with_v X) (short_form chosen (taken ++ t)) ≡ true)
      (λ t bt. new_from (with_v X) (short_form chosen (taken ++ t))
      (all_mapped (λ a. same_form a (short_form chosen (taken ++ t)) ≡ false) (short_form chosen)
      (behind_events (taken ++ v ∷ []) X)
      (all_behind (λ s. same_form (short_form chosen s) (short_form chosen (taken ++ t)) ≡ false) (taken ++ v ∷ []) X
      (each_of A (λ s. same_form (short_form chosen ((taken ++ v ∷ []) ++ s)) (short_form chosen (taken ++ t)) ≡ false)
      (λ s a. h s t a bt) X ax)))) R br))

  -- where v is of no unit, the events tell the forms apart
  events_with : is_covered chosen v ≡ false → (s : List ℕ)
      → filter (λ e. not (is_covered chosen e)) ((taken ++ v ∷ []) ++ s)
      ≡ filter (λ e. not (is_covered chosen e)) taken ++ (v ∷ filter (λ e. not (is_covered chosen e)) s)
  events_with u s =
      let q = λ (e : ℕ). not (is_covered chosen e) in
      ap (filter q) (append_assoc taken (v ∷ []) s) ∙ filter_both q taken (v ∷ s)
      ∙ ap (λ z. filter q taken ++ z) (ap (λ b. cond (not b) (v ∷ filter q s) (filter q s)) u)

  pub apart_by_event : is_covered chosen v ≡ false → (X R : Family) → IsAbove v R
      → AllByRecursion (λ b. is_new (with_v X) b ≡ true) (without_v R)
  apart_by_event u X R up = all_differ X R (λ s. Unit {0}) (IsAbove_set v) (every (λ s. Unit {0}) X (λ s. tt)) up differ
    where
      differ : (s t : List ℕ) → Unit {0} → IsAbove_set v t
          → same_form (short_form chosen ((taken ++ v ∷ []) ++ s)) (short_form chosen (taken ++ t)) ≡ false
      differ s t k above =
          let q = λ (e : ℕ). not (is_covered chosen e) in
          and_right (same (short_form chosen ((taken ++ v ∷ []) ++ s)).units (short_form chosen (taken ++ t)).units)
          (same (filter q ((taken ++ v ∷ []) ++ s)) (filter q (taken ++ t)))
          (ap₂ same (events_with u s) (filter_both q taken t)
          ∙ same_front (filter q taken) (v ∷ filter q s) (filter q t)
          ∙ same-above v (filter q s) (filter q t) (all_filter (λ x. v < x) q t above))

  pub once_uncovered : is_covered chosen v ≡ false → (lo hi : Family) → IsAbove v lo
      → once (map (short_form chosen) (behind_events taken (node v lo hi))) ≡ once (with_v hi) ++ once (without_v lo)
  once_uncovered u lo hi up =
      ap once (ap (map (short_form chosen)) (behind_node taken v lo hi)
      ∙ map-append (short_form chosen) (behind_events (taken ++ v ∷ []) hi) (behind_events taken lo))
      ∙ once_apart (with_v hi) (without_v lo) (apart_by_event u hi lo up)

  -- where v is of a unit, the units tell the forms apart
  module _ (r : Range) (i : IsOneOf chosen r) (v_in : lies r v ≡ true) where
    or_true : (b : Bool) → (b || true) ≡ true
    or_true true = refl
    or_true false = refl

    with_touches : (s : List ℕ) → touches ((taken ++ v ∷ []) ++ s) r ≡ true
    with_touches s = ap (λ z. touches z r) (append_assoc taken (v ∷ []) s) ∙ touches_both taken (v ∷ s) r
        ∙ ap (λ b. touches taken r || (b || touches s r)) v_in ∙ or_true (touches taken r)

    pub apart_by_unit : touches taken r ≡ false → (X R : Family) → AllByRecursion (AtLeast r.to) R
        → AllByRecursion (λ b. is_new (with_v X) b ≡ true) (without_v R)
    apart_by_unit none X R high = all_differ X R (λ s. Unit {0}) (AtLeast r.to) (every (λ s. Unit {0}) X (λ s. tt)) high
        differ
      where
        untouched : (t : List ℕ) → AtLeast r.to t → touches (taken ++ t) r ≡ false
        untouched t h = touches_both taken t r ∙ ap₂ (λ a b. a || b) none (touches_high t r h)

        differ : (s t : List ℕ) → Unit {0} → AtLeast r.to t
            → same_form (short_form chosen ((taken ++ v ∷ []) ++ s)) (short_form chosen (taken ++ t)) ≡ false
        differ s t k h = and_left (same (short_form chosen ((taken ++ v ∷ []) ++ s)).units
            (short_form chosen (taken ++ t)).units)
            (same (short_form chosen ((taken ++ v ∷ []) ++ s)).events (short_form chosen (taken ++ t)).events)
            (step (same (short_form chosen ((taken ++ v ∷ []) ++ s)).units (short_form chosen (taken ++ t)).units) refl)
          where
            step : (b : Bool) → same (short_form chosen ((taken ++ v ∷ []) ++ s)).units
                (short_form chosen (taken ++ t)).units ≡ b
                → same (short_form chosen ((taken ++ v ∷ []) ++ s)).units (short_form chosen (taken ++ t)).units ≡ false
            step false e = e
            step true e =
                let is = same-true (short_form chosen ((taken ++ v ∷ []) ++ s)).units
                (short_form chosen (taken ++ t)).units e in
                let there = unit_there (touches ((taken ++ v ∷ []) ++ s)) chosen r i (with_touches s) in
                absurd (true≢false (sym (there_passes (touches (taken ++ t)) chosen d r i
                (subst (λ z. IsOneOf z r.unit.n) is there)) ∙ untouched t h))

    -- a nonempty set of the unit's events gives the form that v gives
    touched_alike : (a : List ℕ) → a ≢ [] → AllIn r a → (c : Range) → IsOneOf chosen c → touches a c ≡ lies c v
    touched_alike a n h c j = step (lies c v) refl
      where
        each : lies c v ≡ false → (x : ℕ) → lies r x ≡ true → lies c x ≡ false
        each free x k = inner (lies c x) refl
          where
            inner : (b : Bool) → lies c x ≡ b → lies c x ≡ false
            inner false e = e
            inner true e = absurd (true≢false (sym v_in ∙ sym (ap (λ z. lies z v) (d.one c r j i x e k)) ∙ free))

        step : (b : Bool) → lies c v ≡ b → touches a c ≡ lies c v
        step true e = ap (touches a) (d.one c r j i v e v_in) ∙ touches_some a r n h ∙ sym e
        step false e = touches_none a c (all_weaker (λ x. lies r x ≡ true) (λ x. lies c x ≡ false) (each e) a h) ∙ sym e

    or_more : (a b c : Bool) → (a || (b || c)) ≡ ((a || (b || false)) || c)
    or_more true b c = refl
    or_more false true c = refl
    or_more false false c = refl

    units_alike : (a q : List ℕ) → a ≢ [] → AllIn r a
        → units_where (touches (taken ++ (a ++ q))) chosen ≡ units_where (touches ((taken ++ v ∷ []) ++ q)) chosen
    units_alike a q n h = ap (map (λ (c : Range). c.unit.n))
        (filter_same (touches (taken ++ (a ++ q))) (touches ((taken ++ v ∷ []) ++ q)) chosen
        (all_members (λ c. touches (taken ++ (a ++ q)) c ≡ touches ((taken ++ v ∷ []) ++ q) c) chosen each))
      where
        each : (c : Range) → IsOneOf chosen c → touches (taken ++ (a ++ q)) c ≡ touches ((taken ++ v ∷ []) ++ q) c
        each c j =
            touches_both taken (a ++ q) c ∙ ap (λ z. touches taken c || z)
            (touches_both a q c ∙ ap (λ z. z || touches q c) (touched_alike a n h c j))
            ∙ or_more (touches taken c) (lies c v) (touches q c)
            ∙ sym (touches_both (taken ++ v ∷ []) q c ∙ ap (λ z. z || touches q c) (touches_both taken (v ∷ []) c))

    events_alike : (a q : List ℕ) → AllIn r a
        → filter (λ e. not (is_covered chosen e)) (taken ++ (a ++ q))
        ≡ filter (λ e. not (is_covered chosen e)) ((taken ++ v ∷ []) ++ q)
    events_alike a q h =
        let g = λ (e : ℕ). not (is_covered chosen e) in
        let gone = λ (s : List ℕ) (k : AllIn r s). filter_none g s
        (all_weaker (λ x. lies r x ≡ true) (λ x. g x ≡ false) (λ x e. ap not (covered_in chosen r x i e)) s
        k) in
        filter_both g taken (a ++ q) ∙ ap (λ z. filter g taken ++ z)
        (filter_both g a q ∙ ap (λ z. z ++ filter g q) (gone a h))
        ∙ sym (ap (filter g) (append_assoc taken (v ∷ []) q) ∙ filter_both g taken (v ∷ q)
        ∙ ap (λ z. filter g taken ++ z) (filter_both g (v ∷ []) q
        ∙ ap (λ z. z ++ filter g q) (gone (v ∷ []) (v_in, tt))))

    form_alike : (a q : List ℕ) → a ≢ [] → AllIn r a
        → short_form chosen (taken ++ (a ++ q)) ≡ short_form chosen ((taken ++ v ∷ []) ++ q)
    form_alike a q n h = ap₂ (λ u e. form u e) (units_alike a q n h) (events_alike a q h)
      where
        form : List ℕ → List ℕ → ShortForm
        form u e = record { units = u; events = e }

    part_forms : (a : List ℕ) (X : Family) → a ≢ [] → AllIn r a
        → map (short_form chosen) (behind_events taken (behind_events a X)) ≡ with_v X
    part_forms a [] n h = refl
    part_forms a (q ∷ X) n h = ap₂ (λ x y. x ∷ y) (form_alike a q n h) (part_forms a X n h)

    pub forms_repeated : (X R heads : Family) → AllByRecursion (λ a. AllIn r a × (a ≢ [])) heads
        → map (short_form chosen) (behind_events taken (flat_map (λ a. behind_events a X) heads ++ R))
        ≡ repeated (length heads) (with_v X) (without_v R)
    forms_repeated X R [] h = refl
    forms_repeated X R (a ∷ heads) h =
        ap (λ z. map (short_form chosen) (behind_events taken z))
        (append_assoc (behind_events a X) (flat_map (λ a. behind_events a X) heads) R)
        ∙ ap (map (short_form chosen)) (map-append (λ t. taken ++ t) (behind_events a X)
        (flat_map (λ a. behind_events a X) heads ++ R))
        ∙ map-append (short_form chosen) (behind_events taken (behind_events a X))
        (behind_events taken (flat_map (λ a. behind_events a X) heads ++ R))
        ∙ ap₂ (λ x y. x ++ y) (part_forms a X h.0.1 h.0.0) (forms_repeated X R heads h.1)

    pub once_covered : touches taken r ≡ false → (X R heads : Family) → heads ≢ []
        → AllByRecursion (λ a. AllIn r a × (a ≢ [])) heads → AllByRecursion (AtLeast r.to) R
        → once (map (short_form chosen) (behind_events taken (flat_map (λ a. behind_events a X) heads ++ R)))
        ≡ once (with_v X) ++ once (without_v R)
    once_covered none X R [] some h high = absurd (some refl)
    once_covered none X R (a ∷ heads) some h high =
        ap once (forms_repeated X R (a ∷ heads) h)
        ∙ once_repeated (length heads) (with_v X) (without_v R) (apart_by_unit none X R high)

-- an event of the range stands among these
pub touched_at : (r : Range) (xs : List EventId) (k : ℕ) (d : EventId) → k < length xs → lies r (get_or xs k d).n ≡ true
    → touches (event_numbers xs) r ≡ true
touched_at r [] k d l h = absurd (omega (arith, l))
touched_at r (x ∷ xs) zero d l h = ap (λ b. b || touches (event_numbers xs) r) h
touched_at r (x ∷ xs) (suc k) d l h =
    ap (λ b. lies r x.n || b) (touched_at r xs k d (omega (arith, l)) h) ∙ or_true (lies r x.n)
  where
    or_true : (b : Bool) → (b || true) ≡ true
    or_true true = refl
    or_true false = refl

-- the forms of a leaf
pub leaf_forms : (chosen : List Range) (taken : List ℕ) (s : Stored) (n : ℕ) (old new : List ShortForm) → n < 2
    → (n ≡ 0 → new ≡ old) → (n ≡ 1 → new ≡ old ++ short_form chosen taken ∷ [])
    → new ≡ old ++ once (map (short_form chosen) (behind_events taken (family s n)))
leaf_forms chosen taken s zero old new l none one = none refl ∙ sym (append_nil old)
  where
    append_nil : (xs : List ShortForm) → xs ++ [] ≡ xs
    append_nil [] = refl
    append_nil (x ∷ xs) = ap (λ z. x ∷ z) (append_nil xs)
leaf_forms chosen taken s (suc zero) old new l none one =
    one refl ∙ ap (λ z. old ++ short_form chosen z ∷ []) (sym (append_nil taken))
  where
    append_nil : (xs : List ℕ) → xs ++ [] ≡ xs
    append_nil [] = refl
    append_nil (x ∷ xs) = ap (λ z. x ∷ z) (append_nil xs)
leaf_forms chosen taken s (suc (suc n)) old new l none one = absurd (omega (arith, l))

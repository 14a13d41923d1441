-- The sets behind short forms: the parts of chosen units are exchanged one at a time.
use Rattle.std.proofs.Common.{◌≡◌, ◌≢◌, ◌⊎◌, inl, inr, ℕ, suc, ◌<◌, Bool, true, false, not, cond, ◌||◌, ◌&&◌, eqb, eqb-true, List, [], ◌∷◌, ◌++◌, filter, map, nat_lt, refl, sym, ap, ap₂, ◌∙◌, subst, arith, true≢false, lt_irrefl}
use Rattle.std.specs.List.{AllByRecursion, list_any}
use Rattle.std.proofs.lemmas.Bool.{and_parts, or_cases, or_right, or_left, and_from, false_from_ne_true}
use Rattle.std.proofs.lemmas.List.Folds.{list_any-append}
use Rattle.std.proofs.lemmas.Map.Views.{any-filter_same}
use Rattle.ar_base.specs.Lists.{Stands, IsOneOf, Along}
use Rattle.ar_base.specs.Lists.Along.{none, one_and}
use Rattle.ar_base.specs.Sets.{Ascends, Within}
use Rattle.ar_base.proofs.Standing.{one_none, one_first, one_rest, one_cases}
use Rattle.ar_firing.proofs.OneListing.{ascending_same}
use Rattle.zdd_nodes.specs.Families.{Family, has, holds, same}
use Rattle.zdd_nodes.proofs.Ascending.{IsAscending, is_ascending, ascends_from}
use Rattle.zdd_nodes.proofs.Laws.{same-true, same-refl}
use Rattle.zdd_nodes.proofs.Members.{holds_law}
use Rattle.zdd_nodes.proofs.Minimal.{member_of}
use Rattle.gate_modules.specs.Modules.{lies, inside, outside, joined_sets, IsPartOfUnit, IsModule}
use Rattle.gate_modules.specs.ModulesInside.{ShareNoEvent}
use Rattle.gate_modules.specs.Shortened.{ShortForm, touches, is_covered, same_form, once}
use Rattle.gate_modules.specs.declared.ranges.Range.{Range}
use Rattle.gate_modules.proofs.Forming.{passed_one}
use Rattle.gate_modules.proofs.Splitting.{all_filter}

pub and_no : (a b : Bool) → b ≡ false → (a && b) ≡ false
and_no true b e = e
and_no false b e = refl

pub not_both : (a : Bool) → a ≡ true → a ≡ false → ⊥
not_both a x y = true≢false (sym x ∙ y)

-- ---- members of lists
pub holds_filter : (e : ℕ) (q : ℕ → Bool) (s : List ℕ) → holds e (filter q s) ≡ (q e && holds e s)
holds_filter e q s = any-filter_same (eqb e) q (q e) (λ k h. ap q (sym (eqb-true e k h))) s

-- a set with a passing event
pub any_event : (q : ℕ → Bool) (s : List ℕ) → list_any q s ≡ true → (e : ℕ) × (holds e s ≡ true) × (q e ≡ true)
any_event q [] h = absurd (true≢false (sym h))
any_event q (x ∷ s) h = elim (or_cases (q x) (list_any q s) h) [
  | inl a ↦ (x, or_left (eqb x x) (holds x s) (same_number x), a)
  | inr b ↦ (let t = any_event q s b in (t.0, or_right (eqb t.0 x) (holds t.0 s) t.1, t.2))
]
  where
    same_number : (x : ℕ) → eqb x x ≡ true
    same_number x = let p = and_parts (eqb x x) true (same-refl (x ∷ [])) in p.0

pub event_any : (q : ℕ → Bool) (s : List ℕ) (e : ℕ) → holds e s ≡ true → q e ≡ true → list_any q s ≡ true
event_any q [] e h k = absurd (true≢false (sym h))
event_any q (x ∷ s) e h k = elim (or_cases (eqb e x) (holds e s) h) [
  | inl a ↦ or_left (q x) (list_any q s) (sym (ap q (eqb-true e x a)) ∙ k)
  | inr b ↦ or_right (q x) (list_any q s) (event_any q s e b k)
]

pub filter_some : (q : ℕ → Bool) (s : List ℕ) → list_any q s ≡ true → filter q s ≢ []
filter_some q s h e =
    let t = any_event q s h in
    not_both (holds t.0 (filter q s)) (holds_filter t.0 q s ∙ and_from (q t.0) (holds t.0 s) t.2 t.1) (ap (holds t.0) e)

-- a list that is not empty has an event
some_event : (s : List ℕ) → s ≢ [] → (e : ℕ) × (holds e s ≡ true)
some_event [] n = absurd (n refl)
some_event (x ∷ s) n = (x, or_left _ (holds x s) ((and_parts _ true (same-refl (x ∷ []))).0))

ascends_filter : (q : ℕ → Bool) (s : List ℕ) → IsAscending s → IsAscending (filter q s)
ascends_filter q [] a = tt
ascends_filter q (x ∷ s) a = elim (q x) as (λ b. IsAscending (cond b (x ∷ filter q s) (filter q s))) [
  | true ↦ (all_filter (λ y. x < y) q s a.0, ascends_filter q s a.1)
  | false ↦ ascends_filter q s a.1
]

pub filtered : (q : ℕ → Bool) (s : List ℕ) → Ascends s → Ascends (filter q s)
filtered q s a = ascends_from (filter q s) (ascends_filter q s (is_ascending s a))

within_by : (s t : List ℕ) → ((e : ℕ) → holds e s ≡ holds e t) → Within s t
within_by s t h = record { each = λ e i. (holds_law e t).0 (sym (h e) ∙ (holds_law e s).1 i) }

-- ascending lists with the same events are one
pub same_events : (s t : List ℕ) → Ascends s → Ascends t → ((e : ℕ) → holds e s ≡ holds e t) → s ≡ t
same_events s t a b h = ascending_same s t a b (within_by s t h) (within_by t s (λ e. sym (h e)))

pub has_one_of : (f : Family) (s : List ℕ) → IsOneOf f s → has f s ≡ true
has_one_of [] s i = absurd (one_none s i)
has_one_of (t ∷ f) s i = elim (one_cases t f s i) [
  | inl e ↦ or_left (same s t) (has f s) (subst (λ z. same s z ≡ true) (sym e) (same-refl s))
  | inr j ↦ or_right (same s t) (has f s) (has_one_of f s j)
]

-- ---- forms, each once
one_form : (a b : ShortForm) → same_form a b ≡ true → a ≡ b
one_form a b h =
    let p = and_parts (same a.units b.units) (same a.events b.events) h in
    ap₂ (λ x y. (let z : ShortForm = record { units = x; events = y } in z)) (same-true a.units b.units p.0) (same-true a.events b.events p.1)

kept_one : (q : ShortForm → Bool) (xs : List ShortForm) (a : ShortForm) → IsOneOf (filter q xs) a → IsOneOf xs a
kept_one q [] a i = i
kept_one q (x ∷ xs) a i = step (kept_one q xs a) (q x) i
  where
    step : (IsOneOf (filter q xs) a → IsOneOf xs a) → (b : Bool) → IsOneOf (cond b (x ∷ filter q xs) (filter q xs)) a
        → IsOneOf (x ∷ xs) a
    step ih true i = elim (one_cases x (filter q xs) a i)
        [ inl e ↦ subst (IsOneOf (x ∷ xs)) e (one_first x xs) | inr j ↦ one_rest x xs a (ih j) ]
    step ih false i = one_rest x xs a (ih i)

one_kept : (q : ShortForm → Bool) (xs : List ShortForm) (a : ShortForm) → IsOneOf xs a → q a ≡ true
    → IsOneOf (filter q xs) a
one_kept q [] a i h = i
one_kept q (x ∷ xs) a i h = step (λ j. one_kept q xs a j h) (q x) refl (one_cases x xs a i)
  where
    step : (IsOneOf xs a → IsOneOf (filter q xs) a) → (b : Bool) → q x ≡ b → (x ≡ a) ⊎ IsOneOf xs a
        → IsOneOf (cond b (x ∷ filter q xs) (filter q xs)) a
    step ih true e (inl is) = subst (IsOneOf (x ∷ filter q xs)) is (one_first x (filter q xs))
    step ih true e (inr j) = one_rest x (filter q xs) a (ih j)
    step ih false e (inl is) = absurd (true≢false (sym h ∙ sym (ap q is) ∙ e))
    step ih false e (inr j) = ih j

pub once_sound : (xs : List ShortForm) (a : ShortForm) → IsOneOf (once xs) a → IsOneOf xs a
once_sound [] a i = i
once_sound (x ∷ xs) a i = elim (one_cases x (filter (λ b. not (same_form x b)) (once xs)) a i) [
  | inl e ↦ subst (IsOneOf (x ∷ xs)) e (one_first x xs)
  | inr j ↦ one_rest x xs a (once_sound xs a (kept_one (λ b. not (same_form x b)) (once xs) a j))
]

pub once_whole : (xs : List ShortForm) (a : ShortForm) → IsOneOf xs a → IsOneOf (once xs) a
once_whole [] a i = i
once_whole (x ∷ xs) a i = step (once_whole xs a) (same_form x a) refl (one_cases x xs a i)
  where
    q : ShortForm → Bool
    q b = not (same_form x b)

    first : x ≡ a → IsOneOf (x ∷ filter (λ b. not (same_form x b)) (once xs)) a
    first e = subst (IsOneOf (x ∷ filter (λ b. not (same_form x b)) (once xs))) e
        (one_first x (filter (λ b. not (same_form x b)) (once xs)))

    step : (IsOneOf xs a → IsOneOf (once xs) a) → (b : Bool) → same_form x a ≡ b → (x ≡ a) ⊎ IsOneOf xs a
        → IsOneOf (x ∷ filter (λ b. not (same_form x b)) (once xs)) a
    step ih b e (inl is) = first is
    step ih true e (inr j) = first (one_form x a e)
    step ih false e (inr j) = one_rest x (filter (λ b. not (same_form x b)) (once xs)) a
        (one_kept (λ b. not (same_form x b)) (once xs) a (ih j) (ap not e))

-- ---- ranges of which no event is of two
abbrev pub Apart : List Range → Type 0
Apart [] = Unit {0}
Apart (r ∷ rs) = ((c : Range) → IsOneOf rs c → ShareNoEvent r c) × Apart rs

pub apart : (xs : List Range) → ((a b : Range) → IsOneOf xs a → IsOneOf xs b → (e : ℕ) → lies a e ≡ true
    → lies b e ≡ true → a ≡ b)
    → ((j k : ℕ) (a b : Range) → j < k → Stands xs j a → Stands xs k b → a.unit.n < b.unit.n) → Apart xs
apart [] one ascend = tt
apart (r ∷ rs) one ascend = (
  λ c i e x y.
      let is : r ≡ c = one r c (one_first r rs) (one_rest r rs c i) e x y in
      lt_irrefl r.unit.n (subst (λ (z : Range). r.unit.n < z.unit.n) (sym is)
      (ascend 0 (suc i.place) r c (omega arith) refl i.stands)),
  apart rs (λ a b i j. one a b (one_rest r rs a i) (one_rest r rs b j))
      (λ j k a b l s t. ascend (suc j) (suc k) a b (omega (arith, l)) s t),
)

pub apart_filter : (q : Range → Bool) (xs : List Range) → Apart xs → Apart (filter q xs)
apart_filter q [] a = tt
apart_filter q (r ∷ xs) a = elim (q r) as (λ b. Apart (cond b (r ∷ filter q xs) (filter q xs))) [
  | true ↦ ((λ c i. a.0 c (passed_one q xs c i).0), apart_filter q xs a.1)
  | false ↦ apart_filter q xs a.1
]

-- an event of a range apart from these is of none of them
pub uncovered : (r : Range) (xs : List Range) → ((c : Range) → IsOneOf xs c → ShareNoEvent r c) → (e : ℕ) → lies r e ≡ true
    → is_covered xs e ≡ false
uncovered r [] h e l = refl
uncovered r (c ∷ xs) h e l = ap₂ (λ a b. a || b) (false_from_ne_true (lies c e) (h c (one_first c xs) e l))
    (uncovered r xs (λ d i. h d (one_rest c xs d i)) e l)

-- the ranges that have an event of the set cover its events as all do
pub covered_touched : (s : List ℕ) (e : ℕ) → holds e s ≡ true → (xs : List Range)
    → is_covered (filter (touches s) xs) e ≡ is_covered xs e
covered_touched s e h [] = refl
covered_touched s e h (c ∷ xs) = step (covered_touched s e h xs) (touches s c) refl
  where
    step : is_covered (filter (touches s) xs) e ≡ is_covered xs e → (b : Bool) → touches s c ≡ b
        → is_covered (cond (touches s c) (c ∷ filter (touches s) xs) (filter (touches s) xs)) e ≡ is_covered (c ∷ xs) e
    step ih true k = ap (λ b. is_covered (cond b (c ∷ filter (touches s) xs) (filter (touches s) xs)) e) k
        ∙ ap (λ z. lies c e || z) ih
    step ih false k =
        ap (λ b. is_covered (cond b (c ∷ filter (touches s) xs) (filter (touches s) xs)) e) k ∙ ih
        ∙ ap (λ z. z || is_covered xs e) (sym
        (false_from_ne_true (lies c e) (λ l. not_both (touches s c) (event_any (lies c) s e h l) k)))

-- what some of the ranges cover all of them cover
pub covered_in_some : (q : Range → Bool) (xs : List Range) (e : ℕ) → is_covered (filter q xs) e ≡ true
    → is_covered xs e ≡ true
covered_in_some q [] e h = h
covered_in_some q (c ∷ xs) e h = step (covered_in_some q xs e) (q c) h
  where
    step : (is_covered (filter q xs) e ≡ true → is_covered xs e ≡ true) → (b : Bool)
        → is_covered (cond b (c ∷ filter q xs) (filter q xs)) e ≡ true → is_covered (c ∷ xs) e ≡ true
    step ih true h = elim (or_cases (lies c e) (is_covered (filter q xs) e) h)
        [ inl l ↦ or_left (lies c e) (is_covered xs e) l | inr k ↦ or_right (lies c e) (is_covered xs e) (ih k) ]
    step ih false h = or_right (lies c e) (is_covered xs e) (ih h)

-- the events of a set that are of none of these
abbrev pub free : List Range → List ℕ → List ℕ
free chosen s = filter (λ e. not (is_covered chosen e)) s

module _ (f : Family) where
  -- an event of a part is of its range
  part_lies : (r : Range) (a : List ℕ) → IsPartOfUnit f r a → (e : ℕ) → holds e a ≡ true → lies r e ≡ true
  part_lies r a p e h = (and_parts (lies r e) (holds e p.set)
      (sym (holds_filter e (lies r) p.set) ∙ ap (holds e) p.is ∙ h)).0

  pub parts_covered : (rs : List Range) (parts : List (List ℕ)) → Along (IsPartOfUnit f) rs parts → (e : ℕ)
      → list_any (holds e) parts ≡ true → is_covered rs e ≡ true
  parts_covered [] [] none e h = absurd (true≢false (sym h))
  parts_covered [] (y ∷ ys) k e h = elim k [ ]
  parts_covered (x ∷ xs) [] k e h = elim k [ ]
  parts_covered (r ∷ rs) (a ∷ parts) (one_and p ps) e h = elim (or_cases (holds e a) (list_any (holds e) parts) h) [
    | inl i ↦ or_left (lies r e) (is_covered rs e) (part_lies r a p e i)
    | inr j ↦ or_right (lies r e) (is_covered rs e) (parts_covered rs parts ps e j)
  ]

  -- ---- one part is exchanged
  exchanged_events : (b l p h : Bool) → ((b && (not l && h)) || (p || (not b && (not l && h)))) ≡ (p || (not l && h))
  exchanged_events true true true h = refl
  exchanged_events true true false h = refl
  exchanged_events true false true true = refl
  exchanged_events true false true false = refl
  exchanged_events true false false true = refl
  exchanged_events true false false false = refl
  exchanged_events false l p h = refl

  joined_events : (r : Range) (a s : List ℕ) (e : ℕ)
      → holds e (joined_sets r a (outside r s)) ≡ (holds e a || (not (lies r e) && holds e s))
  joined_events r a s e =
      let low = λ (x : ℕ). nat_lt x r.from in
      let high = λ (x : ℕ). not (nat_lt x r.from) in
      let rest = outside r s in
      let in_rest = holds_filter e (λ x. not (lies r x)) s in
      list_any-append (eqb e) (filter low rest) (a ++ filter high rest)
      ∙ ap₂ (λ x y. x || y) (holds_filter e low rest ∙ ap (λ z. nat_lt e r.from && z) in_rest)
      (list_any-append (eqb e) a (filter high rest)
      ∙ ap (λ z. holds e a || z) (holds_filter e high rest ∙ ap (λ z. not (nat_lt e r.from) && z) in_rest))
      ∙ exchanged_events (nat_lt e r.from) (lies r e) (holds e a) (holds e s)

  exchange : (r : Range) → IsModule f r → (a : List ℕ) → IsPartOfUnit f r a → (s : List ℕ) → has f s ≡ true
      → touches s r ≡ true → has f (joined_sets r a (outside r s)) ≡ true
  exchange r m a p s h t = m.exchanged a (outside r s) p
      (record { set = s; among = h; touched = filter_some (lies r) s t; is = refl })

  still_touches : (r c : Range) → ShareNoEvent r c → (a s : List ℕ) → touches s c ≡ true
      → touches (joined_sets r a (outside r s)) c ≡ true
  still_touches r c apart a s t =
      let w = any_event (lies c) s t in
      event_any (lies c) (joined_sets r a (outside r s)) w.0
      (joined_events r a s w.0 ∙ or_right (holds w.0 a) (not (lies r w.0) && holds w.0 s)
      (and_from (not (lies r w.0)) (holds w.0 s) (ap not (false_from_ne_true (lies r w.0) (λ l. apart w.0 l w.2)))
      w.1)) w.2

  -- ---- all parts of a choice are exchanged
  all_events : (x a l h c : Bool) → (a ≡ true → c ≡ false)
      → (x || ((a || (not l && h)) && not c)) ≡ ((a || x) || (h && not (l || c)))
  all_events true true l h c k = refl
  all_events true false l h c k = refl
  all_events false true l h c k = ap (λ z. not z) (k refl)
  all_events false false true true c k = refl
  all_events false false true false c k = refl
  all_events false false false h c k = refl

  -- a set of the family with these parts
  pub record Exchanged (rs : List Range) (parts : List (List ℕ)) (s : List ℕ) : Type 0 where
    pub set : List ℕ
    pub among : has f set ≡ true
    pub each : (e : ℕ) → holds e set ≡ (list_any (holds e) parts || (holds e s && not (is_covered rs e)))

  pub exchange_all : (rs : List Range) (parts : List (List ℕ)) → Along (IsPartOfUnit f) rs parts → Apart rs
      → ((c : Range) → IsOneOf rs c → IsModule f c)
      → (s : List ℕ) → has f s ≡ true → ((c : Range) → IsOneOf rs c → touches s c ≡ true) → Exchanged rs parts s
  exchange_all [] [] none a m s h t = record { set = s; among = h; each = λ e. stays (holds e s) }
    where
      stays : (b : Bool) → b ≡ (false || (b && not false))
      stays true = refl
      stays false = refl
  exchange_all [] (y ∷ ys) k a m s h t = elim k [ ]
  exchange_all (x ∷ xs) [] k a m s h t = elim k [ ]
  exchange_all (r ∷ rs) (a ∷ parts) (one_and p ps) ap m s h t =
      let one = joined_sets r a (outside r s) in
      let all = exchange_all rs parts ps ap.1 (λ c i. m c (one_rest r rs c i)) one
      (exchange r (m r (one_first r rs)) a p s h (t r (one_first r rs)))
      (λ c i. still_touches r c (ap.0 c i) a s (t c (one_rest r rs c i))) in
      record { set = all.set; among = all.among; each = λ e. all.each e ∙ opened e }
    where
      opened : (e : ℕ) → (list_any (holds e) parts || (holds e (joined_sets r a (outside r s)) && not (is_covered rs
          e))) ≡ (list_any (holds e) (a ∷ parts) || (holds e s && not (is_covered (r ∷ rs) e)))
      opened e =
          subst (λ z. (list_any (holds e) parts || (z && not (is_covered rs e)))
          ≡ (list_any (holds e) (a ∷ parts) || (holds e s && not (is_covered (r ∷ rs) e))))
          (sym (joined_events r a s e))
          (all_events (list_any (holds e) parts) (holds e a) (lies r e) (holds e s) (is_covered rs e)
          (λ i. uncovered r rs ap.0 e (part_lies r a p e i)))

  -- ---- the parts are told by the events
  pub recover : (rs : List Range) (parts : List (List ℕ)) → Along (IsPartOfUnit f) rs parts → AllByRecursion Ascends f
      → Apart rs → (s : List ℕ) → Ascends s
      → ((e : ℕ) → is_covered rs e ≡ true → holds e s ≡ list_any (holds e) parts) → parts ≡ map (λ r. inside r s) rs
  recover [] [] none up a s s_up h = refl
  recover [] (y ∷ ys) k up a s s_up h = elim k [ ]
  recover (x ∷ xs) [] k up a s s_up h = elim k [ ]
  recover (r ∷ rs) (a ∷ parts) (one_and p ps) up apart s s_up h =
      ap₂ (λ x y. x ∷ y) first (recover rs parts ps up apart.1 s s_up later)
    where
      a_up : Ascends a
      a_up = subst Ascends p.is (filtered (lies r) p.set (member_of Ascends f p.set up p.among))

      here : (e : ℕ) → lies r e ≡ true → holds e a ≡ holds e s
      here e l =
          let no : list_any (holds e) parts ≡ false =
          false_from_ne_true (list_any (holds e) parts)
          (λ k. not_both (is_covered rs e) (parts_covered rs parts ps e k) (uncovered r rs apart.0 e l)) in
          sym (h e (or_left (lies r e) (is_covered rs e) l) ∙ ap (λ z. holds e a || z) no ∙ or_false (holds e a))
        where
          or_false : (b : Bool) → (b || false) ≡ b
          or_false true = refl
          or_false false = refl

      first : a ≡ inside r s
      first = same_events a (inside r s) a_up (filtered (lies r) s s_up) (λ e. by e (lies r e) refl)
        where
          by : (e : ℕ) (b : Bool) → lies r e ≡ b → holds e a ≡ holds e (inside r s)
          by e true l = here e l ∙ sym (holds_filter e (lies r) s ∙ ap (λ z. z && holds e s) l)
          by e false l = false_from_ne_true (holds e a) (λ k. not_both (lies r e) (part_lies r a p e k) l)
              ∙ sym (holds_filter e (lies r) s ∙ ap (λ z. z && holds e s) l)

      later : (e : ℕ) → is_covered rs e ≡ true → holds e s ≡ list_any (holds e) parts
      later e c =
          h e (or_right (lies r e) (is_covered rs e) c)
          ∙ ap (λ z. z || list_any (holds e) parts)
          (false_from_ne_true (holds e a)
          (λ k. not_both (is_covered rs e) c (uncovered r rs apart.0 e (part_lies r a p e k))))

  -- a range with a part has an event of what is made of the parts
  pub part_touches : (rs : List Range) (parts : List (List ℕ)) → Along (IsPartOfUnit f) rs parts → (c : Range) → IsOneOf
      rs c → (e : ℕ) × (list_any (holds e) parts ≡ true) × (lies c e ≡ true)
  part_touches [] [] none c i = absurd (one_none c i)
  part_touches [] (y ∷ ys) k c i = elim k [ ]
  part_touches (x ∷ xs) [] k c i = elim k [ ]
  part_touches (r ∷ rs) (a ∷ parts) (one_and p ps) c i = elim (one_cases r rs c i) [
    | inl is ↦ (let w = some_event a p.some in (w.0, or_left (holds w.0 a) (list_any (holds w.0) parts) w.1, ap (λ z. lies z w.0) (sym is) ∙ part_lies r a p w.0 w.1))
    | inr j ↦ (let t = part_touches rs parts ps c j in (t.0, or_right (holds t.0 a) (list_any (holds t.0) parts) t.1, t.2))
  ]

  -- the events of a set by its parts
  pub inside_events : (rs : List Range) (s : List ℕ) (e : ℕ)
      → list_any (holds e) (map (λ r. inside r s) rs) ≡ (is_covered rs e && holds e s)
  inside_events [] s e = refl
  inside_events (r ∷ rs) s e = ap₂ (λ x y. x || y) (holds_filter e (lies r) s) (inside_events rs s e)
      ∙ both (lies r e) (is_covered rs e) (holds e s)
    where
      both : (a b h : Bool) → ((a && h) || (b && h)) ≡ ((a || b) && h)
      both true true true = refl
      both true true false = refl
      both true false true = refl
      both true false false = refl
      both false b h = refl

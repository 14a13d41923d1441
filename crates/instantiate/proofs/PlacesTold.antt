-- Where settings are, one after the other.
use Rattle.std.proofs.Common.{◌≡◌, ℕ, ◌+◌, ◌<◌, ◌≤◌, ◌⊎◌, inl, inr, Bool, true, false, cond, ◌&&◌, nat_eq, List, [], ◌∷◌, map, length, drop, slice_get, Vec, Option, Some, None, refl, sym, ◌∙◌, ap, subst, arith}
use Rattle.std.specs.Global.{Global}
use Rattle.std.specs.Cmp.Lexicographic.{pointwise}
use Rattle.std.proofs.Common.{eq-eqb, ne_eqb}
use Rattle.std.proofs.lemmas.Bool.{cases_eq, cases_lt}
use Rattle.std.proofs.lemmas.Option.{slice_get_past}
use Rattle.std.proofs.lemmas.Slice.Eq.{bytes_eq-Decides}
use Rattle.ar_base.specs.Lists.{Stands}
use Rattle.ar_base.proofs.Comparing.{lt_or_same}
use Rattle.ar_base.proofs.Items.{none_left}
use Rattle.instantiate.proofs.Dropped.{drop_here}
use Rattle.ar_syntax.specs.declared.members.Setting.{Setting}
use Rattle.class_table.specs.Declaring.{TextBody}
use Rattle.class_table.specs.Members.{Site, own_of, own_at}
use Rattle.hierarchy.specs.Models.{RootedModel}
use Rattle.hierarchy.specs.Units.{UnitPath}
use Rattle.hierarchy.specs.Settings.{TargetWord, Named, Init, Reset, same_word, same_target, target_of, setting_for, settings_of, settings_at}
use Rattle.unit_rules.specs.Repeats.{code_of}
use Rattle.unit_rules.proofs.Meeting.{codes_same}
use Rattle.instantiate.specs.SettingPlaces.{SetsAt, SetsFrom, setting_numbers, setting_place, TellsAt, TellsFrom, AddsSettings, IsBehind, TellsFirst, TellsSettings}
use Rattle.instantiate.specs.declared.setting_places.SettingPlaces.{SettingPlaces}

-- Targets that are the same

same_number : (m n : ℕ) → nat_eq m n ≡ true → m ≡ n
same_number m n e = elim (cases_eq m n) [ inl i ↦ i | inr h ↦ (let f = ne_eqb m n h in absurd (cc)) ]

word_one : (v w : TargetWord) → same_word v w ≡ true → v ≡ w
word_one (Named x) (Named y) e = ap Named (same_number x y e)
word_one (Named x) Init e = cc
word_one (Named x) Reset e = cc
word_one Init (Named y) e = cc
word_one Init Init e = refl
word_one Init Reset e = cc
word_one Reset (Named y) e = cc
word_one Reset Init e = cc
word_one Reset Reset e = refl

both_true : (a b : Bool) → (a && b) ≡ true → (a ≡ true) × (b ≡ true)
both_true true b e = (refl, e)
both_true false b e = cc

target_one : (vs ws : List TargetWord) → same_target vs ws ≡ true → vs ≡ ws
target_one [] [] e = refl
target_one [] (w ∷ ws) e = cc
target_one (v ∷ vs) [] e = cc
target_one (v ∷ vs) (w ∷ ws) e =
    let b = both_true (same_word v w) (same_target vs ws) e in
    ap (λ (z : TargetWord). z ∷ vs) (word_one v w b.0)
    ∙ ap (λ (zs : List TargetWord). w ∷ zs) (target_one vs ws b.1)

word_itself : (v : TargetWord) → same_word v v ≡ true
word_itself (Named x) = eq-eqb x x refl
word_itself Init = refl
word_itself Reset = refl

target_itself : (vs : List TargetWord) → same_target vs vs ≡ true
target_itself [] = refl
target_itself (v ∷ vs) = by (same_word v v) (word_itself v) (target_itself vs)
  where
    by : (b : Bool) → b ≡ true → same_target vs vs ≡ true → (b && same_target vs vs) ≡ true
    by true e f = f
    by false e f = cc

-- the test of numbers is that of targets
tests_same : (t : Site) (vs ws : List TargetWord) (a b : List ℕ) → a ≡ setting_numbers t vs → b ≡ setting_numbers t ws
    → same_target vs ws ≡ pointwise nat_eq a b
tests_same t vs ws a b e f = by (same_target vs ws) (pointwise nat_eq a b) refl refl
  where
    by : (p q : Bool) → same_target vs ws ≡ p → pointwise nat_eq a b ≡ q → p ≡ q
    by true true i j = refl
    by false false i j = refl
    by true false i j =
        let k : a ≡ b = e ∙ (ap (setting_numbers t) (target_one vs ws i) ∙ sym f) in
        let l = (bytes_eq-Decides a b).1 k in
        absurd (cc)
    by false true i j =
        let k : setting_numbers t vs ≡ setting_numbers t ws = sym e ∙ ((bytes_eq-Decides a b).0 j ∙ f) in
        let codes : map code_of vs ≡ map code_of ws = cc in
        let l : same_target vs ws ≡ true =
        ap (same_target vs) (sym (codes_same vs ws codes)) ∙ target_itself vs in
        absurd (cc)

-- numbers of two declarations differ
tests_other : (t r : Site) (vs ws : List TargetWord) (a b : List ℕ) → (r ≡ t → ⊥) → a ≡ setting_numbers t vs
    → b ≡ setting_numbers r ws → pointwise nat_eq a b ≡ false
tests_other t r vs ws a b n e f = by (pointwise nat_eq a b) refl
  where
    by : (q : Bool) → pointwise nat_eq a b ≡ q → q ≡ false
    by false j = refl
    by true j =
        let k : setting_numbers t vs ≡ setting_numbers r ws = sym e ∙ ((bytes_eq-Decides a b).0 j ∙ f) in
        let body : r.body ≡ t.body = cc in
        let place : r.place ≡ t.place = cc in
        absurd (n (ap (λ (x : ℕ). record { body = x; place = r.place }) body
        ∙ ap (λ (x : ℕ). record { body = t.body; place = x }) place))

-- One setting more

sets_before : (u : UnitPath) (t : Site) (k : ℕ) (x : Setting) (ys : List Setting) (target : List TargetWord)
    (o : Option ℕ) (b : Bool) → same_target (target_of x) target ≡ b → SetsFrom u t (k + 1) ys target o
    → SetsFrom u t k (x ∷ ys) target (cond b (Some k) o)
sets_before u t k x ys target o true e h = (
  x.value,
  ap (λ (c : Bool). cond c
      (Some (record { unit = u; site = t; setting = Some k; value = x.value })) (setting_for u t (k + 1) ys target)) e,
)
sets_before u t k x ys target None false e h = ap (λ (c : Bool). cond c
    (Some (record { unit = u; site = t; setting = Some k; value = x.value })) (setting_for u t (k + 1) ys target)) e ∙ h
sets_before u t k x ys target (Some n) false e h = (
  h.0,
  ap (λ (c : Bool). cond c
      (Some (record { unit = u; site = t; setting = Some k; value = x.value })) (setting_for u t (k + 1) ys target)) e ∙ h.1,
)

pub adds_none : (t : Site) (k : ℕ) (xs : List Setting) (p : SettingPlaces) → length xs ≤ k
    → AddsSettings t k (drop k xs) p p
adds_none t k xs p l = subst (λ (ys : List Setting). AddsSettings t k ys p p) (sym (none_left xs k l)) (record {
  told = λ h. record { each = λ u target q e. h.each u target q e };
  kept = λ r settings n h. h;
})

pub adds_next : (t : Site) (xs : List Setting) (x : Setting) (k : ℕ) (key : Vec ℕ Global) (first old new : SettingPlaces)
    → Stands xs k x → key.items ≡ setting_numbers t (target_of x)
    → ((q : Vec ℕ Global) → setting_place new q ≡ cond (pointwise nat_eq key.items q.items) (Some k) (setting_place old q))
    → AddsSettings t (k + 1) (drop (k + 1) xs) first old → AddsSettings t k (drop k xs) first new
adds_next t xs x k key first old new s e u h =
    subst (λ (ys : List Setting). AddsSettings t k ys first new) (sym (drop_here xs k x s))
    (record { told = told; kept = kept })
  where
    told : TellsAt t [] first → TellsFrom t k (x ∷ drop (k + 1) xs) new
    told f = record {
      each = λ v target q i. subst (SetsFrom v t k (x ∷ drop (k + 1) xs) target) (sym (u q))
          (sets_before v t k x (drop (k + 1) xs) target (setting_place old q) (pointwise nat_eq key.items q.items)
          (tests_same t (target_of x) target key.items q.items e i) ((h.told f).each v target q i));
    }

    kept : (r : Site) (settings : List Setting) → (r ≡ t → ⊥) → TellsAt r settings first → TellsAt r settings new
    kept r settings d f = record {
      each = λ v target q i.
          let z = tests_other t r (target_of x) target key.items q.items d e i in
          subst (SetsAt v r settings target)
          (sym (u q ∙ ap (λ (b : Bool). cond b (Some k) (setting_place old q)) z))
          ((h.kept r settings d f).each v target q i);
    }

-- Bodies one after the other

module _ (m : RootedModel) where
  site_one : (t : Site) (b k : ℕ) → t.body ≡ b → t.place ≡ k → t ≡ record { body = b; place = k }
  site_one t b k e f = ap (λ (x : ℕ). record { body = x; place = t.place }) e
      ∙ ap (λ (x : ℕ). record { body = b; place = x }) f

  -- no member stands there
  none_there : (t : Site) → length (own_at m.declared t.body) ≤ t.place → settings_at m t ≡ []
  none_there t l = ap settings_of (slice_get_past (own_at m.declared t.body) t.place l)

  none_past : (t : Site) → length m.declared.bodies ≤ t.body → settings_at m t ≡ []
  none_past t l = ap (λ (o : Option TextBody). settings_of (slice_get (own_of o) t.place))
      (slice_get_past m.declared.bodies t.body l) ∙ ap settings_of (slice_get_past [] t.place (omega arith))

  tells_none : (t : Site) (p : SettingPlaces) → settings_at m t ≡ [] → TellsAt t [] p → TellsAt t (settings_at m t) p
  tells_none t p e h = subst (λ (xs : List Setting). TellsAt t xs p) (sym e) h

  pub first_start : (p : SettingPlaces) → ((q : Vec ℕ Global) → setting_place p q ≡ None) → TellsFirst m 0 0 p
  first_start p e = record {
    done = λ t i. absurd (none t i);
    left = λ t n. record { each = λ u target q i. subst (SetsAt u t [] target) (sym (e q)) refl };
  }
    where
      none : (t : Site) → IsBehind t 0 0 → ⊥
      none t (inl l) = omega (arith, l)
      none t (inr h) = let l = h.1 in omega (arith, l)

  pub member_next : (b k : ℕ) (old new : SettingPlaces)
      → AddsSettings (record { body = b; place = k }) 0 (settings_at m (record { body = b; place = k })) old new
      → TellsFirst m b k old → TellsFirst m b (k + 1) new
  member_next b k old new a h = record { done = done; left = left }
    where
      here : IsBehind (record { body = b; place = k }) b k → ⊥
      here (inl l) = omega (arith, l)
      here (inr l) = let g = l.1 in omega (arith, g)

      differs : (t : Site) → IsBehind t b k → t ≡ record { body = b; place = k } → ⊥
      differs t i e = here (subst (λ (z : Site). IsBehind z b k) e i)

      done : (t : Site) → IsBehind t b (k + 1) → TellsAt t (settings_at m t) new
      done t (inl l) = a.kept t _ (differs t (inl l)) (h.done t (inl l))
      done t (inr l) = let g = l.1 in by (lt_or_same t.place k (omega (arith, g)))
        where
          by : (t.place < k) ⊎ (t.place ≡ k) → TellsAt t (settings_at m t) new
          by (inl i) = a.kept t _ (differs t (inr (l.0, i))) (h.done t (inr (l.0, i)))
          by (inr i) = subst (λ (z : Site). TellsAt z (settings_at m z) new) (sym (site_one t b k l.0 i))
              (record { each = (a.told (h.left _ here)).each })

      left : (t : Site) → (IsBehind t b (k + 1) → ⊥) → TellsAt t [] new
      left t n = a.kept t [] other (h.left t (λ i. n (wider i)))
        where
          wider : IsBehind t b k → IsBehind t b (k + 1)
          wider (inl l) = inl l
          wider (inr l) = let g = l.1 in inr (l.0, (let f : t.place < k + 1 = omega (arith, g) in f))

          other : t ≡ record { body = b; place = k } → ⊥
          other e = n (inr (
            ap (λ (z : Site). z.body) e,
            (let p = ap (λ (z : Site). z.place) e in let f : t.place < k + 1 = omega (arith, p) in f),
          ))

  pub body_next : (b k : ℕ) (p : SettingPlaces) → length (own_at m.declared b) ≤ k → TellsFirst m b k p
      → TellsFirst m (b + 1) 0 p
  body_next b k p l h = record { done = done; left = left }
    where
      last : (t : Site) → t.body ≡ b → TellsAt t (settings_at m t) p
      last t e = elim (cases_lt t.place k) [
        | inl i ↦ h.done t (inr (e, i))
        | inr i ↦
            tells_none t p (none_there t (let f = ap (λ (n : ℕ). length (own_at m.declared n)) e in omega (arith, f, l, i)))
            (h.left t (apart i))
      ]
        where
          apart : k ≤ t.place → IsBehind t b k → ⊥
          apart i (inl g) = omega (arith, g, e)
          apart i (inr g) = let f = g.1 in omega (arith, f, i)

      done : (t : Site) → IsBehind t (b + 1) 0 → TellsAt t (settings_at m t) p
      done t (inl g) = elim (lt_or_same t.body b (omega (arith, g))) [ inl i ↦ h.done t (inl i) | inr i ↦ last t i ]
      done t (inr g) = let f = g.1 in absurd (omega (arith, f))

      left : (t : Site) → (IsBehind t (b + 1) 0 → ⊥) → TellsAt t [] p
      left t n = h.left t (λ i. n (wider i))
        where
          wider : IsBehind t b k → IsBehind t (b + 1) 0
          wider (inl g) = inl (let f : t.body < b + 1 = omega (arith, g) in f)
          wider (inr g) = let e = g.0 in inl (let f : t.body < b + 1 = omega (arith, e) in f)

  pub bodies_end : (b : ℕ) (p : SettingPlaces) → length m.declared.bodies ≤ b → TellsFirst m b 0 p → TellsSettings m p
  bodies_end b p l h = record { at = at }
    where
      at : (t : Site) → TellsAt t (settings_at m t) p
      at t = elim (cases_lt t.body b) [
        | inl i ↦ h.done t (inl i)
        | inr i ↦ tells_none t p (none_past t (omega (arith, l, i))) (h.left t (apart i))
      ]
        where
          apart : b ≤ t.body → IsBehind t b 0 → ⊥
          apart i (inl g) = omega (arith, g, i)
          apart i (inr g) = let f = g.1 in omega (arith, f)

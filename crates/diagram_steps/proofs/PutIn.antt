-- Families with an event put into each set.
use Rattle.std.proofs.Common.{◌≡◌, ◌⊎◌, ⊎_elim, inl, inr, ℕ, ◌<◌, Bool, true, false, cond, ◌||◌, eqb, nat_lt, List, [], ◌∷◌, refl, sym, ap, ◌∙◌, subst, arith, true≢false}
use Rattle.std.specs.List.{AllByRecursion}
use Rattle.std.proofs.lemmas.Bool.Decides.{nat_tests}
use Rattle.zdd_nodes.specs.Families.{Family, has, same}
use Rattle.zdd_nodes.specs.FamiliesInside.{node, IsAbove, union}
use Rattle.zdd_nodes.proofs.Laws.{eqb-refl, same-refl, same-true, any_more, has-with}
use Rattle.zdd_nodes.proofs.Members.{has-union}
use Rattle.diagram_steps.specs.Putting.{put_in, HasWith}

-- each member of the set is above v
abbrev pub Above : ℕ → List ℕ → Type 0
Above v s = AllByRecursion (λ x. v < x) s

-- ---- the sets of a node
pub has_node : (v : ℕ) (lo hi : Family) (t : List ℕ) → has (node v lo hi) t ≡ true
    → ((s : List ℕ) × (t ≡ v ∷ s) × (has hi s ≡ true)) ⊎ (has lo t ≡ true)
has_node v lo [] t h = inr h
has_node v lo (s ∷ hi) t h = step (has_node v lo hi t) (same t (v ∷ s)) refl
  where
    step : (has (node v lo hi) t ≡ true → ((u : List ℕ) × (t ≡ v ∷ u) × (has hi u ≡ true)) ⊎ (has lo t ≡ true))
        → (b : Bool) → same t (v ∷ s) ≡ b
        → ((u : List ℕ) × (t ≡ v ∷ u) × (has (s ∷ hi) u ≡ true)) ⊎ (has lo t ≡ true)
    step ih true e = inl (s, same-true t (v ∷ s) e, ap (λ b. b || has hi s) (same-refl s))
    step ih false e = ⊎_elim
        (λ w. inl (w.0, w.1, any_more (same w.0) s hi w.2))
        (λ w. inr w)
        (ih (ap (λ b. b || has (node v lo hi) t) (sym e) ∙ h))

pub has_lower : (v : ℕ) (lo hi : Family) (t : List ℕ) → has lo t ≡ true → has (node v lo hi) t ≡ true
has_lower v lo [] t h = h
has_lower v lo (s ∷ hi) t h = any_more (same t) (v ∷ s) (node v lo hi) (has_lower v lo hi t h)

pub has_upper : (v : ℕ) (lo hi : Family) (s : List ℕ) → IsAbove v lo → has hi s ≡ true → has (node v lo hi) (v ∷ s) ≡ true
has_upper v lo hi s a h = has-with v lo hi s a ∙ h

pub above_each : (v : ℕ) (f : Family) (s : List ℕ) → IsAbove v f → has f s ≡ true → Above v s
above_each v [] s a h = absurd (true≢false (sym h))
above_each v (t ∷ f) s a h = step (above_each v f s a.1) (same s t) refl
  where
    step : (has f s ≡ true → Above v s) → (b : Bool) → same s t ≡ b → Above v s
    step ih true e = subst (Above v) (sym (same-true s t e)) a.0
    step ih false e = ih (ap (λ b. b || has f s) (sym e) ∙ h)

pub each_above : (v : ℕ) (f : Family) → ((s : List ℕ) → has f s ≡ true → Above v s) → IsAbove v f
each_above v [] h = tt
each_above v (t ∷ f) h =
    (h t (ap (λ b. b || has f t) (same-refl t)), each_above v f (λ s k. h s (any_more (same s) t f k)))

-- ---- an event in its place
pub put_first : (e : ℕ) (s : List ℕ) → Above e s → put_in e s ≡ e ∷ s
put_first e [] a = refl
put_first e (x ∷ s) a =
    let differs : eqb e x ≡ false = grind (arith, nat_tests, a.0) in
    let less : nat_lt e x ≡ true = grind (arith, nat_tests, a.0) in
    ap (λ b. cond b (x ∷ s) (cond (nat_lt e x) (e ∷ x ∷ s) (x ∷ put_in e s))) differs
    ∙ ap (λ b. cond b (e ∷ x ∷ s) (x ∷ put_in e s)) less

pub put_same : (e : ℕ) (s : List ℕ) → put_in e (e ∷ s) ≡ e ∷ s
put_same e s = ap (λ b. cond b (e ∷ s) (cond (nat_lt e e) (e ∷ e ∷ s) (e ∷ put_in e s))) (eqb-refl e)

pub put_after : (e v : ℕ) (s : List ℕ) → v < e → put_in e (v ∷ s) ≡ v ∷ put_in e s
put_after e v s l =
    let differs : eqb e v ≡ false = grind (arith, nat_tests, l) in
    let less : nat_lt e v ≡ false = grind (arith, nat_tests, l) in
    ap (λ b. cond b (v ∷ s) (cond (nat_lt e v) (e ∷ v ∷ s) (v ∷ put_in e s))) differs
    ∙ ap (λ b. cond b (e ∷ v ∷ s) (v ∷ put_in e s)) less

pub put_above : (v e : ℕ) (s : List ℕ) → v < e → Above v s → Above v (put_in e s)
put_above v e [] l a = (l, tt)
put_above v e (x ∷ s) l a = elim (eqb e x) as
    (λ b. Above v (cond b (x ∷ s) (cond (nat_lt e x) (e ∷ x ∷ s) (x ∷ put_in e s)))) [
      | true ↦ a
      | false ↦ elim (nat_lt e x) as (λ b. Above v (cond b (e ∷ x ∷ s) (x ∷ put_in e s)))
          [ true ↦ (l, a) | false ↦ (a.0, put_above v e s l a.1) ]
    ]

-- ---- the family with the event, by the family's least event
pub with_none : (e : ℕ) (f : Family) → f ≡ [] → HasWith e f f
with_none e f z = record {
  sound = λ t h. absurd (true≢false (sym h ∙ ap (λ g. has g t) z));
  whole = λ s h. absurd (true≢false (sym h ∙ ap (λ g. has g s) z));
}

pub with_below : (e : ℕ) (f g : Family) → IsAbove e f → g ≡ node e [] f → HasWith e f g
with_below e f g a is = record {
  sound = λ t h. ⊎_elim
      (λ w. (w.0, w.2, w.1 ∙ sym (put_first e w.0 (above_each e f w.0 a w.2))))
      (λ w. absurd (true≢false (sym w)))
      (has_node e [] f t (ap (λ z. has z t) (sym is) ∙ h));
  whole = λ s h. ap (λ z. has z (put_in e s)) is ∙ ap (has (node e [] f)) (put_first e s (above_each e f s a h))
      ∙ has_upper e [] f s tt h;
}

or_left : (a b : Bool) → a ≡ true → (a || b) ≡ true
or_left a b h = ap (λ x. x || b) h

or_right : (a b : Bool) → b ≡ true → (a || b) ≡ true
or_right true b h = refl
or_right false b h = h

or_cases : (a b : Bool) → (a || b) ≡ true → (a ≡ true) ⊎ (b ≡ true)
or_cases true b h = inl refl
or_cases false b h = inr h

pub with_here : (e : ℕ) (f g lo hi : Family) → f ≡ node e lo hi → IsAbove e lo → IsAbove e hi
    → g ≡ node e [] (union lo hi) → HasWith e f g
with_here e f g lo hi fe a b is = record {
  sound = λ t h. ⊎_elim
      (λ w. from t w.0 w.1 (or_cases (has lo w.0) (has hi w.0) (sym (has-union lo hi w.0) ∙ w.2)))
      (λ w. absurd (true≢false (sym w)))
      (has_node e [] (union lo hi) t (ap (λ z. has z t) (sym is) ∙ h));
  whole = λ s h. ap (λ z. has z (put_in e s)) is ∙ to s (has_node e lo hi s (ap (λ z. has z s) (sym fe) ∙ h));
}
  where
    from : (t s : List ℕ) → t ≡ e ∷ s → (has lo s ≡ true) ⊎ (has hi s ≡ true)
        → (u : List ℕ) × (has f u ≡ true) × (t ≡ put_in e u)
    from t s q c = ⊎_elim
        (λ l. (s, ap (λ z. has z s) fe ∙ has_lower e lo hi s l, q ∙ sym (put_first e s (above_each e lo s a l))))
        (λ r. (e ∷ s, ap (λ z. has z (e ∷ s)) fe ∙ has_upper e lo hi s a r, q ∙ sym (put_same e s)))
        c

    both : (s : List ℕ) → (has lo s ≡ true) ⊎ (has hi s ≡ true) → has (node e [] (union lo hi)) (e ∷ s) ≡ true
    both s c = has_upper e [] (union lo hi) s tt (has-union lo hi s
        ∙ ⊎_elim (λ l. or_left (has lo s) (has hi s) l) (λ r. or_right (has lo s) (has hi s) r) c)

    to : (s : List ℕ) → ((u : List ℕ) × (s ≡ e ∷ u) × (has hi u ≡ true)) ⊎ (has lo s ≡ true)
        → has (node e [] (union lo hi)) (put_in e s) ≡ true
    to s c = ⊎_elim
        (λ w. ap (has (node e [] (union lo hi))) (ap (put_in e) w.1 ∙ put_same e w.0) ∙ both w.0 (inr w.2))
        (λ l. ap (has (node e [] (union lo hi))) (put_first e s (above_each e lo s a l)) ∙ both s (inl l))
        c

pub with_above : (e v : ℕ) (f g : Family) → v < e → IsAbove v f → HasWith e f g → IsAbove v g
with_above e v f g l a w = each_above v g (λ t h.
    let x = w.sound t h in
    subst (Above v) (sym x.2) (put_above v e x.0 l (above_each v f x.0 a x.1)))

pub with_after : (e v : ℕ) (f g lo hi lo2 hi2 : Family) → v < e → f ≡ node v lo hi → IsAbove v lo
    → HasWith e lo lo2 → HasWith e hi hi2 → g ≡ node v lo2 hi2 → HasWith e f g
with_after e v f g lo hi lo2 hi2 l fe a wl wh is = record {
  sound = λ t h. from t (has_node v lo2 hi2 t (ap (λ z. has z t) (sym is) ∙ h));
  whole = λ s h. ap (λ z. has z (put_in e s)) is ∙ to s (has_node v lo hi s (ap (λ z. has z s) (sym fe) ∙ h));
}
  where
    from : (t : List ℕ) → ((s : List ℕ) × (t ≡ v ∷ s) × (has hi2 s ≡ true)) ⊎ (has lo2 t ≡ true)
        → (u : List ℕ) × (has f u ≡ true) × (t ≡ put_in e u)
    from t c = ⊎_elim
        (λ w. let x = wh.sound w.0 w.2 in (
          v ∷ x.0,
          ap (λ z. has z (v ∷ x.0)) fe ∙ has_upper v lo hi x.0 a x.1,
          w.1 ∙ ap (λ z. v ∷ z) x.2 ∙ sym (put_after e v x.0 l),
        ))
        (λ w. let x = wl.sound t w in (x.0, ap (λ z. has z x.0) fe ∙ has_lower v lo hi x.0 x.1, x.2))
        c

    to : (s : List ℕ) → ((u : List ℕ) × (s ≡ v ∷ u) × (has hi u ≡ true)) ⊎ (has lo s ≡ true)
        → has (node v lo2 hi2) (put_in e s) ≡ true
    to s c = ⊎_elim
        (λ w. ap (has (node v lo2 hi2)) (ap (put_in e) w.1 ∙ put_after e v w.0 l)
        ∙ has_upper v lo2 hi2 (put_in e w.0) (with_above e v lo lo2 l a wl) (wh.whole w.0 w.2))
        (λ w. has_lower v lo2 hi2 (put_in e s) (wl.whole s w))
        c

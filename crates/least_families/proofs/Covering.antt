-- Where a set has one of a family's sets in it.
use Rattle.std.proofs.Common.{◌≡◌, ◌<◌, ◌≤◌, ◌-◌, ℕ, zero, suc, Bool, true, false, cond, ◌&&◌, ◌||◌, not, eqb, nat_lt, List, [], ◌∷◌, length, filter, map, Option, Some, None, refl, sym, ap, ap₂, ◌∙◌, subst, arith, lt-ltb, eqb-true, ⊎_elim, true≢false}
use Rattle.std.specs.List.{AllByRecursion, list_any}
use Rattle.std.proofs.lemmas.Bool.{and_parts, or_cases, cases_Bool, ltb-true}
use Rattle.std.proofs.lemmas.List.Folds.{list_any-append}
use Rattle.ar_base.specs.Lists.{IsOneOf}
use Rattle.ar_base.specs.Sets.{Within}
use Rattle.ar_base.proofs.Standing.{one_none, one_first, one_rest, one_cases}
use Rattle.ar_base.proofs.Truths.{alike, not_true, true_not}
use Rattle.ar_firing.specs.Cuts.{HasAtMost}
use Rattle.ar_firing.specs.CutsInside.{UpTo}
use Rattle.zdd_nodes.specs.Families.{Family, holds, within, has, without}
use Rattle.zdd_nodes.specs.FamiliesInside.{node, IsAbove}
use Rattle.zdd_nodes.proofs.Laws.{list_any-map, list_any-none, every, any_more, within-refl}
use Rattle.zdd_nodes.proofs.Members.{holds_law, within_law, has-without}
use Rattle.zdd_nodes.proofs.Minimal.{Witness, witness, any_from, within-through}
use Rattle.diagram_steps.proofs.PutIn.{Above, above_each}
use Rattle.std.specs.Option.{option_map}
use Rattle.least_families.specs.Least.{covers}

-- ---- a set that covers
pub covers_from : (f : Family) (t s : List ℕ) → has f t ≡ true → within t s ≡ true → covers f s ≡ true
covers_from f t s h w = any_from (λ t. within t s) f t h w

pub covers_self : (f : Family) (s : List ℕ) → has f s ≡ true → covers f s ≡ true
covers_self f s h = covers_from f s s h (within-refl s)

pub covered : (f : Family) (s : List ℕ) → covers f s ≡ true → Witness (λ t. within t s) f
covered f s h = witness (λ t. within t s) f h

pub covers_more : (f : Family) (s u : List ℕ) → within s u ≡ true → covers f s ≡ true → covers f u ≡ true
covers_more f s u w h = let x = covered f s h in covers_from f x.set u x.in_family (within-through x.set s u x.passes w)

-- ---- node by node
with_first : (b : Bool) (hi : Family) (s : List ℕ) → list_any (λ t. b && within t s) hi ≡ (b && covers hi s)
with_first true hi s = refl
with_first false hi s = list_any-none (λ t. false) hi (every (λ t. false ≡ false) (λ t. refl) hi)

pub covers_node : (v : ℕ) (lo hi : Family) (s : List ℕ)
    → covers (node v lo hi) s ≡ ((holds v s && covers hi s) || covers lo s)
covers_node v lo hi s =
    list_any-append (λ t. within t s) (map (λ t. v ∷ t) hi) lo
    ∙ ap (λ b. b || covers lo s) (list_any-map v (λ t. within t s) hi ∙ with_first (holds v s) hi s)

-- what is taken out for a lesser set is covered by that
pub covers_without : (h lo : Family) (s : List ℕ)
    → (covers (without h lo) s || covers lo s) ≡ (covers h s || covers lo s)
covers_without h lo s = alike _ _ there back
  where
    left : covers (without h lo) s ≡ true → (covers h s || covers lo s) ≡ true
    left x =
        let w = covered (without h lo) s x in
        let p = and_parts (has h w.set) _ (sym (has-without h lo w.set) ∙ w.in_family) in
        ap (λ b. b || covers lo s) (covers_from h w.set s p.0 w.passes)

    right : (b : Bool) → (b || true) ≡ true
    right true = refl
    right false = refl

    there : (covers (without h lo) s || covers lo s) ≡ true → (covers h s || covers lo s) ≡ true
    there x = ⊎_elim left (λ y. ap (λ b. covers h s || b) y ∙ right (covers h s))
        (or_cases (covers (without h lo) s) (covers lo s) x)

    of_set : (t : List ℕ) → has h t ≡ true → within t s ≡ true → (b : Bool) → covers lo t ≡ b
        → (covers (without h lo) s || covers lo s) ≡ true
    of_set t i w true e = ap (λ b. covers (without h lo) s || b) (covers_more lo t s w e) ∙ right (covers (without h lo) s)
    of_set t i w false e = ap (λ b. b || covers lo s)
        (covers_from (without h lo) t s (has-without h lo t ∙ ap₂ (λ a b. a && not b) i e) w)

    back : (covers h s || covers lo s) ≡ true → (covers (without h lo) s || covers lo s) ≡ true
    back x = ⊎_elim (λ y. let w = covered h s y in of_set w.set w.in_family w.passes (covers lo w.set) refl)
        (λ y. ap (λ b. covers (without h lo) s || b) y ∙ right (covers (without h lo) s))
        (or_cases (covers h s) (covers lo s) x)

-- ---- the members above v
abbrev pub over : ℕ → List ℕ → List ℕ
over v s = filter (λ x. nat_lt v x) s

pub holds_over : (v x : ℕ) (s : List ℕ) → v < x → holds x s ≡ true → holds x (over v s) ≡ true
holds_over v x [] l h = h
holds_over v x (y ∷ s) l h = step (holds_over v x s l) (eqb x y) refl
  where
    step : (holds x s ≡ true → holds x (over v s) ≡ true) → (b : Bool) → eqb x y ≡ b
        → holds x (cond (nat_lt v y) (y ∷ over v s) (over v s)) ≡ true
    step ih true e =
        let p : nat_lt v y ≡ true = ap (nat_lt v) (sym (eqb-true x y e)) ∙ lt-ltb v x l in
        ap (λ b. holds x (cond b (y ∷ over v s) (over v s))) p ∙ ap (λ b. b || holds x (over v s)) e
    step ih false e =
        let r = ih (ap (λ b. b || holds x s) (sym e) ∙ h) in
        elim (nat_lt v y) as (λ b. holds x (cond b (y ∷ over v s) (over v s)) ≡ true)
        [ true ↦ ap (λ b. b || holds x (over v s)) e ∙ r | false ↦ r ]

pub over_part : (v : ℕ) (s : List ℕ) → (x : ℕ) → IsOneOf (over v s) x → IsOneOf s x
over_part v [] x o = o
over_part v (y ∷ s) x o = step (over_part v s x) (nat_lt v y) refl
  where
    step : (IsOneOf (over v s) x → IsOneOf s x) → (b : Bool) → nat_lt v y ≡ b → IsOneOf (y ∷ s) x
    step ih true e = ⊎_elim
        (λ q. subst (λ z. IsOneOf (y ∷ s) z) q (one_first y s))
        (λ r. one_rest y s x (ih r))
        (one_cases y (over v s) x (subst (λ b. IsOneOf (cond b (y ∷ over v s) (over v s)) x) e o))
    step ih false e = one_rest y s x (ih (subst (λ b. IsOneOf (cond b (y ∷ over v s) (over v s)) x) e o))

pub over_above : (v : ℕ) (s : List ℕ) → (x : ℕ) → IsOneOf (over v s) x → v < x
over_above v [] x o = absurd (one_none x o)
over_above v (y ∷ s) x o = step (over_above v s x) (nat_lt v y) refl
  where
    step : (IsOneOf (over v s) x → v < x) → (b : Bool) → nat_lt v y ≡ b → v < x
    step ih true e = ⊎_elim
        (λ q. subst (λ z. v < z) q (ltb-true v y e))
        (λ r. ih r)
        (one_cases y (over v s) x (subst (λ b. IsOneOf (cond b (y ∷ over v s) (over v s)) x) e o))
    step ih false e = ih (subst (λ b. IsOneOf (cond b (y ∷ over v s) (over v s)) x) e o)

pub over_within : (v : ℕ) (s : List ℕ) → within (over v s) s ≡ true
over_within v s = (within_law (over v s) s).1 (over_part v s)

within_over : (v : ℕ) (t s : List ℕ) → Above v t → within t s ≡ true → within t (over v s) ≡ true
within_over v [] s a w = refl
within_over v (x ∷ t) s a w =
    let p = and_parts (holds x s) (within t s) w in
    ap₂ (λ b c. b && c) (holds_over v x s a.0 p.0) (within_over v t s a.1 p.1)

-- the members at v and below do not matter to sets above
pub covers_over : (v : ℕ) (f : Family) (s : List ℕ) → IsAbove v f → covers f (over v s) ≡ covers f s
covers_over v f s a = alike _ _ (covers_more f (over v s) s (over_within v s))
    (λ h. let w = covered f s h in
    covers_from f w.set (over v s) w.in_family (within_over v w.set s (above_each v f w.set a w.in_family) w.passes))

-- ---- how many members
-- one member fewer
abbrev pub fewer : Option ℕ → Option ℕ
fewer order = option_map (λ k. k - 1) order

pub up_to_part : (order : Option ℕ) (u s : List ℕ) → within u s ≡ true → UpTo order s → UpTo order u
up_to_part None u s w h = tt
up_to_part (Some k) u s w h = record {
  list = h.list;
  within = record { each = λ e o. h.within.each e ((within_law u s).0 w e o) };
  few = h.few;
}

over_length : (v : ℕ) (l : List ℕ) → length (over v l) ≤ length l
over_length v [] = omega arith
over_length v (y ∷ l) = let ih = over_length v l in
    elim (nat_lt v y) as (λ b. length (cond b (y ∷ over v l) (over v l)) ≤ length (y ∷ l))
    [ true ↦ omega (arith, ih) | false ↦ omega (arith, ih) ]

over_shorter : (v : ℕ) (l : List ℕ) → holds v l ≡ true → length (over v l) < length l
over_shorter v [] h = absurd (true≢false (sym h))
over_shorter v (y ∷ l) h = step (over_shorter v l) (nat_lt v y) refl
  where
    step : (holds v l ≡ true → length (over v l) < length l) → (b : Bool) → nat_lt v y ≡ b
        → length (cond (nat_lt v y) (y ∷ over v l) (over v l)) < length (y ∷ l)
    step ih false e =
        let x = over_length v l in
        subst (λ b. length (cond b (y ∷ over v l) (over v l)) < length (y ∷ l)) (sym e) (omega (arith, x))
    step ih true e = ⊎_elim
        (λ q. let same = eqb-true v y q in
        let less = ltb-true v y e in
        absurd (omega (arith, same, less)))
        (λ r. let x = ih r in
        subst (λ b. length (cond b (y ∷ over v l) (over v l)) < length (y ∷ l)) (sym e) (omega (arith, x)))
        (or_cases (eqb v y) (holds v l) h)

-- a set with v has one member more than what is above v
pub up_to_over : (order : Option ℕ) (v : ℕ) (s : List ℕ) → holds v s ≡ true → UpTo order s
    → UpTo (fewer order) (over v s)
up_to_over None v s h u = tt
up_to_over (Some k) v s h u =
    let inside = (holds_law v u.list).1 (u.within.each v ((holds_law v s).0 h)) in
    let short = over_shorter v u.list inside in
    let few = u.few in record {
      list = over v u.list;
      within = record {
        each = λ e o. (holds_law e (over v u.list)).0
            (holds_over v e u.list (over_above v s e o) ((holds_law e u.list).1 (u.within.each e (over_part v s e o))));
      };
      few = omega (arith, short, few);
    }

pub up_to_with : (order : Option ℕ) (v : ℕ) (s : List ℕ) → (order ≡ Some 0 → ⊥) → UpTo (fewer order) s
    → UpTo order (v ∷ s)
up_to_with None v s n u = tt
up_to_with (Some zero) v s n u = absurd (n refl)
up_to_with (Some (suc k)) v s n u = let few = u.few in record {
  list = v ∷ u.list;
  within = record {
    each = λ e o. ⊎_elim
        (λ q. subst (λ z. IsOneOf (v ∷ u.list) z) q (one_first v u.list))
        (λ r. one_rest v u.list e (u.within.each e r))
        (one_cases v s e o);
  };
  few = omega (arith, few);
}

pub up_to_more : (order : Option ℕ) (s : List ℕ) → UpTo (fewer order) s → UpTo order s
up_to_more None s u = tt
up_to_more (Some k) s u = let few = u.few in record { list = u.list; within = u.within; few = omega (arith, few) }

-- a set of no members
pub up_to_none : (s : List ℕ) (x : ℕ) → UpTo (Some 0) s → IsOneOf s x → ⊥
up_to_none s x u o = nothing u.list u.few (u.within.each x o)
  where
    nothing : (l : List ℕ) → length l ≤ 0 → IsOneOf l x → ⊥
    nothing [] f i = one_none x i
    nothing (y ∷ l) f i = omega (arith, f)

-- Observers whose variables did not change, and the pairs of observers and variables.
use Rattle.std.proofs.Common.{◌≡◌, ◌<◌, ◌≤◌, ◌+◌, ◌⊎◌, ℕ, zero, suc, List, [], ◌∷◌, ◌++◌, length, slice_get, inl, inr, refl, sym, ◌∙◌, ap, subst, arith}
use Rattle.std.specs.List.Sorted.{IsNonDecreasingBy, IsPermutation}
use Rattle.std.proofs.lemmas.List.Sorted.{Contains-permutation, IsPermutation-sym}
use Rattle.std.proofs.lemmas.Bool.{cases_eq}
use Rattle.ar_base.specs.Lists.{Stands, IsOneOf}
use Rattle.ar_base.specs.Numbers.{VarId}
use Rattle.ar_base.proofs.Standing.{stands_within, stands_one, stands_none, stands_map, stands_map_back, one_here, one_contains, contains_one}
use Rattle.ar_base.proofs.Sets.{member_told}
use Rattle.domains.specs.declared.Value.{Value}
use Rattle.typed_expr.specs.Mentions.{Mentions}
use Rattle.typed_expr.specs.declared.expr.Expr.{out-Expr}
use Rattle.ar_meaning.specs.TraceText.{variable_line, observer_line}
use Rattle.gts_core.specs.Sound.{IsSound}
use Rattle.gts_core.specs.Readings.{IsTotal, valuation_at, value_in}
use Rattle.gts_core.specs.declared.system.GtsParts.{GtsParts}
use Rattle.gts_core.specs.declared.system.Observer.{Observer}
use Rattle.gts_flatten.specs.Flat.{naming_of_parts}
use Rattle.flow_propagate.specs.Named.{AddsNamed}
use Rattle.flow_changes.specs.Changes.{changed_numbers, AreChanges}
use Rattle.way_flags.proofs.SameReadings.{same_in}
use Rattle.replayer.specs.Observing.{Observes, AreObserved, AreInOrder, AreTouched}
use Rattle.replayer.specs.Printing.{seen_by, observed_value, observer_value, numbered_texts, change_text, changes_from, observer_changes, changes_text}
use Rattle.replayer.proofs.ChangeLemmas.{changes_texts, changes_named, texts_same}
use Rattle.replayer.proofs.ValueLemmas.{changes_alike}
use Rattle.stepper.proofs.Kept.{kept_value}

seen_at : (os : List Observer) (t : List Value) (n : ℕ) → valuation_at (seen_by os t) n ≡ observed_value (slice_get os n) t
seen_at [] t zero = refl
seen_at [] t (suc n) = refl
seen_at (o ∷ os) t zero = refl
seen_at (o ∷ os) t (suc n) = seen_at os t n

seen_count : (os : List Observer) (t : List Value) → length (seen_by os t) ≡ length os
seen_count [] t = refl
seen_count (o ∷ os) t = ap suc (seen_count os t)

-- the line of this observer, where its value changed
abbrev pub observer_text : GtsParts → List Value → List Value → ℕ → List ℕ
observer_text p old new n = change_text (observer_line (naming_of_parts p)) n (observer_value p old n)
    (observer_value p new n)

-- the lines of what changed are those of the variables that changed, and of the observers that name one of them
pub changes_looked : (p : GtsParts) → IsSound p → (old new : List Value) → IsTotal p old → IsTotal p new
    → (xs : List VarId) → AreChanges old new xs → (ns : List ℕ) → AreTouched p xs ns
    → numbered_texts (λ n. variable_line (naming_of_parts p) n (valuation_at new n)) (changed_numbers xs)
    ++ numbered_texts (observer_text p old new) ns
    ≡ changes_text p old new
changes_looked p sound old new before after xs are ns touched =
    ap (λ z. z ++ numbered_texts (observer_text p old new) ns)
    (changes_named (variable_line (naming_of_parts p)) old new xs long are)
    ∙ ap (λ z. changes_from (variable_line (naming_of_parts p)) 0 old new ++ z) (sym observers)
  where
    one : ℕ → Value → List ℕ
    one = observer_line (naming_of_parts p)

    os : List Observer
    os = p.observers.items

    long : length old ≡ length new
    long = omega (arith, before.long, after.long)

    within : (m : ℕ) → IsOneOf ns m → m < length (seen_by os old)
    within m o = let t = (touched.each m).0 o in let l = stands_within os m t.observes.observer t.observes.stands in omega (arith, l, seen_count os old)

    among : (m : ℕ) (v w : Value) → Stands (seen_by os old) m v → Stands (seen_by os new) m w → (v ≡ w → ⊥)
        → IsOneOf ns m
    among m v w s t differ = elim (member_told ns m)
        [ inl o ↦ o | inr lacks ↦ absurd (differ (sym was.2 ∙ same lacks ∙ is)) ]
      where
        was : (o : Observer) × Stands os m o × (value_in old o.value ≡ v)
        was = stands_map_back (λ (o : Observer). value_in old o.value) os m v s

        is : value_in new was.0.value ≡ w
        is = stands_one (seen_by os new) m (value_in new was.0.value) w
            (stands_map (λ (o : Observer). value_in new o.value) os m was.0 was.1) t

        same : (IsOneOf ns m → ⊥) → value_in old was.0.value ≡ value_in new was.0.value
        same lacks = same_in p old new before after was.0.value was.0.kind
            (sound.observers was.0 (one_here os m was.0 was.1))
            (λ x d. kept_value old new long x.n
            (λ h. lacks ((touched.each m).1
            (record {
              variable = x.n;
              is_one = (are.each x.n).1 h;
              observes = record { observer = was.0; stands = was.1; variable = x; is = refl; names = d };
            }))))

    observers : observer_changes p old new 0 os ≡ numbered_texts (observer_text p old new) ns
    observers =
        sym (changes_alike p old new 0 os)
        ∙ changes_texts one (seen_by os old) (seen_by os new) ns (seen_count os old ∙ sym (seen_count os new))
        touched.ascend within among
        ∙ texts_same (λ m. change_text one m (valuation_at (seen_by os old) m) (valuation_at (seen_by os new) m))
        (observer_text p old new) ns
        (λ m o. ap (λ z. change_text one m z (valuation_at (seen_by os new) m)) (seen_at os old m)
        ∙ ap (λ z. change_text one m (observer_value p old m) z) (seen_at os new m))

-- the pairs of the observers

pub observed_start : (p : GtsParts) → AreObserved p 0 []
observed_start p = record {
  only = λ q o. absurd (stands_none o.place q o.stands);
  all = λ x n h r. absurd (omega (arith, h));
}

-- one observer more
pub observed_more : (p : GtsParts) (i : ℕ) (o : Observer) (old new : List (ℕ × ℕ)) → Stands p.observers.items i o
    → AreObserved p i old → AddsNamed i (λ x. Mentions x (out-Expr VarId o.value)) old new
    → AreObserved p (i + 1) new
observed_more p i o old new st before adds = record {
  only = λ q h. elim (adds.only q h) [ inl k ↦ before.only q k | inr k ↦ here q k.variable k.has k.first k.second ];
  all = λ x n below r. at x n r (below_more n below);
}
  where
    here : (q : ℕ × ℕ) (x : VarId) → Mentions x (out-Expr VarId o.value) → q.0 ≡ x.n → q.1 ≡ i → Observes p q.0 q.1
    here q x d first second = record {
      observer = o;
      stands = subst (λ (z : ℕ). Stands p.observers.items z o) (sym second) st;
      variable = x;
      is = sym first;
      names =
          d;
    }

    below_more : (n : ℕ) → n < i + 1 → (n < i) ⊎ (n ≡ i)
    below_more n h = elim (cases_eq n i) [ inl e ↦ inr e | inr f ↦ inl (grind (arith, h, f)) ]

    at : (x n : ℕ) → Observes p x n → (n < i) ⊎ (n ≡ i) → IsOneOf new (x, n)
    at x n r (inl l) = adds.grows (x, n) (before.all x n l r)
    at x n r (inr e) =
        let same : r.observer ≡ o = stands_one p.observers.items i r.observer o
        (subst (λ (z : ℕ). Stands p.observers.items z r.observer) e r.stands) st in
        let d : Mentions r.variable (out-Expr VarId o.value) =
        subst (λ (z : Observer). Mentions r.variable (out-Expr VarId z.value)) same r.names in
        subst (λ (z : ℕ). IsOneOf new (z, n)) r.is
        (subst (λ (z : ℕ). IsOneOf new (r.variable.n, z)) (sym e) (adds.all r.variable d))

pub observed_all : (p : GtsParts) (i : ℕ) (pairs : List (ℕ × ℕ)) → length p.observers.items ≤ i → AreObserved p i pairs
    → AreObserved p (length p.observers.items) pairs
observed_all p i pairs h are = record { only = are.only; all = λ x n below r. are.all x n (omega (arith, below, h)) r }

-- the pairs in another order
pub observed_sorted : (p : GtsParts) (pairs sorted : List (ℕ × ℕ)) → AreObserved p (length p.observers.items) pairs
    → IsPermutation pairs sorted → IsNonDecreasingBy (λ (q : ℕ × ℕ). q.0) sorted → AreInOrder p sorted
observed_sorted p pairs sorted are perm order = record {
  only = λ q o. are.only q (one_contains pairs q
      (Contains-permutation sorted pairs q (IsPermutation-sym pairs sorted perm) (contains_one sorted q o)));
  all = λ x n h. one_contains sorted (x, n)
      (Contains-permutation pairs sorted (x, n) perm
      (contains_one pairs (x, n) (are.all x n (stands_within p.observers.items n h.observer h.stands) h)));
  ascending = order;
}

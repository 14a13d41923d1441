-- Sets and families that are named event by event.
use Rattle.std.proofs.Common.{◌≡◌, ◌⊎◌, ⊎_elim, inl, inr, ℕ, zero, suc, ◌<◌, Bool, true, false, cond, ◌||◌, eqb, nat_lt, List, [], ◌∷◌, refl, sym, ap, ◌∙◌, subst, arith, eqb-true, eq-eqb, true≢false}
use Rattle.std.proofs.lemmas.Bool.{or_cases, or_right}
use Rattle.ar_base.specs.Lists.{Stands, IsOneOf}
use Rattle.ar_base.specs.NumbersInside.{EventId}
use Rattle.ar_base.proofs.Standing.{one_none, one_cases, one_first, one_rest}
use Rattle.zdd_nodes.specs.Families.{holds, has}
use Rattle.zdd_nodes.proofs.Members.{holds_law}
use Rattle.zdd_nodes.specs.Nodes.{Stored, family}
use Rattle.diagram_steps.specs.Putting.{put_in}
use Rattle.named_families.specs.Names.{IsNamedBy, AreNamed}

-- ---- the members of a set with an event
or_swap : (a b c : Bool) → (a || (b || c)) ≡ (b || (a || c))
or_swap true true c = refl
or_swap true false c = refl
or_swap false true c = refl
or_swap false false c = refl

or_twice : (a b c : Bool) → a ≡ b → (a || c) ≡ (b || (a || c))
or_twice true b c e = ap (λ x. x || true) e
or_twice false b c e = ap (λ x. x || c) e

pub holds_put : (e : ℕ) (s : List ℕ) (x : ℕ) → holds x (put_in e s) ≡ (eqb x e || holds x s)
holds_put e [] x = refl
holds_put e (y ∷ s) x = step (holds_put e s x) (eqb e y) refl (nat_lt e y)
  where
    step : holds x (put_in e s) ≡ (eqb x e || holds x s) → (b : Bool) → eqb e y ≡ b → (c : Bool)
        → holds x (cond b (y ∷ s) (cond c (e ∷ y ∷ s) (y ∷ put_in e s))) ≡ (eqb x e || holds x (y ∷ s))
    step ih true p c = or_twice (eqb x y) (eqb x e) (holds x s) (ap (eqb x) (sym (eqb-true e y p)))
    step ih false p true = refl
    step ih false p false = ap (λ b. eqb x y || b) ih ∙ or_swap (eqb x y) (eqb x e) (holds x s)

pub put_cases : (e : ℕ) (s : List ℕ) (x : ℕ) → IsOneOf (put_in e s) x → (x ≡ e) ⊎ IsOneOf s x
put_cases e s x one = ⊎_elim
    (λ h. inl (eqb-true x e h))
    (λ h. inr ((holds_law x s).0 h))
    (or_cases (eqb x e) (holds x s) (sym (holds_put e s x) ∙ (holds_law x (put_in e s)).1 one))

pub put_event : (e : ℕ) (s : List ℕ) → IsOneOf (put_in e s) e
put_event e s = (holds_law e (put_in e s)).0 (holds_put e s e ∙ ap (λ b. b || holds e s) (eq-eqb e e refl))

pub put_kept : (e : ℕ) (s : List ℕ) (x : ℕ) → IsOneOf s x → IsOneOf (put_in e s) x
put_kept e s x one = (holds_law x (put_in e s)).0 (holds_put e s x
    ∙ or_right (eqb x e) (holds x s) ((holds_law x s).1 one))

-- ---- sets
pub named_none : (names : List EventId) → IsNamedBy names [] []
named_none names = record { sound = λ e o. absurd (one_none e o); whole = λ i o. absurd (one_none i o) }

pub named_more : (names : List EventId) (e : ℕ) (n : EventId) (t x : List ℕ) → Stands names e n → IsNamedBy names t x
    → IsNamedBy names (e ∷ t) (put_in n.n x)
named_more names e n t x st b = record {
  sound = λ y o. ⊎_elim
      (λ q. (e, n, one_first e t, st, sym q))
      (λ p. let w = b.sound y p in (w.0, w.1, one_rest e t w.0 w.2, w.3, w.4))
      (put_cases n.n x y o);
  whole = λ i o. ⊎_elim
      (λ q. (n, subst (λ j. Stands names j n) q st, put_event n.n x))
      (λ p. let w = b.whole i p in (w.0, w.1, put_kept n.n x w.0.n w.2))
      (one_cases e t i o);
}

-- ---- families that are the same in each store
named_empty : (names : List EventId) → AreNamed names [] []
named_empty names = record {
  sound = λ s h. absurd (true≢false (sym h));
  whole = λ t h. absurd (true≢false (sym h));
}

unit_set : (s : List ℕ) → has ([] ∷ []) s ≡ true → s ≡ []
unit_set [] h = refl
unit_set (x ∷ s) h = absurd (true≢false (sym h))

named_unit : (names : List EventId) → AreNamed names ([] ∷ []) ([] ∷ [])
named_unit names = record {
  sound = λ s h. ([], refl, subst (IsNamedBy names []) (sym (unit_set s h)) (named_none names));
  whole = λ t h. ([], refl, subst (λ z. IsNamedBy names z []) (sym (unit_set t h)) (named_none names));
}

pub named_small : (names : List EventId) (source s : Stored) (n : ℕ) → n < 2
    → AreNamed names (family source n) (family s n)
named_small names source s zero h = named_empty names
named_small names source s (suc zero) h = named_unit names
named_small names source s (suc (suc n)) h = absurd (omega (arith, h))

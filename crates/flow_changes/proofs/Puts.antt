-- Values that become known.
use Rattle.std.proofs.Common.{◌≡◌, ℕ, zero, suc, ◌+◌, ◌<◌, ◌⊎◌, inl, inr, Bool, true, false, List, [], ◌∷◌, length, set, Contains, Option, Some, None, IfSome, IfNone, refl, sym, ◌∙◌, subst, arith, length-set}
use Rattle.std.proofs.lemmas.Bool.{cases_eq}
use Rattle.ar_base.specs.Lists.{Stands, IsOneOf}
use Rattle.ar_base.proofs.Standing.{stands_one, stands_within, stands_none, one_first}
use Rattle.domains.specs.Domains.{IsDomain, Holds}
use Rattle.domains.specs.declared.Domain.{Domain}
use Rattle.domains.specs.declared.Value.{Value}
use Rattle.domains.proofs.Members.{contains-one}
use Rattle.gts_core.specs.Sound.{IsSound}
use Rattle.gts_core.specs.View.{assign_of}
use Rattle.gts_core.specs.declared.system.Variable.{Variable}
use Rattle.gts_core.specs.declared.system.Assign.{Assign}
use Rattle.gts_core.specs.declared.system.GtsParts.{GtsParts}
use Rattle.flow_changes.specs.Cone.{Knows}
use Rattle.flow_changes.specs.Known.{PutsKnown, Touches, Applies, IsBarred, unmarked}
use Rattle.flow_changes.proofs.Picks.{set_same, set_other, keeps_same}
use Rattle.ar_meaning.specs.Reached.{YieldsWhereReached}

-- one mark more
pub unmarked_set : (marks : List Bool) (n : ℕ) → Stands marks n false → unmarked (set marks n true) + 1 ≡ unmarked marks
unmarked_set [] n s = absurd (stands_none n false s)
unmarked_set (true ∷ marks) zero s = cc
unmarked_set (false ∷ marks) zero s = omega arith
unmarked_set (b ∷ marks) (suc n) s = let r = unmarked_set marks n s in omega (arith, r)

pub touches_not : (d : Domain) (t : ℕ) (values : List Value) (known : List Bool) → Touches d t values known values known
touches_not d t values known = record
    { of_values = keeps_same (t ∷ []) values; of_marks = keeps_same (t ∷ []) known; held = λ v s. inl s }

pub puts_nothing : (d : Domain) (t : ℕ) (set : List Value) (values : List Value) (known : List Bool)
    → ((v : Value) → Contains set v → Knows values known t v × Holds d v) → PutsKnown d t set values known values known false
puts_nothing d t set values known there =
    record {
      grows = λ n v k. k;
      only = λ n v k. inl k;
      still = λ e. (refl, refl);
      there = there;
      less = λ e. absurd (cc e);
    }

pub puts_same : (d : Domain) (t : ℕ) (v : Value) (values : List Value) (known : List Bool) → Stands known t true
    → Stands values t v → Holds d v → PutsKnown d t (v ∷ []) values known values known false
puts_same d t v values known m s h = puts_nothing d t (v ∷ []) values known (λ w c. let e = contains-one v w c in (record { marked = m; value = subst (λ (z : Value). Stands values t z) e s }, subst (λ (z : Value). Holds d z) e h))

-- the value that is known already, where it is compared with the new one
module _ (d : Domain) (t : ℕ) (v old : Value) (values : List Value) (known : List Bool) (m : Stands known t true)
    (s : Stands values t old) where
  pub puts_again : (r : Option Bool) → Holds d v → IfSome r (λ changed. (changed ≡ false) × (old ≡ v))
      → IfSome r (PutsKnown d t (v ∷ []) values known values known)
  puts_again (Some b) h k =
      subst (λ (z : Bool). PutsKnown d t (v ∷ []) values known values known z) (sym k.0)
      (puts_same d t v values known m (subst (λ (z : Value). Stands values t z) k.1 s) h)
  puts_again None h k = k

  pub barred_again : (r : Option Bool) → IfNone r (old ≡ v → ⊥) → IfNone r (IsBarred d t v values known)
  barred_again (Some b) k = k
  barred_again None k = inr (old, record { marked = m; value = s }, k)

module _ (d : Domain) (t : ℕ) (v : Value) (values : List Value) (known : List Bool) (m : Stands known t false)
    (within : t < length values) (h : Holds d v) where
  here : Knows (set values t v) (set known t true) t v
  here = record { marked = set_same known t true (stands_within known t false m); value = set_same values t v within }

  others : (n : ℕ) (w : Value) → (n ≡ t → ⊥) → Knows (set values t v) (set known t true) n w → Knows values known n w
  others n w f k = record {
    marked = sym (set_other known t n true f) ∙ k.marked;
    value = sym (set_other values t n v f)
        ∙ k.value;
  }

  back : (n : ℕ) (w : Value) → (n ≡ t → ⊥) → Knows values known n w → Knows (set values t v) (set known t true) n w
  back n w f k = record { marked = set_other known t n true f ∙ k.marked; value = set_other values t n v f ∙ k.value }

  not_known : (n : ℕ) (w : Value) → Knows values known n w → n ≡ t → ⊥
  not_known n w k e =
      let a : Stands known t true = subst (λ (z : ℕ). Stands known z true) e k.marked in
      let b : true ≡ false = stands_one known t true false a m in cc

  only : (n : ℕ) (w : Value) → Knows (set values t v) (set known t true) n w → (n ≡ t) ⊎ (n ≡ t → ⊥)
      → Knows values known n w ⊎ ((n ≡ t) × Contains (v ∷ []) w)
  only n w k (inl e) =
      let a : Stands (set values t v) t w = subst (λ (z : ℕ). Stands (set values t v) z w) e k.value in
      let b : v ≡ w = stands_one (set values t v) t v w here.value a in
      inr (e, (0, omega arith, b))
  only n w k (inr f) = inl (others n w f k)

  pub puts_new : PutsKnown d t (v ∷ []) values known (set values t v) (set known t true) true
  puts_new = record {
    grows = λ n w k. back n w (not_known n w k) k;
    only = λ n w k. only n w k (cases_eq n t);
    still = λ e. absurd (cc e);
    there = λ w c. let e = contains-one v w c in subst (λ (z : Value). Knows (set values t v) (set known t true) t z × Holds d z) e (here, h);
    less = λ e. (let r = unmarked_set known t m in omega (arith, r));
  }

  pub touches_new : Touches d t values known (set values t v) (set known t true)
  touches_new = record {
    of_values = record {
      long = length-set values t v;
      others = λ n o. set_other values t n v (λ e. o (subst (λ (z : ℕ). IsOneOf (t ∷ []) z) (sym e) (one_first t [])));
    };
    of_marks = record {
      long = length-set known t true;
      others = λ n o. set_other known t n true
          (λ e. o (subst (λ (z : ℕ). IsOneOf (t ∷ []) z) (sym e) (one_first t [])));
    };
    held = λ w s. inr (subst (λ (z : Value). Holds d z) (stands_one (set values t v) t v w here.value s) h);
  }

-- the target of an assertion's assignment
pub record Aims (p : GtsParts) (a : Assign) : Type 0 where
  pub variable : Variable
  pub stands : Stands p.variables.items a.target.n variable
  pub is_flow : variable.is_state ≡ false
  pub domain : IsDomain variable.domain

pub aims : (p : GtsParts) (a : Assign) → IsSound p → IsOneOf p.assigns.items a → Aims p a
aims p a s i = let r = s.assertions a i in record { variable = r.variable; stands = r.stands; is_flow = r.is; domain = (s.variables a.target.n r.variable r.stands).domain }

module _ (p : GtsParts) (a : Assign) (values : List Value) (known : List Bool) where
  pub applies_not : YieldsWhereReached (Knows values known) (assign_of a) None → Applies p a values known values known false
  applies_not g = record {
    grows = λ n v k. k;
    only = λ n v k. inl k;
    still = λ e. (refl, refl);
    done = λ v pass y. absurd (g pass);
    less = λ e. absurd (cc e);
  }

  pub applies_set : (d : Domain) (set : List Value) (values' : List Value) (known' : List Bool) (changed : Bool)
      → YieldsWhereReached (Knows values known) (assign_of a) (Some set)
      → PutsKnown d a.target.n set values known values' known' changed → Applies p a values known values' known' changed
  applies_set d set values' known' changed g puts = record {
    grows = puts.grows;
    only = λ n v k. elim (puts.only n v k) [ inl h ↦ inl h | inr h ↦ inr (h.0, g.0, g.1.sound v h.1) ];
    still = puts.still;
    done = λ v pass y. (puts.there v (g.1.complete v y)).0;
    less = puts.less;
  }

-- what holds of a value that is there
pub some_as : {A : Type 0} (P Q : A → Type 0) (o : Option A) → ((x : A) → P x → Q x) → IfSome o P → IfSome o Q
some_as P Q (Some x) f h = f x h
some_as P Q None f h = h

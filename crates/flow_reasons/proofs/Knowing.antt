-- What is known, as an environment has it.
use Rattle.std.proofs.Common.{◌≡◌, ◌<◌, ◌≤◌, ◌+◌, inl, inr, ℕ, Bool, true, false, List, [], ◌∷◌, map, length, drop, get_or, Contains, Option, Some, None, slice_get, if◌then◌else◌, refl, sym, ap, ◌∙◌, subst}
use Rattle.std.proofs.lemmas.List.{at_drop_more, at_drop_all}
use Rattle.ar_base.specs.Lists.{Stands}
use Rattle.ar_base.specs.Numbers.{VarId}
use Rattle.ar_base.proofs.Standing.{stands_one}
use Rattle.domains.proofs.Members.{contains-head, contains-cases, nothing-in}
use Rattle.domains.specs.declared.Value.{Value}
use Rattle.domains.specs.declared.Value.TheVariants.{Truth}
use Rattle.typed_expr.specs.Sets.{HasExactly}
use Rattle.typed_expr.specs.Yields.{Yields}
use Rattle.typed_expr.specs.YieldsInside.{facts_of}
use Rattle.typed_expr.specs.declared.expr.Expr.{Expr, out-Expr}
use Rattle.ar_meaning.specs.Facts.{PassesConditions, none, one_and}
use Rattle.ar_meaning.specs.Found.{IsAnswer}
use Rattle.gts_core.specs.Readings.{valuation_values, one_or_none}
use Rattle.gts_core.specs.View.{numbered, condition_of, assign_of}
use Rattle.gts_core.specs.declared.system.Assign.{Assign}
use Rattle.gts_core.proofs.Numbering.{yields_numbered, yields_back}
use Rattle.gts_core.proofs.Tests.{turned_answer}
use Rattle.flow_reasons.specs.declared.fact_marks.Mark.{Mark}
use Rattle.flow_reasons.specs.FactMarks.{is_fact, is_fact_found, HasNoFact}
use Rattle.flow_reasons.specs.Marks.{fact_value_at, Known}
use Rattle.flow_reasons.specs.Bringing.{Brings}

-- what is read is known
pub known_there : (values : List Value) (marks : List Mark) (n : ℕ) (v : Value) → Contains (fact_value_at values marks n) v
    → Known values marks n v
known_there values marks n v h = at_mark (slice_get marks n) refl h
  where
    at_value : (m : Mark) → slice_get marks n ≡ Some m → is_fact m ≡ true → (o : Option Value) → slice_get values n ≡ o
        → Contains (one_or_none o) v → Known values marks n v
    at_value m s i None e c = absurd (nothing-in v c)
    at_value m s i (Some w) e c = elim (contains-cases w v [] c) [
      | inl j ↦ record { mark = m; stands = s; is = i; value = e ∙ ap Some j }
      | inr k ↦ absurd (nothing-in v k)
    ]

    at_fact : (m : Mark) → slice_get marks n ≡ Some m → (b : Bool) → is_fact m ≡ b
        → Contains (if b then valuation_values values n else []) v
        → Known values marks n v
    at_fact m s true i c = at_value m s i (slice_get values n) refl c
    at_fact m s false i c = absurd (nothing-in v c)

    at_mark : (o : Option Mark) → slice_get marks n ≡ o
        → Contains (if is_fact_found o then valuation_values values n else []) v
        → Known values marks n v
    at_mark None s c = absurd (nothing-in v c)
    at_mark (Some m) s c = at_fact m s (is_fact m) refl c

-- what is known is read
pub known_back : (values : List Value) (marks : List Mark) (n : ℕ) (v : Value) → Known values marks n v
    → Contains (fact_value_at values marks n) v
known_back values marks n v k =
    let P : Option Mark → Type 0 = λ o. Contains (if is_fact_found o then valuation_values values n else []) v in
    let Q : Bool → Type 0 = λ b. Contains (if b then valuation_values values n else []) v in
    let R : Option Value → Type 0 = λ o. Contains (one_or_none o) v in
    subst P (sym k.stands) (subst Q (sym k.is) (subst R (sym k.value) (contains-head v [])))

module _ (values : List Value) (marks : List Mark) where
  -- the set of what the expression yields is that of its form over plain numbers
  pub tells : (e : Expr VarId) (set : List Value)
      → HasExactly set (Yields (facts_of (λ (x : VarId). fact_value_at values marks x.n)) (out-Expr VarId e))
      → HasExactly set (Yields (Known values marks) (out-Expr ℕ (numbered e)))
  tells e set h = record {
    sound = λ v c. yields_numbered (facts_of (λ (x : VarId). fact_value_at values marks x.n)) (Known values marks) e v
        (λ x w f. known_there values marks x.n w f) (h.sound v c);
    complete = λ v y. h.complete v (yields_back (facts_of (λ (x : VarId). fact_value_at values marks x.n))
        (Known values marks) e v (λ x w f. known_back values marks x.n w f) y);
  }

  -- the conditions from a place on decide
  pub record Decides (cs : List (Expr VarId × Bool)) (i : ℕ) : Type 0 where
    pub on : PassesConditions (Known values marks) (map condition_of (drop i cs))
        → PassesConditions (Known values marks) (map condition_of cs)
    pub off : PassesConditions (Known values marks) (map condition_of cs)
        → PassesConditions (Known values marks) (map condition_of (drop i cs))

  pub decides_start : (cs : List (Expr VarId × Bool)) → Decides cs 0
  decides_start cs = record { on = λ h. h; off = λ h. h }

  module _ (cs : List (Expr VarId × Bool)) (i : ℕ) (c : Expr VarId × Bool) (h : i < length cs)
      (is : c ≡ get_or cs i c) where
    split : drop i cs ≡ c ∷ drop (i + 1) cs
    split = at_drop_more (λ (xs : List (Expr VarId × Bool)). xs) cs i c h
        ∙ ap (λ (z : Expr VarId × Bool). z ∷ drop (i + 1) cs) (sym is)

    head : (d : Expr ℕ × Bool) (ds : List (Expr ℕ × Bool)) → PassesConditions (Known values marks) (d ∷ ds)
        → Yields (Known values marks) (out-Expr ℕ d.0) (Truth d.1) × PassesConditions (Known values marks) ds
    head d ds (one_and y p) = (y, p)

    there : PassesConditions (Known values marks) (map condition_of (drop i cs))
        → Yields (Known values marks) (out-Expr ℕ (numbered c.0)) (Truth c.1)
        × PassesConditions (Known values marks) (map condition_of (drop (i + 1) cs))
    there p = head _ _ (subst (λ (xs : List (Expr VarId × Bool)). PassesConditions (Known values marks) (map
        condition_of xs)) split p)

    back : Yields (Known values marks) (out-Expr ℕ (numbered c.0)) (Truth c.1)
        → PassesConditions (Known values marks) (map condition_of (drop (i + 1) cs))
        → PassesConditions (Known values marks) (map condition_of (drop i cs))
    back y p = subst (λ (xs : List (Expr VarId × Bool)). PassesConditions (Known values marks) (map condition_of xs))
        (sym split) (one_and y p)

    pub decides_on : Decides cs i → Yields (Known values marks) (out-Expr ℕ (numbered c.0)) (Truth c.1)
        → Decides cs (i + 1)
    decides_on r y = record { on = λ p. r.on (back y p); off = λ p. (there (r.off p)).1 }

    pub decides_not : Decides cs i → (Yields (Known values marks) (out-Expr ℕ (numbered c.0)) (Truth c.1) → ⊥)
        → PassesConditions (Known values marks) (map condition_of cs) → ⊥
    decides_not r n p = n (there (r.off p)).0

  pub decides_all : (cs : List (Expr VarId × Bool)) (i : ℕ) → length cs ≤ i → Decides cs i
      → PassesConditions (Known values marks) (map condition_of cs)
  decides_all cs i h r =
      let e : drop i cs ≡ [] = at_drop_all (λ (xs : List (Expr VarId × Bool)). xs) cs i h in
      r.on (subst (λ (xs : List (Expr VarId × Bool)). PassesConditions (Known values marks) (map condition_of xs))
      (sym e) none)

  -- the answer for an assignment that is reached
  pub brings_answer : (a : Assign) (set : List Value) (v : Value) (b : Bool) → HasNoFact marks a.target.n
      → Stands values a.target.n v
      → PassesConditions (Known values marks) (assign_of a).conditions
      → HasExactly set (Yields (Known values marks) (out-Expr ℕ (numbered a.value))) → IsAnswer b (Contains set v)
      → IsAnswer b (Brings values marks a)
  brings_answer a set v b o s p h ans = turned_answer b (Contains set v) (Brings values marks a)
      (λ c. record { is_open = o; value = v; is_value = s; passes = p; yields = h.sound v c })
      (λ r. subst (λ z. Contains set z) (stands_one values a.target.n r.value v r.is_value s)
      (h.complete r.value r.yields)) ans

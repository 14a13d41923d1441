-- What is known, as expressions read it.
use Rattle.std.proofs.Common.{◌≡◌, ℕ, zero, suc, ◌+◌, ◌<◌, ◌≤◌, Bool, true, false, cond, List, [], ◌∷◌, map, length, drop, get_or, Contains, Option, Some, None, slice_get, unwrap_or, refl, sym, ap, ◌∙◌, subst, arith}
use Rattle.std.proofs.lemmas.List.{at_drop_more, at_drop_all}
use Rattle.ar_base.specs.Numbers.{VarId}
use Rattle.domains.specs.declared.Value.{Value}
use Rattle.domains.specs.declared.Value.TheVariants.{Truth}
use Rattle.typed_expr.specs.Sets.{HasExactly}
use Rattle.typed_expr.specs.Yields.{Yields}
use Rattle.typed_expr.specs.YieldsInside.{facts_of}
use Rattle.typed_expr.specs.declared.expr.Expr.{Expr, out-Expr}
use Rattle.ar_meaning.specs.Facts.{PassesConditions, none, one_and}
use Rattle.gts_core.specs.Readings.{valuation_values, one_or_none}
use Rattle.gts_core.specs.View.{numbered, condition_of}
use Rattle.gts_core.proofs.Numbering.{yields_numbered, yields_back}
use Rattle.flow_changes.specs.Cone.{Knows}
use Rattle.flow_propagate.specs.Determined.{marked_value_at}

module _ (values : List Value) (known : List Bool) where
  -- a known value is the one at the variable's place
  by_mark : (n : ℕ) (v : Value) (m : Option Bool) (o : Option Value) → slice_get known n ≡ m → slice_get values n ≡ o
      → Contains (cond (unwrap_or m false) (one_or_none o) []) v → Knows values known n v
  by_mark n v (Some true) (Some w) e f (zero, h, i) = record { marked = e; value = f ∙ ap Some i }
  by_mark n v (Some true) (Some w) e f (suc k, h, i) = absurd (omega (arith, h))
  by_mark n v (Some true) None e f h = absurd (omega (arith, h.1))
  by_mark n v (Some false) o e f h = absurd (omega (arith, h.1))
  by_mark n v None o e f h = absurd (omega (arith, h.1))

  pub known_back : (n : ℕ) (v : Value) → Contains (marked_value_at values known n) v → Knows values known n v
  known_back n v h = by_mark n v (slice_get known n) (slice_get values n) refl refl h

  pub known_there : (n : ℕ) (v : Value) → Knows values known n v → Contains (marked_value_at values known n) v
  known_there n v k =
      let e : marked_value_at values known n ≡ v ∷ [] =
      ap (λ (m : Option Bool). cond (unwrap_or m false) (valuation_values values n) []) k.marked
      ∙ ap one_or_none k.value in
      subst (λ (z : List Value). Contains z v) (sym e) (0, omega arith, refl)

  -- the set of what the expression yields is that of its form over plain numbers
  pub tells : (e : Expr VarId) (set : List Value)
      → HasExactly set (Yields (facts_of (λ (x : VarId). marked_value_at values known x.n)) (out-Expr VarId e))
      → HasExactly set (Yields (Knows values known) (out-Expr ℕ (numbered e)))
  tells e set h = record {
    sound = λ v c. yields_numbered (facts_of (λ (x : VarId). marked_value_at values known x.n)) (Knows values known) e v
        (λ x w f. known_back x.n w f) (h.sound v c);
    complete = λ v y. h.complete v (yields_back (facts_of (λ (x : VarId). marked_value_at values known x.n))
        (Knows values known) e v (λ x w f. known_there x.n w f) y);
  }

-- the conditions from a place on decide
pub record Decides (facts : ℕ → Value → Type 0) (cs : List (Expr VarId × Bool)) (i : ℕ) : Type 0 where
  pub on : PassesConditions facts (map condition_of (drop i cs)) → PassesConditions facts (map condition_of cs)
  pub off : PassesConditions facts (map condition_of cs) → PassesConditions facts (map condition_of (drop i cs))

module _ (facts : ℕ → Value → Type 0) (cs : List (Expr VarId × Bool)) where
  pub decides_start : Decides facts cs 0
  decides_start = record { on = λ h. h; off = λ h. h }

  head : (d : Expr ℕ × Bool) (ds : List (Expr ℕ × Bool)) → PassesConditions facts (d ∷ ds)
      → Yields facts (out-Expr ℕ d.0) (Truth d.1) × PassesConditions facts ds
  head d ds (one_and y p) = (y, p)

  module _ (i : ℕ) (c : Expr VarId × Bool) (h : i < length cs) (is : c ≡ get_or cs i c) where
    split : drop i cs ≡ c ∷ drop (i + 1) cs
    split = at_drop_more (λ (xs : List (Expr VarId × Bool)). xs) cs i c h
        ∙ ap (λ (z : Expr VarId × Bool). z ∷ drop (i + 1) cs) (sym is)

    there : PassesConditions facts (map condition_of (drop i cs))
        → Yields facts (out-Expr ℕ (numbered c.0)) (Truth c.1) × PassesConditions facts
        (map condition_of (drop (i + 1) cs))
    there p = head _ _ (subst (λ (xs : List (Expr VarId × Bool)). PassesConditions facts (map condition_of xs)) split p)

    back : Yields facts (out-Expr ℕ (numbered c.0)) (Truth c.1) → PassesConditions facts (map condition_of (drop (i + 1)
        cs)) → PassesConditions facts (map condition_of (drop i cs))
    back y p = subst (λ (xs : List (Expr VarId × Bool)). PassesConditions facts (map condition_of xs)) (sym split)
        (one_and y p)

    pub decides_on : Decides facts cs i → Yields facts (out-Expr ℕ (numbered c.0)) (Truth c.1)
        → Decides facts cs (i + 1)
    decides_on r y = record { on = λ p. r.on (back y p); off = λ p. (there (r.off p)).1 }

    pub decides_not : Decides facts cs i → (Yields facts (out-Expr ℕ (numbered c.0)) (Truth c.1) → ⊥)
        → PassesConditions facts (map condition_of cs) → ⊥
    decides_not r n p = n (there (r.off p)).0

  pub decides_all : (i : ℕ) → length cs ≤ i → Decides facts cs i → PassesConditions facts (map condition_of cs)
  decides_all i h r =
      let e : drop i cs ≡ [] = at_drop_all (λ (xs : List (Expr VarId × Bool)). xs) cs i h in
      r.on (subst (λ (xs : List (Expr VarId × Bool)). PassesConditions facts (map condition_of xs)) (sym e) none)

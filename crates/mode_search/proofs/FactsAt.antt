-- What yields from the values of one variable alone.
use Rattle.std.proofs.Common.{◌≡◌, ℕ, ◌+◌, ◌<◌, ◌≤◌, Bool, true, false, cond, nat_eq, List, [], ◌∷◌, ◌++◌, map, length, drop, get_or, Contains, refl, sym, subst, arith}
use Rattle.std.proofs.lemmas.Bool.Decides.{nat_tests}
use Rattle.std.proofs.lemmas.Bool.{eqb-true}
use Rattle.ar_base.specs.Lists.{IsOneOf}
use Rattle.ar_base.specs.Numbers.{VarId}
use Rattle.ar_base.proofs.Standing.{one_contains, contains_one, one_first, only_item}
use Rattle.ar_base.proofs.Items.{next_left, none_left}
use Rattle.domains.specs.declared.Value.{Value}
use Rattle.domains.specs.declared.Value.TheVariants.{Truth}
use Rattle.typed_expr.specs.Sets.{HasExactly}
use Rattle.typed_expr.specs.Yields.{Yields}
use Rattle.typed_expr.specs.YieldsInside.{facts_of}
use Rattle.typed_expr.specs.declared.expr.Expr.{Expr, out-Expr}
use Rattle.ar_meaning.specs.Facts.{PassesConditions, none, one_and}
use Rattle.ar_firing.specs.Fragment.{At}
use Rattle.gts_core.specs.View.{numbered, condition_of, assign_of}
use Rattle.gts_core.proofs.Numbering.{yields_numbered, yields_back}
use Rattle.gts_core.specs.declared.system.Assign.{Assign}
use Rattle.gts_core.specs.Adding.{Adds}
use Rattle.mode_search.specs.Moves.{lone_values_at, HasAt, GivesValue}
use Rattle.gts_core.proofs.Added.{adds_none, adds_these}

itself : (n : ℕ) → nat_eq n n ≡ true
itself n = grind (arith, nat_tests)

-- the one value of the variable is its mode
pub at_there : (x : ℕ) (m : Value) (n : ℕ) (v : Value) → HasAt x (m ∷ []) n v → At x m n v
at_there x m n v h = by (nat_eq n x) refl h
  where
    by : (b : Bool) → nat_eq n x ≡ b → Contains (cond b (m ∷ []) []) v → At x m n v
    by true e c = record { key = eqb-true n x e; value = sym (only_item m v (one_contains (m ∷ []) v c)) }
    by false e c = absurd (omega arith)

pub at_back : (x : ℕ) (m : Value) (n : ℕ) (v : Value) → At x m n v → HasAt x (m ∷ []) n v
at_back x m n v h = subst (λ (k : ℕ). HasAt x (m ∷ []) k v) (sym h.key)
    (subst (λ (b : Bool). Contains (cond b (m ∷ []) []) v) (sym (itself x))
    (contains_one (m ∷ []) v (subst (λ (w : Value). IsOneOf (m ∷ []) w) (sym h.value) (one_first m []))))

module _ (x : ℕ) (values : List Value) where
  -- the set of what the expression yields is that of its form over plain numbers
  pub tells : (e : Expr VarId) (set : List Value)
      → HasExactly set (Yields (facts_of (lone_values_at x values)) (out-Expr VarId e))
      → HasExactly set (Yields (HasAt x values) (out-Expr ℕ (numbered e)))
  tells e set h = record {
    sound = λ v c. yields_numbered (facts_of (lone_values_at x values)) (HasAt x values) e v (λ y w f. f) (h.sound v c);
    complete = λ v y. h.complete v (yields_back (facts_of (lone_values_at x values)) (HasAt x values) e v (λ y w f. f) y);
  }

  -- the conditions from a place on decide
  pub record Decides (cs : List (Expr VarId × Bool)) (i : ℕ) : Type 0 where
    pub on : PassesConditions (HasAt x values) (map condition_of (drop i cs))
        → PassesConditions (HasAt x values) (map condition_of cs)
    pub off : PassesConditions (HasAt x values) (map condition_of cs)
        → PassesConditions (HasAt x values) (map condition_of (drop i cs))

  pub decides_start : (cs : List (Expr VarId × Bool)) → Decides cs 0
  decides_start cs = record { on = λ h. h; off = λ h. h }

  module _ (cs : List (Expr VarId × Bool)) (i : ℕ) (c : Expr VarId × Bool) (h : i < length cs)
      (is : c ≡ get_or cs i c) where
    head : (d : Expr ℕ × Bool) (ds : List (Expr ℕ × Bool)) → PassesConditions (HasAt x values) (d ∷ ds)
        → Yields (HasAt x values) (out-Expr ℕ d.0) (Truth d.1) × PassesConditions (HasAt x values) ds
    head d ds (one_and y p) = (y, p)

    there : PassesConditions (HasAt x values) (map condition_of (drop i cs))
        → Yields (HasAt x values) (out-Expr ℕ (numbered c.0)) (Truth c.1)
        × PassesConditions (HasAt x values) (map condition_of (drop (i + 1) cs))
    there p = head _ _ (subst (λ (xs : List (Expr VarId × Bool)). PassesConditions (HasAt x values) (map condition_of
        xs)) (next_left cs i c h is) p)

    back : Yields (HasAt x values) (out-Expr ℕ (numbered c.0)) (Truth c.1)
        → PassesConditions (HasAt x values) (map condition_of (drop (i + 1) cs))
        → PassesConditions (HasAt x values) (map condition_of (drop i cs))
    back y p = subst (λ (xs : List (Expr VarId × Bool)). PassesConditions (HasAt x values) (map condition_of xs))
        (sym (next_left cs i c h is)) (one_and y p)

    pub decides_on : Decides cs i → Yields (HasAt x values) (out-Expr ℕ (numbered c.0)) (Truth c.1) → Decides cs (i + 1)
    decides_on r y = record { on = λ p. r.on (back y p); off = λ p. (there (r.off p)).1 }

    pub decides_not : Decides cs i → (Yields (HasAt x values) (out-Expr ℕ (numbered c.0)) (Truth c.1) → ⊥)
        → PassesConditions (HasAt x values) (map condition_of cs) → ⊥
    decides_not r n p = n (there (r.off p)).0

  pub decides_all : (cs : List (Expr VarId × Bool)) (i : ℕ) → length cs ≤ i → Decides cs i
      → PassesConditions (HasAt x values) (map condition_of cs)
  decides_all cs i h r = r.on (subst (λ (xs : List (Expr VarId × Bool)). PassesConditions (HasAt x values) (map
      condition_of xs)) (sym (none_left cs i h)) none)

  -- what an assignment gives that has another target, or is not reached, or is reached
  pub gives_none : (a : Assign) (vs : List Value) → (a.target.n ≡ x → ⊥) → Adds (GivesValue (HasAt x values) x a) vs vs
  gives_none a vs n = adds_none (GivesValue (HasAt x values) x a) vs (λ v h. n h.target)

  pub gives_unreached : (a : Assign) (vs : List Value) → (PassesConditions (HasAt x values) (assign_of a).conditions
      → ⊥) → Adds (GivesValue (HasAt x values) x a) vs vs
  gives_unreached a vs n = adds_none (GivesValue (HasAt x values) x a) vs (λ v h. n h.passes)

  pub gives_set : (a : Assign) (set old new : List Value) → a.target.n ≡ x
      → PassesConditions (HasAt x values) (assign_of a).conditions
      × HasExactly set (Yields (HasAt x values) (out-Expr ℕ (assign_of a).value)) → new ≡ old ++ set
      → Adds (GivesValue (HasAt x values) x a) old new
  gives_set a set old new t h e = adds_these (GivesValue (HasAt x values) x a) set old new
      (λ v o. record { target = t; passes = h.0; yields = h.1.sound v (contains_one set v o) })
      (λ v g. one_contains set v (h.1.complete v g.yields)) e

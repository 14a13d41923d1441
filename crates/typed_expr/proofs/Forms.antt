-- What each form yields, and where it is too wide.
use Rattle.std.proofs.Common.{◌≡◌, ℕ, ◌+◌, ◌<◌, ◌≤◌, ◌↔◌, Bool, true, false, IsTrue, List, [], ◌∷◌, length, Contains, Box, Vec, Global, is_some, Option, Some, None, Result, Ok, Err, refl, sym, ap, ◌∙◌, subst, ◌⊎◌, inl, inr, arith}
use Rattle.domains.specs.declared.Value.{Value}
use Rattle.domains.specs.declared.Value.TheVariants.{Truth, Whole}
use Rattle.domains.proofs.Members.{contains-head, contains-cons, contains-cases, nothing-in}
use Rattle.domains.proofs.Order.{Ascends, ascends-from, not_before}
use Rattle.typed_expr.specs.Values.{is_related, sum_of}
use Rattle.typed_expr.specs.Sets.{HasExactly, AtLimit, Gathers}
use Rattle.typed_expr.specs.Sizes.{HasMoreThan}
use Rattle.typed_expr.specs.Yields.{Level, Yields, Some_yields, All_yield, Picks, Picks_parts, Takes}
use Rattle.typed_expr.specs.Yields as y
use Rattle.typed_expr.specs.Possible.{IsSubexpression, itself, in_not, in_all, in_any, in_left, in_right, in_sum, in_product, in_least, in_greatest, in_count, in_test, in_value, in_other, IsWide, subexpression, step}
use Rattle.typed_expr.specs.Evaluating.{Evaluates, IsTruth, SomeRelated, SomeWide, Tallied, Tallies, FoldYields, SomeStep, Folds, SumYields, PartWide, Sums, CaseWide, Took, PassesAll, Chosen, Chooses, BranchYields, Joins, ToldTruth, TellsAnswer}
use Rattle.typed_expr.specs.Folds.{fold_of}
use Rattle.typed_expr.specs.declared.expr.Relation.{Relation}
use Rattle.typed_expr.specs.declared.expr.Expr.{Expr, out-Expr}
use Rattle.typed_expr.specs.declared.expr.Expr.TheOpen.{Constant, Variable, Not, All, Any, Compare, Sum, Product, Least, Greatest, Count, Choose}
use Rattle.typed_expr.specs.declared.fold.Step.TheVariants.{Times, Lesser, Greater, Counted}
use Rattle.typed_expr.specs.declared.value_set.Stop.{Stop}
use Rattle.typed_expr.proofs.Gathering.{more-than, stopped-up}

-- a list that holds an item is one longer than one that holds the others
without : (ys : List Value) (x : Value) → Contains ys x
    → (zs : List Value) × (length ys ≡ length zs + 1) × ((d : Value) → Contains ys d → (d ≡ x) ⊎ Contains zs d)
without [] x m = absurd (nothing-in x m)
without (w ∷ ys) x m =
    elim (contains-cases w x ys m) [
      | inl e ↦ (ys, omega arith, λ d k. elim (contains-cases w d ys k) [ inl i ↦ inl (sym i ∙ e) | inr l ↦ inr l ])
      | inr n ↦
          let (zs, l, f) = without ys x n in (
            w ∷ zs,
            omega arith,
            λ d k. elim (contains-cases w d ys k) [
              | inl i ↦ inr (subst (λ (z : Value). Contains (w ∷ zs) z) i (contains-head w zs))
              | inr j ↦ elim (f d j) [ inl i ↦ inl i | inr o ↦ inr (contains-cons w d zs o) ]
            ],
          )
    ]

-- a list that ascends is no longer than one that holds its items
pub no-longer : (xs ys : List Value) → Ascends xs → ((d : Value) → Contains xs d → Contains ys d)
    → length xs ≤ length ys
no-longer [] ys a f = omega arith
no-longer (x ∷ xs) ys a f =
    let (zs, l, g) = without ys x (f x (contains-head x xs)) in
    let k =
    no-longer xs zs a.1
    (λ d m. elim (g d (f d (contains-cons x d xs m)))
    [ inl e ↦ absurd (not_before x d (a.0 d m) (sym e)) | inr n ↦ n ]) in
    omega arith

-- the values of a set within the limit are not too many
pub not-more : (n : ℕ) (set : List Value) (P : Value → Type 0) → HasExactly set P → length set ≤ n → HasMoreThan n P → ⊥
not-more n set P h k m =
    let l = no-longer m.values set (ascends-from m.values m.ascend) (λ d i. h.complete d (m.each d i)) in
    let g = m.more in
    absurd (omega arith)

more_of : (n : ℕ) (P : Value → Type 0) (vs : List Value) → n < length vs → ((v : Value) → Contains vs v → P v)
    → ((v : Value) → P v → ⊥) → ⊥
more_of n P [] h f g = absurd (omega (arith, h))
more_of n P (v ∷ vs) h f g = g v (f v (contains-head v vs))

-- nothing is not too many
pub none-more : (n : ℕ) (P : Value → Type 0) → ((v : Value) → P v → ⊥) → HasMoreThan n P → ⊥
none-more n P f m = more_of n P m.values m.more m.each f

pub neither : (most : Option ℕ) (C D : ℕ → Type 0) → (AtLimit most C → ⊥) → (AtLimit most D → ⊥)
    → AtLimit most (λ n. C n ⊎ D n) → ⊥
neither None C D p q h = h
neither (Some n) C D p q h = elim h [ inl c ↦ p c | inr d ↦ q d ]

module _ {V : Type 0} (facts : V → Value → Type 0) where
  -- what a set gathers is what the form yields, and nothing in it is too wide
  pub finish : (most : Option ℕ) (e : Level V) (r : Result (List Value) Stop) (P : Value → Type 0) (C : ℕ → Type 0)
      → Gathers most r P
      → ((v : Value) → P v → Yields facts e v) → ((v : Value) → Yields facts e v → P v)
      → ((n : ℕ) → IsWide facts n e → HasMoreThan n (Yields facts e) ⊎ C n) → (AtLimit most C → ⊥)
      → Evaluates facts most r e
  finish None e (Ok set) P C g up down cases never =
      (record { sound = λ v m. up v (g.0.sound v m); complete = λ v q. g.0.complete v (down v q) }, tt, λ w. w)
  finish (Some n) e (Ok set) P C g up down cases never =
      let exact : HasExactly set (Yields facts e) =
      record { sound = λ v m. up v (g.0.sound v m); complete = λ v q. g.0.complete v (down v q) } in
      (exact, g.1, λ w. elim (cases n w) [ inl m ↦ not-more n set (Yields facts e) exact g.1 m | inr c ↦ never c ])
  finish most e (Err stop) P C g up down cases never =
      stopped-up most (λ n. HasMoreThan n P) (λ n. IsWide facts n e)
      (λ n h. subexpression itself (more-than up h)) stop g

  no_step : {n : ℕ} {P : Value → Type 0} {C : Type 0} → ((v : Value) → P v → ⊥) → HasMoreThan n P → C
  no_step {n} {P} f m = absurd (none-more n P f m)

  pub wide-constant : (v : Value) (n : ℕ) → IsWide facts n (Constant v) → HasMoreThan n (Yields facts (Constant v)) ⊎ ⊥
  wide-constant v n (subexpression itself h) = inl h
  wide-constant v n (step k itself h) = absurd (none-more n (λ v. ⊥) (λ v p. p) h)

  pub wide-variable : (x : V) (n : ℕ) → IsWide facts n (Variable x) → HasMoreThan n (Yields facts (Variable x)) ⊎ ⊥
  wide-variable x n (subexpression itself h) = inl h
  wide-variable x n (step k itself h) = absurd (none-more n (λ v. ⊥) (λ v p. p) h)

  pub wide-not : (a : Box (Expr V) Global) (n : ℕ) → IsWide facts n (Not a)
      → HasMoreThan n (Yields facts (Not a)) ⊎ IsWide facts n (out-Expr V a.value)
  wide-not a n (subexpression itself h) = inl h
  wide-not a n (subexpression (in_not q) h) = inr (subexpression q h)
  wide-not a n (step k itself h) = absurd (none-more n (λ v. ⊥) (λ v p. p) h)
  wide-not a n (step k (in_not q) h) = inr (step k q h)

  pub wide-all : (es : Vec (Expr V) Global) (n : ℕ) → IsWide facts n (All es)
      → HasMoreThan n (Yields facts (All es)) ⊎ SomeWide facts es.items n
  wide-all es n (subexpression itself h) = inl h
  wide-all es n (subexpression (in_all {e = e} m q) h) =
      inr (record { expr = e; in_list = m; wide = subexpression q h })
  wide-all es n (step k itself h) = absurd (none-more n (λ v. ⊥) (λ v p. p) h)
  wide-all es n (step k (in_all {e = e} m q) h) = inr (record { expr = e; in_list = m; wide = step k q h })

  pub wide-any : (es : Vec (Expr V) Global) (n : ℕ) → IsWide facts n (Any es)
      → HasMoreThan n (Yields facts (Any es)) ⊎ SomeWide facts es.items n
  wide-any es n (subexpression itself h) = inl h
  wide-any es n (subexpression (in_any {e = e} m q) h) =
      inr (record { expr = e; in_list = m; wide = subexpression q h })
  wide-any es n (step k itself h) = absurd (none-more n (λ v. ⊥) (λ v p. p) h)
  wide-any es n (step k (in_any {e = e} m q) h) = inr (record { expr = e; in_list = m; wide = step k q h })

  pub wide-compare : (r : Relation) (a b : Box (Expr V) Global) (n : ℕ) → IsWide facts n (Compare r a b)
      → HasMoreThan n (Yields facts (Compare r a b))
      ⊎ (IsWide facts n (out-Expr V a.value) ⊎ IsWide facts n (out-Expr V b.value))
  wide-compare r a b n (subexpression itself h) = inl h
  wide-compare r a b n (subexpression (in_left q) h) = inr (inl (subexpression q h))
  wide-compare r a b n (subexpression (in_right q) h) = inr (inr (subexpression q h))
  wide-compare r a b n (step k itself h) = absurd (none-more n (λ v. ⊥) (λ v p. p) h)
  wide-compare r a b n (step k (in_left q) h) = inr (inl (step k q h))
  wide-compare r a b n (step k (in_right q) h) = inr (inr (step k q h))

  pub wide-sum : (ps : Vec (Bool × Expr V) Global) (n : ℕ) → IsWide facts n (Sum ps)
      → HasMoreThan n (Yields facts (Sum ps)) ⊎ (PartWide facts ps.items n ⊎ SomeStep (SumYields facts ps.items) n)
  wide-sum ps n (subexpression itself h) = inl h
  wide-sum ps n (subexpression (in_sum {plus = plus} {e = e} m q) h) =
      inr (inl (record { part = (plus, e); in_list = m; wide = subexpression q h }))
  wide-sum ps n (step k itself h) = inr (inr (record { place = k; wide = h }))
  wide-sum ps n (step k (in_sum {plus = plus} {e = e} m q) h) =
      inr (inl (record { part = (plus, e); in_list = m; wide = step k q h }))

  pub wide-product : (es : Vec (Expr V) Global) (n : ℕ) → IsWide facts n (Product es)
      → HasMoreThan n (Yields facts (Product es))
      ⊎ (SomeWide facts es.items n ⊎ SomeStep (FoldYields facts Times es.items) n)
  wide-product es n (subexpression itself h) = inl h
  wide-product es n (subexpression (in_product {e = e} m q) h) =
      inr (inl (record { expr = e; in_list = m; wide = subexpression q h }))
  wide-product es n (step k itself h) = inr (inr (record { place = k; wide = h }))
  wide-product es n (step k (in_product {e = e} m q) h) =
      inr (inl (record { expr = e; in_list = m; wide = step k q h }))

  pub wide-least : (es : Vec (Expr V) Global) (n : ℕ) → IsWide facts n (Least es)
      → HasMoreThan n (Yields facts (Least es))
      ⊎ (SomeWide facts es.items n ⊎ SomeStep (FoldYields facts Lesser es.items) n)
  wide-least es n (subexpression itself h) = inl h
  wide-least es n (subexpression (in_least {e = e} m q) h) =
      inr (inl (record { expr = e; in_list = m; wide = subexpression q h }))
  wide-least es n (step k itself h) = inr (inr (record { place = k; wide = h }))
  wide-least es n (step k (in_least {e = e} m q) h) = inr (inl (record { expr = e; in_list = m; wide = step k q h }))

  pub wide-greatest : (es : Vec (Expr V) Global) (n : ℕ) → IsWide facts n (Greatest es)
      → HasMoreThan n (Yields facts (Greatest es))
      ⊎ (SomeWide facts es.items n ⊎ SomeStep (FoldYields facts Greater es.items) n)
  wide-greatest es n (subexpression itself h) = inl h
  wide-greatest es n (subexpression (in_greatest {e = e} m q) h) =
      inr (inl (record { expr = e; in_list = m; wide = subexpression q h }))
  wide-greatest es n (step k itself h) = inr (inr (record { place = k; wide = h }))
  wide-greatest es n (step k (in_greatest {e = e} m q) h) =
      inr (inl (record { expr = e; in_list = m; wide = step k q h }))

  pub wide-count : (es : Vec (Expr V) Global) (n : ℕ) → IsWide facts n (Count es)
      → HasMoreThan n (Yields facts (Count es))
      ⊎ (SomeWide facts es.items n ⊎ SomeStep (FoldYields facts Counted es.items) n)
  wide-count es n (subexpression itself h) = inl h
  wide-count es n (subexpression (in_count {e = e} m q) h) =
      inr (inl (record { expr = e; in_list = m; wide = subexpression q h }))
  wide-count es n (step k itself h) = inr (inr (record { place = k; wide = h }))
  wide-count es n (step k (in_count {e = e} m q) h) = inr (inl (record { expr = e; in_list = m; wide = step k q h }))

  pub wide-choice : (cs : Vec (Expr V × Expr V) Global) (other : Box (Expr V) Global) (n : ℕ)
      → IsWide facts n (Choose cs other)
      → HasMoreThan n (Yields facts (Choose cs other))
      ⊎ (CaseWide facts cs.items n ⊎ IsWide facts n (out-Expr V other.value))
  wide-choice cs other n (subexpression itself h) = inl h
  wide-choice cs other n (subexpression (in_test {test = t} {value = v} m q) h) =
      inr (inl (record { case = (t, v); in_list = m; wide = inl (subexpression q h) }))
  wide-choice cs other n (subexpression (in_value {test = t} {value = v} m q) h) =
      inr (inl (record { case = (t, v); in_list = m; wide = inr (subexpression q h) }))
  wide-choice cs other n (subexpression (in_other q) h) = inr (inr (subexpression q h))
  wide-choice cs other n (step k itself h) = absurd (none-more n (λ v. ⊥) (λ v p. p) h)
  wide-choice cs other n (step k (in_test {test = t} {value = v} m q) h) =
      inr (inl (record { case = (t, v); in_list = m; wide = inl (step k q h) }))
  wide-choice cs other n (step k (in_value {test = t} {value = v} m q) h) =
      inr (inl (record { case = (t, v); in_list = m; wide = inr (step k q h) }))
  wide-choice cs other n (step k (in_other q) h) = inr (inr (step k q h))

  -- where an operand is too wide, so is the form
  deeper : {n : ℕ} {p e : Level V} → ((q : Level V) → IsSubexpression q p → IsSubexpression q e) → IsWide facts n p
      → IsWide facts n e
  deeper f (subexpression {p = p} q h) = subexpression (f p q) h
  deeper f (step {p = p} k q h) = step k (f p q) h

  pub up-not : (a : Box (Expr V) Global) (n : ℕ) → IsWide facts n (out-Expr V a.value) → IsWide facts n (Not a)
  up-not a n w = deeper (λ p q. in_not q) w

  pub up-all : (es : Vec (Expr V) Global) (n : ℕ) → SomeWide facts es.items n → IsWide facts n (All es)
  up-all es n w = deeper (λ p q. in_all w.in_list q) w.wide

  pub up-any : (es : Vec (Expr V) Global) (n : ℕ) → SomeWide facts es.items n → IsWide facts n (Any es)
  up-any es n w = deeper (λ p q. in_any w.in_list q) w.wide

  pub up-left : (r : Relation) (a b : Box (Expr V) Global) (n : ℕ) → IsWide facts n (out-Expr V a.value)
      → IsWide facts n (Compare r a b)
  up-left r a b n w = deeper (λ p q. in_left q) w

  pub up-right : (r : Relation) (a b : Box (Expr V) Global) (n : ℕ) → IsWide facts n (out-Expr V b.value)
      → IsWide facts n (Compare r a b)
  up-right r a b n w = deeper (λ p q. in_right q) w

  pub up-sum : (ps : Vec (Bool × Expr V) Global) (n : ℕ)
      → PartWide facts ps.items n ⊎ SomeStep (SumYields facts ps.items) n → IsWide facts n (Sum ps)
  up-sum ps n (inl w) = deeper (λ p q. in_sum w.in_list q) w.wide
  up-sum ps n (inr s) = step s.place itself s.wide

  pub up-product : (es : Vec (Expr V) Global) (n : ℕ)
      → SomeWide facts es.items n ⊎ SomeStep (FoldYields facts Times es.items) n → IsWide facts n (Product es)
  up-product es n (inl w) = deeper (λ p q. in_product w.in_list q) w.wide
  up-product es n (inr s) = step s.place itself s.wide

  pub up-least : (es : Vec (Expr V) Global) (n : ℕ)
      → SomeWide facts es.items n ⊎ SomeStep (FoldYields facts Lesser es.items) n → IsWide facts n (Least es)
  up-least es n (inl w) = deeper (λ p q. in_least w.in_list q) w.wide
  up-least es n (inr s) = step s.place itself s.wide

  pub up-greatest : (es : Vec (Expr V) Global) (n : ℕ)
      → SomeWide facts es.items n ⊎ SomeStep (FoldYields facts Greater es.items) n → IsWide facts n (Greatest es)
  up-greatest es n (inl w) = deeper (λ p q. in_greatest w.in_list q) w.wide
  up-greatest es n (inr s) = step s.place itself s.wide

  pub up-count : (es : Vec (Expr V) Global) (n : ℕ)
      → SomeWide facts es.items n ⊎ SomeStep (FoldYields facts Counted es.items) n → IsWide facts n (Count es)
  up-count es n (inl w) = deeper (λ p q. in_count w.in_list q) w.wide
  up-count es n (inr s) = step s.place itself s.wide

  pub up-other : (cs : Vec (Expr V × Expr V) Global) (other : Box (Expr V) Global) (n : ℕ)
      → IsWide facts n (out-Expr V other.value) → IsWide facts n (Choose cs other)
  up-other cs other n w = deeper (λ p q. in_other q) w

  nothing : (most : Option ℕ) → AtLimit most (λ n. ⊥) → ⊥
  nothing None h = h
  nothing (Some n) h = h

  yielded_constant : (v w : Value) → Yields facts (Constant v) w → Contains (v ∷ []) w
  yielded_constant v w y.constant = contains-head v []

  pub constant-done : (most : Option ℕ) (v : Value) (r : Result (List Value) Stop) → Gathers most r (Contains (v ∷ []))
      → Evaluates facts most r (Constant v)
  constant-done most v r g = finish most (Constant v) r (Contains (v ∷ [])) (λ n. ⊥) g
      (λ w m. elim (contains-cases v w [] m)
      [ inl e ↦ subst (Yields facts (Constant v)) e y.constant | inr k ↦ absurd (nothing-in w k) ])
      (yielded_constant v) (wide-constant v) (nothing most)

  yielded_variable : (x : V) (w : Value) → Yields facts (Variable x) w → facts x w
  yielded_variable x w (y.variable h) = h

  pub variable-done : (most : Option ℕ) (x : V) (r : Result (List Value) Stop) → Gathers most r (facts x)
      → Evaluates facts most r (Variable x)
  variable-done most x r g =
      finish most (Variable x) r (facts x) (λ n. ⊥) g (λ w m. y.variable m) (yielded_variable x) (wide-variable x)
      (nothing most)

  to_not : (a : Box (Expr V) Global) (can_be_true can_be_false : Bool)
      → ToldTruth facts true can_be_true can_be_false (out-Expr V a.value)
      → (v : Value) → IsTruth can_be_false can_be_true v → Yields facts (Not a) v
  to_not a t f h v (inl m) = subst (Yields facts (Not a)) (sym m.1) (y.opposite (h.same.0 m.0))
  to_not a t f h v (inr m) = subst (Yields facts (Not a)) (sym m.1) (y.opposite (h.opposite.0 m.0))

  from_not : (a : Box (Expr V) Global) (can_be_true can_be_false : Bool)
      → ToldTruth facts true can_be_true can_be_false (out-Expr V a.value)
      → (v : Value) → Yields facts (Not a) v → IsTruth can_be_false can_be_true v
  from_not a t f h v (y.opposite {b = true} d) = inl (h.same.1 d, refl)
  from_not a t f h v (y.opposite {b = false} d) = inr (h.opposite.1 d, refl)

  pub not-done : (most : Option ℕ) (a : Box (Expr V) Global) (can_be_true can_be_false : Bool)
      (r : Result (List Value) Stop)
      → TellsAnswer facts most true (Ok (can_be_true, can_be_false)) (out-Expr V a.value)
      → Gathers most r (IsTruth can_be_false can_be_true) → Evaluates facts most r (Not a)
  not-done most a t f r h g =
      finish most (Not a) r (IsTruth f t) (λ n. IsWide facts n (out-Expr V a.value)) g (to_not a t f h.0)
      (from_not a t f h.0) (wide-not a) h.1

  to_all : (es : Vec (Expr V) Global) (one_false all_true : Bool) → Tallied facts true one_false all_true es.items
      → (v : Value) → IsTruth one_false all_true v → Yields facts (All es) v
  to_all es f t h v (inl m) = subst (Yields facts (All es)) (sym m.1) (y.one_false (h.one.0 m.0))
  to_all es f t h v (inr m) = subst (Yields facts (All es)) (sym m.1) (y.all_true (h.all.0 m.0))

  from_all : (es : Vec (Expr V) Global) (one_false all_true : Bool) → Tallied facts true one_false all_true es.items
      → (v : Value) → Yields facts (All es) v → IsTruth one_false all_true v
  from_all es f t h v (y.one_false d) = inl (h.one.1 d, refl)
  from_all es f t h v (y.all_true d) = inr (h.all.1 d, refl)

  pub all-done : (most : Option ℕ) (es : Vec (Expr V) Global) (one_false all_true : Bool) (r : Result (List Value) Stop)
      → Tallies facts most true (Ok (one_false, all_true)) es.items → Gathers most r (IsTruth one_false all_true)
      → Evaluates facts most r (All es)
  all-done most es f t r h g =
      finish most (All es) r (IsTruth f t) (SomeWide facts es.items) g (to_all es f t h.0) (from_all es f t h.0)
      (wide-all es) h.1

  to_any : (es : Vec (Expr V) Global) (one_true all_false : Bool) → Tallied facts false one_true all_false es.items
      → (v : Value) → IsTruth all_false one_true v → Yields facts (Any es) v
  to_any es t f h v (inl m) = subst (Yields facts (Any es)) (sym m.1) (y.all_false (h.all.0 m.0))
  to_any es t f h v (inr m) = subst (Yields facts (Any es)) (sym m.1) (y.one_true (h.one.0 m.0))

  from_any : (es : Vec (Expr V) Global) (one_true all_false : Bool) → Tallied facts false one_true all_false es.items
      → (v : Value) → Yields facts (Any es) v → IsTruth all_false one_true v
  from_any es t f h v (y.one_true d) = inr (h.one.1 d, refl)
  from_any es t f h v (y.all_false d) = inl (h.all.1 d, refl)

  pub any-done : (most : Option ℕ) (es : Vec (Expr V) Global) (one_true all_false : Bool) (r : Result (List Value) Stop)
      → Tallies facts most false (Ok (one_true, all_false)) es.items → Gathers most r (IsTruth all_false one_true)
      → Evaluates facts most r (Any es)
  any-done most es t f r h g =
      finish most (Any es) r (IsTruth f t) (SomeWide facts es.items) g (to_any es t f h.0) (from_any es t f h.0)
      (wide-any es) h.1

  to_compare : (q : Relation) (a b : Box (Expr V) Global) (xs ys : List Value) (f t : Bool)
      → HasExactly xs (Yields facts (out-Expr V a.value)) → HasExactly ys (Yields facts (out-Expr V b.value))
      → (IsTrue f → SomeRelated q xs ys false) → (IsTrue t → SomeRelated q xs ys true) → (v : Value) → IsTruth f t v
      → Yields facts (Compare q a b) v
  to_compare q a b xs ys f t h k p o v (inl m) =
      let s = p m.0 in
      subst (Yields facts (Compare q a b)) (ap Truth s.related ∙ sym m.1)
      (y.compared (h.sound s.left s.in_left) (k.sound s.right s.in_right))
  to_compare q a b xs ys f t h k p o v (inr m) =
      let s = o m.0 in
      subst (Yields facts (Compare q a b)) (ap Truth s.related ∙ sym m.1)
      (y.compared (h.sound s.left s.in_left) (k.sound s.right s.in_right))

  truth_found : (f t b : Bool) → (b ≡ false → IsTrue f) → (b ≡ true → IsTrue t) → IsTruth f t (Truth b)
  truth_found f t true p o = inr (o refl, refl)
  truth_found f t false p o = inl (p refl, refl)

  from_compare : (q : Relation) (a b : Box (Expr V) Global) (xs ys : List Value) (f t : Bool)
      → HasExactly xs (Yields facts (out-Expr V a.value)) → HasExactly ys (Yields facts (out-Expr V b.value))
      → (SomeRelated q xs ys false → IsTrue f) → (SomeRelated q xs ys true → IsTrue t) → (v : Value)
      → Yields facts (Compare q a b) v → IsTruth f t v
  from_compare q a b xs ys f t h k p o v (y.compared {v = x} {w = z} c d) =
      truth_found f t (is_related q x z)
      (λ e. p (record { left = x; right = z; in_left = h.complete x c; in_right = k.complete z d; related = e }))
      (λ e. o (record { left = x; right = z; in_left = h.complete x c; in_right = k.complete z d; related = e }))

  pub compare-done : (most : Option ℕ) (q : Relation) (a b : Box (Expr V) Global) (xs ys : List Value) (f t : Bool)
      (r : Result (List Value) Stop)
      → Evaluates facts most (Ok xs) (out-Expr V a.value) → Evaluates facts most (Ok ys) (out-Expr V b.value)
      → IsTrue f ↔ SomeRelated q xs ys false → IsTrue t ↔ SomeRelated q xs ys true → Gathers most r (IsTruth f t)
      → Evaluates facts most r (Compare q a b)
  compare-done most q a b xs ys f t r h k p o g =
      finish most (Compare q a b) r (IsTruth f t)
      (λ n. IsWide facts n (out-Expr V a.value) ⊎ IsWide facts n (out-Expr V b.value)) g
      (to_compare q a b xs ys f t h.0 k.0 p.0 o.0) (from_compare q a b xs ys f t h.0 k.0 p.1 o.1) (wide-compare q a b)
      (neither most _ _ h.2 k.2)

  from_sum : (ps : Vec (Bool × Expr V) Global) (v : Value) → Yields facts (Sum ps) v
      → (vs : List (Bool × Value)) × Picks_parts facts ps.items vs × (v ≡ Whole (sum_of vs))
  from_sum ps v (y.sum {vs = vs} d) = (vs, d, refl)

  pub sum-done : (most : Option ℕ) (ps : Vec (Bool × Expr V) Global) (r : Result (List Value) Stop)
      → Sums facts most r ps.items → Evaluates facts most r (Sum ps)
  sum-done most ps (Ok set) h =
      finish most (Sum ps) (Ok set)
      (λ v. (vs : List (Bool × Value)) × Picks_parts facts ps.items vs × (v ≡ Whole (sum_of vs)))
      (λ n. PartWide facts ps.items n ⊎ SomeStep (SumYields facts ps.items) n) (h.0, h.1)
      (λ v m. let (vs, d, e) = m in subst (Yields facts (Sum ps)) (sym e) (y.sum d)) (from_sum ps) (wide-sum ps)
      (neither most _ _ h.2 h.3)
  sum-done most ps (Err stop) h =
      stopped-up most (λ n. PartWide facts ps.items n ⊎ SomeStep (SumYields facts ps.items) n)
      (λ n. IsWide facts n (Sum ps)) (up-sum ps) stop h

  from_product : (es : Vec (Expr V) Global) (v : Value) → Yields facts (Product es) v
      → (vs : List Value) × Picks facts es.items vs × (v ≡ Whole (fold_of Times vs))
  from_product es v (y.product {vs = vs} d) = (vs, d, refl)

  pub product-done : (most : Option ℕ) (es : Vec (Expr V) Global) (r : Result (List Value) Stop)
      → Folds facts most Times r es.items → Evaluates facts most r (Product es)
  product-done most es (Ok set) h =
      finish most (Product es) (Ok set)
      (λ v. (vs : List Value) × Picks facts es.items vs × (v ≡ Whole (fold_of Times vs)))
      (λ n. SomeWide facts es.items n ⊎ SomeStep (FoldYields facts Times es.items) n) (h.0, h.1)
      (λ v m. let (vs, d, e) = m in subst (Yields facts (Product es)) (sym e) (y.product d)) (from_product es)
      (wide-product es) (neither most _ _ h.2 h.3)
  product-done most es (Err stop) h =
      stopped-up most (λ n. SomeWide facts es.items n ⊎ SomeStep (FoldYields facts Times es.items) n)
      (λ n. IsWide facts n (Product es)) (up-product es) stop h

  from_least : (es : Vec (Expr V) Global) (v : Value) → Yields facts (Least es) v
      → (vs : List Value) × Picks facts es.items vs × (v ≡ Whole (fold_of Lesser vs))
  from_least es v (y.least {vs = vs} d) = (vs, d, refl)

  pub least-done : (most : Option ℕ) (es : Vec (Expr V) Global) (r : Result (List Value) Stop)
      → Folds facts most Lesser r es.items → Evaluates facts most r (Least es)
  least-done most es (Ok set) h =
      finish most (Least es) (Ok set)
      (λ v. (vs : List Value) × Picks facts es.items vs × (v ≡ Whole (fold_of Lesser vs)))
      (λ n. SomeWide facts es.items n ⊎ SomeStep (FoldYields facts Lesser es.items) n) (h.0, h.1)
      (λ v m. let (vs, d, e) = m in subst (Yields facts (Least es)) (sym e) (y.least d)) (from_least es) (wide-least es)
      (neither most _ _ h.2 h.3)
  least-done most es (Err stop) h =
      stopped-up most (λ n. SomeWide facts es.items n ⊎ SomeStep (FoldYields facts Lesser es.items) n)
      (λ n. IsWide facts n (Least es)) (up-least es) stop h

  from_greatest : (es : Vec (Expr V) Global) (v : Value) → Yields facts (Greatest es) v
      → (vs : List Value) × Picks facts es.items vs × (v ≡ Whole (fold_of Greater vs))
  from_greatest es v (y.greatest {vs = vs} d) = (vs, d, refl)

  pub greatest-done : (most : Option ℕ) (es : Vec (Expr V) Global) (r : Result (List Value) Stop)
      → Folds facts most Greater r es.items → Evaluates facts most r (Greatest es)
  greatest-done most es (Ok set) h =
      finish most (Greatest es) (Ok set)
      (λ v. (vs : List Value) × Picks facts es.items vs × (v ≡ Whole (fold_of Greater vs)))
      (λ n. SomeWide facts es.items n ⊎ SomeStep (FoldYields facts Greater es.items) n) (h.0, h.1)
      (λ v m. let (vs, d, e) = m in subst (Yields facts (Greatest es)) (sym e) (y.greatest d)) (from_greatest es)
      (wide-greatest es) (neither most _ _ h.2 h.3)
  greatest-done most es (Err stop) h =
      stopped-up most (λ n. SomeWide facts es.items n ⊎ SomeStep (FoldYields facts Greater es.items) n)
      (λ n. IsWide facts n (Greatest es)) (up-greatest es) stop h

  from_count : (es : Vec (Expr V) Global) (v : Value) → Yields facts (Count es) v
      → (vs : List Value) × Picks facts es.items vs × (v ≡ Whole (fold_of Counted vs))
  from_count es v (y.count {vs = vs} d) = (vs, d, refl)

  pub count-done : (most : Option ℕ) (es : Vec (Expr V) Global) (r : Result (List Value) Stop)
      → Folds facts most Counted r es.items → Evaluates facts most r (Count es)
  count-done most es (Ok set) h =
      finish most (Count es) (Ok set)
      (λ v. (vs : List Value) × Picks facts es.items vs × (v ≡ Whole (fold_of Counted vs)))
      (λ n. SomeWide facts es.items n ⊎ SomeStep (FoldYields facts Counted es.items) n) (h.0, h.1)
      (λ v m. let (vs, d, e) = m in subst (Yields facts (Count es)) (sym e) (y.count d)) (from_count es) (wide-count es)
      (neither most _ _ h.2 h.3)
  count-done most es (Err stop) h =
      stopped-up most (λ n. SomeWide facts es.items n ⊎ SomeStep (FoldYields facts Counted es.items) n)
      (λ n. IsWide facts n (Count es)) (up-count es) stop h

  -- what a choice yields: what a case gives, or what the last branch yields where all tests pass it on
  pub takes-from : (cs : List (Expr V × Expr V)) (other : Level V) (v : Value)
      → Took facts cs v ⊎ (PassesAll facts cs × Yields facts other v) → Takes facts cs other v
  takes-from [] other v (inl h) = absurd h
  takes-from [] other v (inr h) = y.otherwise h.1
  takes-from (c ∷ cs) other v (inl (inl h)) = y.taken h.0 h.1
  takes-from (c ∷ cs) other v (inl (inr h)) = y.passed h.0 (takes-from cs other v (inl h.1))
  takes-from (c ∷ cs) other v (inr h) = y.passed h.0.0 (takes-from cs other v (inr (h.0.1, h.1)))

  pub takes-cases : (cs : List (Expr V × Expr V)) (other : Level V) (v : Value) → Takes facts cs other v
      → Took facts cs v ⊎ (PassesAll facts cs × Yields facts other v)
  takes-cases [] other v (y.otherwise d) = inr (tt, d)
  takes-cases (c ∷ cs) other v (y.taken t d) = inl (inl (t, d))
  takes-cases (c ∷ cs) other v (y.passed t d) =
      elim (takes-cases cs other v d) [ inl h ↦ inl (inr (t, h)) | inr h ↦ inr ((t, h.0), h.1) ]

  from_choice : (cs : Vec (Expr V × Expr V) Global) (other : Box (Expr V) Global) (v : Value)
      → Yields facts (Choose cs other) v → Takes facts cs.items (out-Expr V other.value) v
  from_choice cs other v (y.choice d) = d

  to_choice : (cs : Vec (Expr V × Expr V) Global) (other : Box (Expr V) Global) (set : List Value) (passes : Bool)
      → Chosen facts set passes cs.items
      → (v : Value) → BranchYields facts passes set (out-Expr V other.value) v → Yields facts (Choose cs other) v
  to_choice cs other set passes h v (inl m) =
      y.choice (takes-from cs.items (out-Expr V other.value) v (inl (h.exact.sound v m)))
  to_choice cs other set passes h v (inr m) =
      y.choice (takes-from cs.items (out-Expr V other.value) v (inr (h.all.0 m.0, m.1)))

  from_branches : (cs : Vec (Expr V × Expr V) Global) (other : Box (Expr V) Global) (set : List Value) (passes : Bool)
      → Chosen facts set passes cs.items
      → (v : Value) → Yields facts (Choose cs other) v → BranchYields facts passes set (out-Expr V other.value) v
  from_branches cs other set passes h v d =
      elim (takes-cases cs.items (out-Expr V other.value) v (from_choice cs other v d)) [
        | inl t ↦ inl (h.exact.complete v t)
        | inr p ↦ inr (h.all.1 p.0, p.1)
      ]

  -- the cases with the last branch
  pub choice-done : (most : Option ℕ) (cs : Vec (Expr V × Expr V) Global) (other : Box (Expr V) Global)
      (set : List Value) (passes : Bool) (r : Result (List Value) Stop)
      → Chooses facts most (Ok (set, passes)) cs.items → Joins facts most r passes set (out-Expr V other.value)
      → Evaluates facts most r (Choose cs other)
  choice-done most cs other set passes (Ok new) h g =
      finish most (Choose cs other) (Ok new) (BranchYields facts passes set (out-Expr V other.value))
      (λ n. CaseWide facts cs.items n ⊎ IsWide facts n (out-Expr V other.value)) (g.0, g.1)
      (to_choice cs other set passes h.0) (from_branches cs other set passes h.0) (wide-choice cs other)
      (neither most _ _ h.2 g.2)
  choice-done most cs other set passes (Err stop) h g =
      stopped-up most
      (λ n. IsWide facts n (out-Expr V other.value)
      ⊎ HasMoreThan n (BranchYields facts passes set (out-Expr V other.value)))
      (λ n. IsWide facts n (Choose cs other))
      (λ n w. elim w [
        | inl a ↦ up-other cs other n a
        | inr m ↦ subexpression itself (more-than (to_choice cs other set passes h.0) m)
      ]) stop g

  pub up-cases : (cs : Vec (Expr V × Expr V) Global) (other : Box (Expr V) Global) (n : ℕ)
      → CaseWide facts cs.items n ⊎ HasMoreThan n (Took facts cs.items) → IsWide facts n (Choose cs other)
  up-cases cs other n (inl w) =
      elim w.wide [ inl h ↦ deeper (λ p q. in_test w.in_list q) h | inr h ↦ deeper (λ p q. in_value w.in_list q) h ]
  up-cases cs other n (inr m) =
      subexpression itself (more-than (λ v t. y.choice (takes-from cs.items (out-Expr V other.value) v (inl t))) m)

  branch_up : (e : Level V) (set values : List Value) (takes : Bool) → HasExactly values (Yields facts e) → (v : Value)
      → Contains set v ⊎ (IsTrue takes × Contains values v) → BranchYields facts takes set e v
  branch_up e set values takes h v (inl m) = inl m
  branch_up e set values takes h v (inr m) = inr (m.0, h.sound v m.1)

  branch_down : (e : Level V) (set values : List Value) (takes : Bool) → HasExactly values (Yields facts e)
      → (v : Value) → BranchYields facts takes set e v → Contains set v ⊎ (IsTrue takes × Contains values v)
  branch_down e set values takes h v (inl m) = inl m
  branch_down e set values takes h v (inr m) = inr (m.0, h.complete v m.1)

  pub branch-done : (most : Option ℕ) (e : Level V) (set values : List Value) (takes : Bool)
      (r : Result (List Value) Stop)
      → Evaluates facts most (Ok values) e
      → Gathers most r (λ v. Contains set v ⊎ (IsTrue takes × Contains values v)) → Joins facts most r takes set e
  branch-done most e set values takes (Ok new) h g = (
    record {
      sound = λ v m. branch_up e set values takes h.0 v (g.0.sound v m);
      complete = λ v m. g.0.complete v (branch_down e set values takes h.0 v m);
    },
    g.1,
    h.2,
  )
  branch-done most e set values takes (Err stop) h g =
      stopped-up most (λ n. HasMoreThan n (λ v. Contains set v ⊎ (IsTrue takes × Contains values v)))
      (λ n. IsWide facts n e ⊎ HasMoreThan n (BranchYields facts takes set e))
      (λ n m. inr (more-than (branch_up e set values takes h.0) m)) stop g

  pub branch-stop : (most : Option ℕ) (e : Level V) (set : List Value) (takes : Bool) (stop : Stop)
      → Evaluates facts most (Err stop) e → Joins facts most (Err stop) takes set e
  branch-stop most e set takes stop h =
      stopped-up most (λ n. IsWide facts n e) (λ n. IsWide facts n e ⊎ HasMoreThan n (BranchYields facts takes set e))
      (λ n w. inl w) stop h

-- without a limit, a branch that is not taken is passed over
pub branch-skips : {V : Type 0} (facts : V → Value → Type 0) (most : Option ℕ) (e : Level V) (set : List Value)
    (takes : Bool)
    → takes ≡ false → is_some most ≡ false → Joins facts most (Ok set) takes set e
branch-skips facts None e set takes p q =
    (record { sound = λ v m. inl m; complete = λ v m. elim m [ inl a ↦ a | inr a ↦ absurd (let k = a.0 in cc) ] }, tt, λ w. w)
branch-skips facts (Some n) e set takes p q = cc

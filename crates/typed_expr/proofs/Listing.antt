-- The values that an expression yields from finitely many facts can be listed, and so whether it yields one can be
-- told.
use Rattle.std.proofs.Common.{◌≡◌, ◌⊎◌, inl, inr, Bool, true, false, true≢false, List, [], ◌∷◌, ◌++◌, map, Contains, refl, sym, ◌∙◌, subst}
use Rattle.std.specs.List.{flat_map}
use Rattle.std.proofs.lemmas.List.Elements.{Contains-append_left, Contains-append_right, Contains-append_cases}
use Rattle.domains.proofs.Members.{nothing-in, contains-head, contains-cons, contains-cases}
use Rattle.domains.proofs.Same.{same_is, same_self}
use Rattle.domains.specs.Same.{is_same}
use Rattle.domains.specs.declared.Value.{Value}
use Rattle.domains.specs.declared.Value.TheVariants.{Truth, Whole}
use Rattle.typed_expr.specs.Values.{is_related, sum_of, product_of, least_of, greatest_of, count_of}
use Rattle.typed_expr.specs.Yields.{Level, Yields, Some_yields, All_yield, Picks, Picks_parts, Takes}
use Rattle.typed_expr.specs.Yields as y
use Rattle.typed_expr.specs.declared.expr.Expr.{Expr, out-Expr, out-roll-Expr}
use Rattle.typed_expr.specs.declared.expr.Expr.TheOpen.{Expr-F, Constant, Variable, Not, All, Any, Compare, Sum, Product, Least, Greatest, Count, Choose}
use Rattle.typed_expr.specs.declared.expr.Expr.TheFolds.{ind-Expr, map-Expr}

-- it holds, or it does not
abbrev pub Told : Type 0 → Type 0
Told P = P ⊎ (P → ⊥)

-- a list of all that P holds of
pub record Listed {A : Type 0} (P : A → Type 0) : Type 0 where
  pub items : List A
  pub sound : (a : A) → Contains items a → P a
  pub whole : (a : A) → P a → Contains items a

in_flat : {A B : Type 0} (f : A → List B) (xs : List A) (a : A) (b : B) → Contains xs a → Contains (f a) b
    → Contains (flat_map f xs) b
in_flat f [] a b m n = absurd (nothing-in a m)
in_flat f (x ∷ xs) a b m n = elim (contains-cases x a xs m) [
  | inl e ↦ Contains-append_left (f x) (flat_map f xs) b (subst (λ z. Contains (f z) b) (sym e) n)
  | inr k ↦ Contains-append_right (f x) (flat_map f xs) b (in_flat f xs a b k n)
]

from_flat : {A B : Type 0} (f : A → List B) (xs : List A) (b : B) → Contains (flat_map f xs) b
    → (a : A) × Contains xs a × Contains (f a) b
from_flat f [] b m = absurd (nothing-in b m)
from_flat f (x ∷ xs) b m = elim (Contains-append_cases (f x) (flat_map f xs) b m) [
  | inl n ↦ (x, contains-head x xs, n)
  | inr n ↦ (let r = from_flat f xs b n in (r.0, contains-cons x r.0 xs r.1, r.2))
]

module _ {A : Type 0} where
  pub listed_as : {P Q : A → Type 0} → Listed P → ((a : A) → P a → Q a) → ((a : A) → Q a → P a) → Listed Q
  listed_as p on back = record {
    items = p.items;
    sound = λ a m. on a (p.sound a m);
    whole = λ a q. p.whole a (back a q);
  }

  pub listed_one : (c : A) → Listed (λ a. c ≡ a)
  listed_one c = record {
    items = c ∷ [];
    sound = λ a m. elim (contains-cases c a [] m) [ inl e ↦ e | inr k ↦ absurd (nothing-in a k) ];
    whole = λ a e. subst (λ z. Contains (c ∷ []) z) e (contains-head c []);
  }

  pub listed_or : {P Q : A → Type 0} → Listed P → Listed Q → Listed (λ a. P a ⊎ Q a)
  listed_or p q = record {
    items = p.items ++ q.items;
    sound = λ a m.
        elim (Contains-append_cases p.items q.items a m) [ inl k ↦ inl (p.sound a k) | inr k ↦ inr (q.sound a k) ];
    whole = λ a h.
        elim h [
          | inl k ↦ Contains-append_left p.items q.items a (p.whole a k)
          | inr k ↦ Contains-append_right p.items q.items a (q.whole a k)
        ];
  }

  pub listed_where : {R : Type 0} {P : A → Type 0} → Told R → Listed P → Listed (λ a. R × P a)
  listed_where (inl r) p = listed_as p (λ a h. (r, h)) (λ a h. h.1)
  listed_where (inr n) p = record { items = []; sound = λ a m. absurd (nothing-in a m); whole = λ a h. absurd (n h.0) }

module _ {A B : Type 0} where
  pub listed_by : {P : A → Type 0} {R : A → B → Type 0} → Listed P → ((a : A) → Listed (R a))
      → Listed (λ b. (a : A) × P a × R a b)
  listed_by p r = record {
    items = flat_map (λ a. (r a).items) p.items;
    sound = λ b m. let k = from_flat (λ a. (r a).items) p.items b m in (k.0, p.sound k.0 k.1, (r k.0).sound b k.2);
    whole = λ b h. in_flat (λ a. (r a).items) p.items h.0 b (p.whole h.0 h.1) ((r h.0).whole b h.2);
  }

  pub listed_image : {P : A → Type 0} (f : A → B) → Listed P → Listed (λ b. (a : A) × P a × (f a ≡ b))
  listed_image f p = listed_by p (λ a. listed_one (f a))

-- whether two values are one
pub value_told : (v w : Value) → Told (v ≡ w)
value_told v w = go (is_same v w) refl
  where
    go : (b : Bool) → is_same v w ≡ b → Told (v ≡ w)
    go true e = inl (same_is v w e)
    go false e = inr (λ i. true≢false (sym (subst (λ (z : Value). is_same v z ≡ true) i (same_self v)) ∙ e))

pub contains_told : (vs : List Value) (v : Value) → Told (Contains vs v)
contains_told [] v = inr (λ m. nothing-in v m)
contains_told (w ∷ vs) v = go (value_told w v) (contains_told vs v)
  where
    go : Told (w ≡ v) → Told (Contains vs v) → Told (Contains (w ∷ vs) v)
    go (inl e) t = inl (subst (λ z. Contains (w ∷ vs) z) e (contains-head w vs))
    go (inr n) (inl m) = inl (contains-cons w v vs m)
    go (inr n) (inr k) = inr (λ m. elim (contains-cases w v vs m) [ inl e ↦ n e | inr l ↦ k l ])

pub listed_told : {P : Value → Type 0} → Listed P → (v : Value) → Told (P v)
listed_told p v = elim (contains_told p.items v) [ inl m ↦ inl (p.sound v m) | inr n ↦ inr (λ h. n (p.whole v h)) ]

module _ {V : Type 0} (facts : V → Value → Type 0) (known : (x : V) → Listed (facts x)) where
  -- an expression whose values are listed
  abbrev Operand : Type 0
  Operand = (e : Expr V) × Listed (Yields facts (out-Expr V e))

  abbrev first : Operand → Expr V
  first d = d.0

  abbrev exprs : List Operand → List (Expr V)
  exprs ds = map (λ (d : Operand). d.0) ds

  some_told : (ds : List Operand) (v : Value) → Told (Some_yields facts (exprs ds) v)
  some_told [] v = inr (λ h. elim h [ ])
  some_told (d ∷ ds) v = go (listed_told d.1 v) (some_told ds v)
    where
      go : Told (Yields facts (out-Expr V d.0) v) → Told (Some_yields facts (exprs ds) v)
          → Told (Some_yields facts (exprs (d ∷ ds)) v)
      go (inl h) t = inl (y.here h)
      go (inr n) (inl h) = inl (y.later h)
      go (inr n) (inr m) = inr (λ h. elim h [ y.here k ↦ n k | y.later k ↦ m k ])

  all_told : (ds : List Operand) (v : Value) → Told (All_yield facts (exprs ds) v)
  all_told [] v = inl y.none
  all_told (d ∷ ds) v = go (listed_told d.1 v) (all_told ds v)
    where
      go : Told (Yields facts (out-Expr V d.0) v) → Told (All_yield facts (exprs ds) v)
          → Told (All_yield facts (exprs (d ∷ ds)) v)
      go (inl h) (inl k) = inl (y.one_and h k)
      go (inl h) (inr n) = inr (λ a. elim a [ y.one_and p q ↦ n q ])
      go (inr n) t = inr (λ a. elim a [ y.one_and p q ↦ n p ])

  picks_listed : (ds : List Operand) → Listed (Picks facts (exprs ds))
  picks_listed [] = listed_as (listed_one []) (λ vs e. subst (λ z. Picks facts [] z) e y.no_operand) (λ vs p. none p)
    where
      none : {vs : List Value} → Picks facts [] vs → [] ≡ vs
      none y.no_operand = refl
  picks_listed (d ∷ ds) = listed_as (listed_by d.1 (λ v. listed_image (λ vs. v ∷ vs) (picks_listed ds))) on back
    where
      on : (ws : List Value) →
          ((v : Value) × Yields facts (out-Expr V d.0) v
          × ((vs : List Value) × Picks facts (exprs ds) vs × (v ∷ vs ≡ ws)))
          → Picks facts (exprs (d ∷ ds)) ws
      on ws (v, h, (vs, p, e)) = subst (λ z. Picks facts (exprs (d ∷ ds)) z) e (y.operand h p)

      back : (ws : List Value) → Picks facts (exprs (d ∷ ds)) ws → (v : Value) × Yields facts (out-Expr V d.0) v ×
          ((vs : List Value) × Picks facts (exprs ds) vs × (v ∷ vs ≡ ws))
      back (v ∷ vs) (y.operand h p) = (v, h, (vs, p, refl))
      back [] p = elim p [ ]

  abbrev terms : List (Bool × Operand) → List (Bool × Expr V)
  terms ds = map (λ (p : Bool × Operand). (p.0, p.1.0)) ds

  parts_listed : (ds : List (Bool × Operand)) → Listed (Picks_parts facts (terms ds))
  parts_listed [] = listed_as (listed_one []) (λ vs e. subst (λ z. Picks_parts facts [] z) e y.no_part) (λ vs p. none p)
    where
      none : {vs : List (Bool × Value)} → Picks_parts facts [] vs → [] ≡ vs
      none y.no_part = refl
  parts_listed ((plus, d) ∷ ds) =
      listed_as (listed_by d.1 (λ v. listed_image (λ vs. (plus, v) ∷ vs) (parts_listed ds))) on back
    where
      on : (ws : List (Bool × Value)) →
          ((v : Value) × Yields facts (out-Expr V d.0) v
          × ((vs : List (Bool × Value)) × Picks_parts facts (terms ds) vs × ((plus, v) ∷ vs ≡ ws)))
          → Picks_parts facts (terms ((plus, d) ∷ ds)) ws
      on ws (v, h, (vs, p, e)) = subst (λ z. Picks_parts facts (terms ((plus, d) ∷ ds)) z) e (y.part h p)

      back : (ws : List (Bool × Value)) → Picks_parts facts (terms ((plus, d) ∷ ds)) ws → (v : Value) × Yields facts
          (out-Expr V d.0) v × ((vs : List (Bool × Value)) × Picks_parts facts (terms ds) vs × ((plus, v) ∷ vs ≡ ws))
      back ((b, v) ∷ vs) (y.part h p) = (v, h, (vs, p, refl))
      back [] p = elim p [ ]

  abbrev cases : List (Operand × Operand) → List (Expr V × Expr V)
  cases cs = map (λ (c : Operand × Operand). (c.0.0, c.1.0)) cs

  takes_listed : (cs : List (Operand × Operand)) (other : Level V) → Listed (Yields facts other)
      → Listed (Takes facts (cases cs) other)
  takes_listed [] other l = listed_as l (λ v h. y.otherwise h) (λ v h. back h)
    where
      back : {v : Value} → Takes facts [] other v → Yields facts other v
      back (y.otherwise h) = h
  takes_listed ((test, value) ∷ cs) other l =
      listed_as
      (listed_or (listed_where (listed_told test.1 (Truth true)) value.1)
      (listed_where (listed_told test.1 (Truth false)) (takes_listed cs other l))) on
      (λ v h. back h)
    where
      on : (v : Value) → (Yields facts (out-Expr V test.0) (Truth true) × Yields facts (out-Expr V value.0) v) ⊎
          (Yields facts (out-Expr V test.0) (Truth false) × Takes facts (cases cs) other v)
          → Takes facts (cases ((test, value) ∷ cs)) other v
      on v (inl h) = y.taken h.0 h.1
      on v (inr h) = y.passed h.0 h.1

      back : {v : Value} → Takes facts (cases ((test, value) ∷ cs)) other v
          → (Yields facts (out-Expr V test.0) (Truth true) × Yields facts (out-Expr V value.0) v)
          ⊎ (Yields facts (out-Expr V test.0) (Truth false) × Takes facts (cases cs) other v)
      back (y.taken t h) = inl (t, h)
      back (y.passed t h) = inr (t, h)

  -- one form, from its operands
  abbrev opened : Expr-F V Operand → Level V
  opened x = map-Expr V Operand (Expr V) (λ d. d.0) x

  form_listed : (x : Expr-F V Operand) → Listed (Yields facts (opened x))
  form_listed (Constant v) =
      listed_as (listed_one v) (λ w e. subst (λ z. Yields facts (Constant v) z) e y.constant) (λ w h. back h)
    where
      back : {w : Value} → Yields facts (Constant v) w → v ≡ w
      back y.constant = refl
  form_listed (Variable x) = listed_as (known x) (λ v h. y.variable h) (λ v h. back h)
    where
      back : {v : Value} → Yields facts (Variable x) v → facts x v
      back (y.variable h) = h
  form_listed (Not a) =
      listed_as
      (listed_or (listed_where (listed_told a.value.1 (Truth true)) (listed_one (Truth false)))
      (listed_where (listed_told a.value.1 (Truth false)) (listed_one (Truth true)))) on
      (λ v h. back h)
    where
      on : (v : Value) → (Yields facts (out-Expr V a.value.0) (Truth true) × (Truth false ≡ v)) ⊎
          (Yields facts (out-Expr V a.value.0) (Truth false) × (Truth true ≡ v)) → Yields facts (opened (Not a)) v
      on v (inl (h, e)) = subst (λ z. Yields facts (opened (Not a)) z) e (y.opposite h)
      on v (inr (h, e)) = subst (λ z. Yields facts (opened (Not a)) z) e (y.opposite h)

      back : {v : Value} → Yields facts (opened (Not a)) v →
          (Yields facts (out-Expr V a.value.0) (Truth true) × (Truth false ≡ v)) ⊎
          (Yields facts (out-Expr V a.value.0) (Truth false) × (Truth true ≡ v))
      back (y.opposite {b = true} h) = inl (h, refl)
      back (y.opposite {b = false} h) = inr (h, refl)
  form_listed (All es) =
      listed_as
      (listed_or (listed_where (some_told es.items (Truth false)) (listed_one (Truth false)))
      (listed_where (all_told es.items (Truth true)) (listed_one (Truth true)))) on
      (λ v h. back h)
    where
      on : (v : Value) → (Some_yields facts (exprs es.items) (Truth false) × (Truth false ≡ v)) ⊎
          (All_yield facts (exprs es.items) (Truth true) × (Truth true ≡ v)) → Yields facts (opened (All es)) v
      on v (inl (h, e)) = subst (λ z. Yields facts (opened (All es)) z) e (y.one_false h)
      on v (inr (h, e)) = subst (λ z. Yields facts (opened (All es)) z) e (y.all_true h)

      back : {v : Value} → Yields facts (opened (All es)) v →
          (Some_yields facts (exprs es.items) (Truth false) × (Truth false ≡ v)) ⊎
          (All_yield facts (exprs es.items) (Truth true) × (Truth true ≡ v))
      back (y.one_false h) = inl (h, refl)
      back (y.all_true h) = inr (h, refl)
  form_listed (Any es) =
      listed_as
      (listed_or (listed_where (some_told es.items (Truth true)) (listed_one (Truth true)))
      (listed_where (all_told es.items (Truth false)) (listed_one (Truth false)))) on
      (λ v h. back h)
    where
      on : (v : Value) → (Some_yields facts (exprs es.items) (Truth true) × (Truth true ≡ v)) ⊎
          (All_yield facts (exprs es.items) (Truth false) × (Truth false ≡ v)) → Yields facts (opened (Any es)) v
      on v (inl (h, e)) = subst (λ z. Yields facts (opened (Any es)) z) e (y.one_true h)
      on v (inr (h, e)) = subst (λ z. Yields facts (opened (Any es)) z) e (y.all_false h)

      back : {v : Value} → Yields facts (opened (Any es)) v →
          (Some_yields facts (exprs es.items) (Truth true) × (Truth true ≡ v)) ⊎
          (All_yield facts (exprs es.items) (Truth false) × (Truth false ≡ v))
      back (y.one_true h) = inl (h, refl)
      back (y.all_false h) = inr (h, refl)
  form_listed (Compare r a b) =
      listed_as (listed_by a.value.1 (λ v. listed_image (λ w. Truth (is_related r v w)) b.value.1)) on (λ u h. back h)
    where
      on : (u : Value) →
          ((v : Value) × Yields facts (out-Expr V a.value.0) v
          × ((w : Value) × Yields facts (out-Expr V b.value.0) w × (Truth (is_related r v w) ≡ u)))
          → Yields facts (opened (Compare r a b)) u
      on u (v, h, (w, k, e)) = subst (λ z. Yields facts (opened (Compare r a b)) z) e (y.compared h k)

      back : {u : Value} → Yields facts (opened (Compare r a b)) u → (v : Value) × Yields facts
          (out-Expr V a.value.0) v ×
          ((w : Value) × Yields facts (out-Expr V b.value.0) w × (Truth (is_related r v w) ≡ u))
      back (y.compared {v = v} {w = w} h k) = (v, h, (w, k, refl))
  form_listed (Sum ps) = listed_as (listed_image (λ vs. Whole (sum_of vs)) (parts_listed ps.items)) on (λ v h. back h)
    where
      on : (v : Value) → ((vs : List (Bool × Value)) × Picks_parts facts (terms ps.items) vs × (Whole (sum_of vs) ≡ v))
          → Yields facts (opened (Sum ps)) v
      on v (vs, p, e) = subst (λ z. Yields facts (opened (Sum ps)) z) e (y.sum p)

      back : {v : Value} → Yields facts (opened (Sum ps)) v
          → (vs : List (Bool × Value)) × Picks_parts facts (terms ps.items) vs × (Whole (sum_of vs) ≡ v)
      back (y.sum {vs = vs} p) = (vs, p, refl)
  form_listed (Product es) =
      listed_as (listed_image (λ vs. Whole (product_of vs)) (picks_listed es.items)) on (λ v h. back h)
    where
      on : (v : Value) → ((vs : List Value) × Picks facts (exprs es.items) vs × (Whole (product_of vs) ≡ v))
          → Yields facts (opened (Product es)) v
      on v (vs, p, e) = subst (λ z. Yields facts (opened (Product es)) z) e (y.product p)

      back : {v : Value} → Yields facts (opened (Product es)) v
          → (vs : List Value) × Picks facts (exprs es.items) vs × (Whole (product_of vs) ≡ v)
      back (y.product {vs = vs} p) = (vs, p, refl)
  form_listed (Least es) =
      listed_as (listed_image (λ vs. Whole (least_of vs)) (picks_listed es.items)) on (λ v h. back h)
    where
      on : (v : Value) → ((vs : List Value) × Picks facts (exprs es.items) vs × (Whole (least_of vs) ≡ v))
          → Yields facts (opened (Least es)) v
      on v (vs, p, e) = subst (λ z. Yields facts (opened (Least es)) z) e (y.least p)

      back : {v : Value} → Yields facts (opened (Least es)) v
          → (vs : List Value) × Picks facts (exprs es.items) vs × (Whole (least_of vs) ≡ v)
      back (y.least {vs = vs} p) = (vs, p, refl)
  form_listed (Greatest es) =
      listed_as (listed_image (λ vs. Whole (greatest_of vs)) (picks_listed es.items)) on (λ v h. back h)
    where
      on : (v : Value) → ((vs : List Value) × Picks facts (exprs es.items) vs × (Whole (greatest_of vs) ≡ v))
          → Yields facts (opened (Greatest es)) v
      on v (vs, p, e) = subst (λ z. Yields facts (opened (Greatest es)) z) e (y.greatest p)

      back : {v : Value} → Yields facts (opened (Greatest es)) v
          → (vs : List Value) × Picks facts (exprs es.items) vs × (Whole (greatest_of vs) ≡ v)
      back (y.greatest {vs = vs} p) = (vs, p, refl)
  form_listed (Count es) =
      listed_as (listed_image (λ vs. Whole (count_of vs)) (picks_listed es.items)) on (λ v h. back h)
    where
      on : (v : Value) → ((vs : List Value) × Picks facts (exprs es.items) vs × (Whole (count_of vs) ≡ v))
          → Yields facts (opened (Count es)) v
      on v (vs, p, e) = subst (λ z. Yields facts (opened (Count es)) z) e (y.count p)

      back : {v : Value} → Yields facts (opened (Count es)) v
          → (vs : List Value) × Picks facts (exprs es.items) vs × (Whole (count_of vs) ≡ v)
      back (y.count {vs = vs} p) = (vs, p, refl)
  form_listed (Choose cs other) =
      listed_as (takes_listed cs.items (out-Expr V other.value.0) other.value.1) (λ v h. y.choice h) (λ v h. back h)
    where
      back : {v : Value} → Yields facts (opened (Choose cs other)) v
          → Takes facts (cases cs.items) (out-Expr V other.value.0) v
      back (y.choice h) = h

  -- the values that the expression yields
  pub yields_listed : (e : Expr V) → Listed (Yields facts (out-Expr V e))
  yields_listed = ind-Expr V (λ e. Listed (Yields facts (out-Expr V e)))
      (λ x d is. subst (λ z. Listed (Yields facts z)) (sym (out-roll-Expr V x))
      (subst (λ z. Listed (Yields facts z)) is (form_listed d)))

  pub yields_told : (e : Expr V) (v : Value) → Told (Yields facts (out-Expr V e) v)
  yields_told e v = listed_told (yields_listed e) v

-- what the facts of lists list
pub facts_listed : {V : Type 0} (facts : V → List Value) (x : V) → Listed (Contains (facts x))
facts_listed facts x = record { items = facts x; sound = λ v m. m; whole = λ v m. m }

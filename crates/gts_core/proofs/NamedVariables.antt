-- The variables that expressions and conditions name, gathered in a list.
use Rattle.std.proofs.Common.{◌≡◌, ℕ, ◌+◌, ◌<◌, ◌≤◌, ◌⊎◌, inl, inr, Bool, List, [], ◌∷◌, length, drop, get_or, Box, Vec, Global, Result, Ok, Err, IfOk, refl, sym, subst}
use Rattle.ar_base.specs.declared.faults.Memory.{Memory}
use Rattle.ar_base.specs.Numbers.{VarId}
use Rattle.ar_base.proofs.Items.{next_left, none_left}
use Rattle.domains.specs.declared.Value.{Value}
use Rattle.typed_expr.specs.Yields.{Level}
use Rattle.typed_expr.specs.Mentions.{Mentions, Some_mentions, Parts_mention, Cases_mention}
use Rattle.typed_expr.specs.Mentions as m
use Rattle.typed_expr.specs.declared.expr.Relation.{Relation}
use Rattle.typed_expr.specs.declared.expr.Expr.{Expr, out-Expr}
use Rattle.typed_expr.specs.declared.expr.Expr.TheOpen.{Constant, Variable, Not, All, Any, Compare, Sum, Product, Least, Greatest, Count, Choose}
use Rattle.ar_meaning.specs.Dependence.{Tests, in_this, in_later}
use Rattle.gts_core.specs.Adding.{Adds}
use Rattle.gts_core.proofs.Added.{Remains, remains_on, remains_all, adds_then, adds_as}

pub some_cases : (x : VarId) (e : Expr VarId) (es : List (Expr VarId)) → Some_mentions x (e ∷ es)
    → Mentions x (out-Expr VarId e) ⊎ Some_mentions x es
some_cases x e es (m.here d) = inl d
some_cases x e es (m.later d) = inr d

pub parts_cases : (x : VarId) (p : Bool × Expr VarId) (ps : List (Bool × Expr VarId)) → Parts_mention x (p ∷ ps)
    → Mentions x (out-Expr VarId p.1) ⊎ Parts_mention x ps
parts_cases x p ps (m.this_part d) = inl d
parts_cases x p ps (m.later_part d) = inr d

pub cases_cases : (x : VarId) (p : Expr VarId × Expr VarId) (ps : List (Expr VarId × Expr VarId))
    → Cases_mention x (p ∷ ps) → (Mentions x (out-Expr VarId p.0) ⊎ Mentions x (out-Expr VarId p.1))
    ⊎ Cases_mention x ps
cases_cases x p ps (m.in_test d) = inl (inl d)
cases_cases x p ps (m.in_value d) = inl (inr d)
cases_cases x p ps (m.later_case d) = inr d

pub tests_cases : (x : VarId) (p : Expr VarId × Bool) (ps : List (Expr VarId × Bool)) → Tests x (p ∷ ps)
    → Mentions x (out-Expr VarId p.0) ⊎ Tests x ps
tests_cases x p ps (in_this d) = inl d
tests_cases x p ps (in_later d) = inr d

pub no_some : (x : VarId) (es : List (Expr VarId)) → es ≡ [] → Some_mentions x es → ⊥
no_some x es i (m.here d) = cc
no_some x es i (m.later d) = cc

pub no_parts : (x : VarId) (es : List (Bool × Expr VarId)) → es ≡ [] → Parts_mention x es → ⊥
no_parts x es i (m.this_part d) = cc
no_parts x es i (m.later_part d) = cc

pub no_cases : (x : VarId) (es : List (Expr VarId × Expr VarId)) → es ≡ [] → Cases_mention x es → ⊥
no_cases x es i (m.in_test d) = cc
no_cases x es i (m.in_value d) = cc
no_cases x es i (m.later_case d) = cc

pub no_tests : (x : VarId) (es : List (Expr VarId × Bool)) → es ≡ [] → Tests x es → ⊥
no_tests x es i (in_this d) = cc
no_tests x es i (in_later d) = cc

module _ (old now new : List VarId) where
  pub some_on : (es : List (Expr VarId)) (i : ℕ) (e : Expr VarId) → i < length es → e ≡ get_or es i e
      → Remains (λ x. Some_mentions x (drop i es)) (λ x. Some_mentions x es) old now
      → Adds (λ x. Mentions x (out-Expr VarId e)) now new
      → Remains (λ x. Some_mentions x (drop (i + 1) es)) (λ x. Some_mentions x es) old new
  some_on es i e h is r p =
      let split = next_left es i e h is in
      remains_on (λ x. Mentions x (out-Expr VarId e)) (λ x. Some_mentions x (drop i es))
      (λ x. Some_mentions x (drop (i + 1) es)) (λ x. Some_mentions x es) old now new r p
      (λ x d. some_cases x e (drop (i + 1) es) (subst (λ (z : List (Expr VarId)). Some_mentions x z) split d))
      (λ x d. subst (λ (z : List (Expr VarId)). Some_mentions x z) (sym split) (m.here d))
      (λ x d. subst (λ (z : List (Expr VarId)). Some_mentions x z) (sym split) (m.later d))

  pub parts_on : (es : List (Bool × Expr VarId)) (i : ℕ) (e : Bool × Expr VarId) → i < length es → e ≡ get_or es i e
      → Remains (λ x. Parts_mention x (drop i es)) (λ x. Parts_mention x es) old now
      → Adds (λ x. Mentions x (out-Expr VarId e.1)) now new
      → Remains (λ x. Parts_mention x (drop (i + 1) es)) (λ x. Parts_mention x es) old new
  parts_on es i e h is r p =
      let split = next_left es i e h is in
      remains_on (λ x. Mentions x (out-Expr VarId e.1)) (λ x. Parts_mention x (drop i es))
      (λ x. Parts_mention x (drop (i + 1) es)) (λ x. Parts_mention x es) old now new r p
      (λ x d. parts_cases x e (drop (i + 1) es) (subst (λ (z : List (Bool × Expr VarId)). Parts_mention x z) split d))
      (λ x d. subst (λ (z : List (Bool × Expr VarId)). Parts_mention x z) (sym split) (m.this_part d))
      (λ x d. subst (λ (z : List (Bool × Expr VarId)). Parts_mention x z) (sym split) (m.later_part d))

  pub tests_on : (es : List (Expr VarId × Bool)) (i : ℕ) (e : Expr VarId × Bool) → i < length es → e ≡ get_or es i e
      → Remains (λ x. Tests x (drop i es)) (λ x. Tests x es) old now
      → Adds (λ x. Mentions x (out-Expr VarId e.0)) now new
      → Remains (λ x. Tests x (drop (i + 1) es)) (λ x. Tests x es) old new
  tests_on es i e h is r p =
      let split = next_left es i e h is in
      remains_on (λ x. Mentions x (out-Expr VarId e.0)) (λ x. Tests x (drop i es)) (λ x. Tests x (drop (i + 1) es))
      (λ x. Tests x es) old now new r p
      (λ x d. tests_cases x e (drop (i + 1) es) (subst (λ (z : List (Expr VarId × Bool)). Tests x z) split d))
      (λ x d. subst (λ (z : List (Expr VarId × Bool)). Tests x z) (sym split) (in_this d))
      (λ x d. subst (λ (z : List (Expr VarId × Bool)). Tests x z) (sym split) (in_later d))

  pub cases_on : (mid : List VarId) (es : List (Expr VarId × Expr VarId)) (i : ℕ) (e : Expr VarId × Expr VarId)
      → i < length es → e ≡ get_or es i e → Remains (λ x. Cases_mention x (drop i es)) (λ x. Cases_mention x es) old now
      → Adds (λ x. Mentions x (out-Expr VarId e.0)) now mid → Adds (λ x. Mentions x (out-Expr VarId e.1)) mid new
      → Remains (λ x. Cases_mention x (drop (i + 1) es)) (λ x. Cases_mention x es) old new
  cases_on mid es i e h is r p q =
      let split = next_left es i e h is in
      let both : VarId → Type 0 = λ x. Mentions x (out-Expr VarId e.0) ⊎ Mentions x (out-Expr VarId e.1) in
      remains_on both (λ x. Cases_mention x (drop i es)) (λ x. Cases_mention x (drop (i + 1) es))
      (λ x. Cases_mention x es) old now new r
      (adds_then (λ x. Mentions x (out-Expr VarId e.0)) (λ x. Mentions x (out-Expr VarId e.1)) both now mid new p q
      (λ x d. d) (λ x d. inl d) (λ x d. inr d))
      (λ x d. cases_cases x e (drop (i + 1) es)
      (subst (λ (z : List (Expr VarId × Expr VarId)). Cases_mention x z) split d))
      (λ x d. subst (λ (z : List (Expr VarId × Expr VarId)). Cases_mention x z) (sym split)
      (elim d [ inl t ↦ m.in_test t | inr v ↦ m.in_value v ]))
      (λ x d. subst (λ (z : List (Expr VarId × Expr VarId)). Cases_mention x z) (sym split) (m.later_case d))

module _ (old now : List VarId) where
  pub some_all : (es : List (Expr VarId)) (i : ℕ) → length es ≤ i
      → Remains (λ x. Some_mentions x (drop i es)) (λ x. Some_mentions x es) old now
      → Adds (λ x. Some_mentions x es) old now
  some_all es i h r = remains_all (λ x. Some_mentions x (drop i es)) (λ x. Some_mentions x es) old now r
      (λ x d. no_some x (drop i es) (none_left es i h) d)

  pub parts_all : (es : List (Bool × Expr VarId)) (i : ℕ) → length es ≤ i
      → Remains (λ x. Parts_mention x (drop i es)) (λ x. Parts_mention x es) old now
      → Adds (λ x. Parts_mention x es) old now
  parts_all es i h r = remains_all (λ x. Parts_mention x (drop i es)) (λ x. Parts_mention x es) old now r
      (λ x d. no_parts x (drop i es) (none_left es i h) d)

  pub cases_all : (es : List (Expr VarId × Expr VarId)) (i : ℕ) → length es ≤ i
      → Remains (λ x. Cases_mention x (drop i es)) (λ x. Cases_mention x es) old now
      → Adds (λ x. Cases_mention x es) old now
  cases_all es i h r = remains_all (λ x. Cases_mention x (drop i es)) (λ x. Cases_mention x es) old now r
      (λ x d. no_cases x (drop i es) (none_left es i h) d)

  pub tests_all : (es : List (Expr VarId × Bool)) (i : ℕ) → length es ≤ i
      → Remains (λ x. Tests x (drop i es)) (λ x. Tests x es) old now → Adds (λ x. Tests x es) old now
  tests_all es i h r = remains_all (λ x. Tests x (drop i es)) (λ x. Tests x es) old now r
      (λ x d. no_tests x (drop i es) (none_left es i h) d)

-- what stands in a form stands in its parts
module _ (e : Expr VarId) (old new : List VarId) where
  pub at_level : (y : Level VarId) (P : VarId → Type 0) → out-Expr VarId e ≡ y → ((x : VarId) → Mentions x y → P x)
      → ((x : VarId) → P x → Mentions x y) → Adds P old new → Adds (λ x. Mentions x (out-Expr VarId e)) old new
  at_level y P i f g h = adds_as P (λ x. Mentions x (out-Expr VarId e)) old new
      (λ x d. f x (subst (λ (z : Level VarId). Mentions x z) i d))
      (λ x d. subst (λ (z : Level VarId). Mentions x z) (sym i) (g x d)) h

pub of_variable : (x y : VarId) → Mentions x (Variable y) → x ≡ y
of_variable x y m.itself = refl

pub of_not : (x : VarId) (a : Box (Expr VarId) Global) → Mentions x (Not a) → Mentions x (out-Expr VarId a.value)
of_not x a (m.in_not d) = d

pub of_all : (x : VarId) (es : Vec (Expr VarId) Global) → Mentions x (All es) → Some_mentions x es.items
of_all x es (m.in_all d) = d

pub of_any : (x : VarId) (es : Vec (Expr VarId) Global) → Mentions x (Any es) → Some_mentions x es.items
of_any x es (m.in_any d) = d

pub of_product : (x : VarId) (es : Vec (Expr VarId) Global) → Mentions x (Product es) → Some_mentions x es.items
of_product x es (m.in_product d) = d

pub of_least : (x : VarId) (es : Vec (Expr VarId) Global) → Mentions x (Least es) → Some_mentions x es.items
of_least x es (m.in_least d) = d

pub of_greatest : (x : VarId) (es : Vec (Expr VarId) Global) → Mentions x (Greatest es) → Some_mentions x es.items
of_greatest x es (m.in_greatest d) = d

pub of_count : (x : VarId) (es : Vec (Expr VarId) Global) → Mentions x (Count es) → Some_mentions x es.items
of_count x es (m.in_count d) = d

pub of_sum : (x : VarId) (ps : Vec (Bool × Expr VarId) Global) → Mentions x (Sum ps) → Parts_mention x ps.items
of_sum x ps (m.in_sum d) = d

pub of_compare : (x : VarId) (r : Relation) (a b : Box (Expr VarId) Global) → Mentions x (Compare r a b)
    → Mentions x (out-Expr VarId a.value) ⊎ Mentions x (out-Expr VarId b.value)
of_compare x r a b (m.in_left d) = inl d
of_compare x r a b (m.in_right d) = inr d

pub of_choose : (x : VarId) (cs : Vec (Expr VarId × Expr VarId) Global) (other : Box (Expr VarId) Global)
    → Mentions x (Choose cs other) → Cases_mention x cs.items ⊎ Mentions x (out-Expr VarId other.value)
of_choose x cs other (m.in_cases d) = inl d
of_choose x cs other (m.in_other d) = inr d

pub of_constant : (x : VarId) (e : Expr VarId) (v : Value) → out-Expr VarId e ≡ Constant v
    → Mentions x (out-Expr VarId e) → ⊥
of_constant x e v i d = none (out-Expr VarId e) i d
  where
    gone : Mentions {V = VarId} x (Constant v) → ⊥
    gone d = elim d [ ]

    none : (y : Level VarId) → y ≡ Constant v → Mentions x y → ⊥
    none y i d = gone (subst (λ (z : Level VarId). Mentions x z) i d)

-- Variables that are named, and marked.
use Rattle.std.proofs.Common.{◌≡◌, ℕ, ◌+◌, ◌<◌, ◌≤◌, ◌⊎◌, inl, inr, Bool, true, false, ◌&&◌, List, [], ◌∷◌, length, drop, get_or, Option, Some, None, slice_get, unwrap_or, refl, sym, ap, ◌∙◌, subst, arith}
use Rattle.ar_base.specs.Lists.{Stands}
use Rattle.ar_base.specs.Numbers.{VarId}
use Rattle.ar_base.proofs.Items.{next_left, none_left}
use Rattle.typed_expr.specs.Yields.{Level}
use Rattle.typed_expr.specs.Mentions.{Mentions, Some_mentions, Parts_mention, Cases_mention}
use Rattle.typed_expr.specs.Mentions as m
use Rattle.typed_expr.specs.declared.expr.Expr.{Expr, out-Expr}
use Rattle.ar_meaning.specs.Dependence.{Tests, in_this, in_later}
use Rattle.ar_meaning.specs.Found.{IsAnswer}
use Rattle.gts_core.proofs.NamedVariables as named
use Rattle.flow_changes.specs.Restoring.{mark_at}
use Rattle.flow_changes.specs.Known.{MarksEach}

-- a mark that reads as set is set
pub mark_set : (marks : List Bool) (n : ℕ) → mark_at marks n ≡ true → Stands marks n true
mark_set marks n e = go (slice_get marks n) refl e
  where
    go : (o : Option Bool) → slice_get marks n ≡ o → unwrap_or o false ≡ true → slice_get marks n ≡ Some true
    go (Some b) is e = is ∙ ap Some e
    go None is e = cc e

-- what is read of a mark says whether it is set
pub mark_answer : (marks : List Bool) (n : ℕ) (b : Bool) → b ≡ mark_at marks n → IsAnswer b (Stands marks n true)
mark_answer marks n true e = mark_set marks n (sym e)
mark_answer marks n false e = λ s. let f : false ≡ true = e ∙ ap (λ (o : Option Bool). unwrap_or o false) s in absurd (cc f)

-- the answer for a fact is that for another which follows from it, and from which it follows
pub answer_as : (P Q : Type 0) (b : Bool) → (P → Q) → (Q → P) → IsAnswer b P → IsAnswer b Q
answer_as P Q true on back h = on h
answer_as P Q false on back h = λ q. h (back q)

-- the answer for two facts together
pub answer_both : (P Q : Type 0) (a b : Bool) → IsAnswer a P → IsAnswer b Q → IsAnswer (a && b) (P × Q)
answer_both P Q true true h k = (h, k)
answer_both P Q true false h k = λ p. k p.1
answer_both P Q false b h k = λ p. h p.0

module _ (marks : List Bool) where
  -- what stands in a form is marked where what stands in its parts is, and nowhere else
  pub at_level : (e : Expr VarId) (y : Level VarId) (P : VarId → Type 0) (b : Bool) → out-Expr VarId e ≡ y
      → ((x : VarId) → Mentions x y → P x) → ((x : VarId) → P x → Mentions x y)
      → IsAnswer b (MarksEach marks P) → IsAnswer b (MarksEach marks (λ x. Mentions x (out-Expr VarId e)))
  at_level e y P b i f g h = answer_as (MarksEach marks P) (MarksEach marks (λ x. Mentions x (out-Expr VarId e))) b
      (λ all x d. all x (f x (subst (λ (z : Level VarId). Mentions x z) i d)))
      (λ all x d. all x (subst (λ (z : Level VarId). Mentions x z) (sym i) (g x d))) h

  -- the same where what stands in two parts was asked for
  pub of_two : (P Q : VarId → Type 0) (a b c : Bool) → c ≡ (a && b) → IsAnswer a (MarksEach marks P)
      → IsAnswer b (MarksEach marks Q) → IsAnswer c (MarksEach marks (λ x. P x ⊎ Q x))
  of_two P Q a b c e h k = subst (λ (z : Bool). IsAnswer z (MarksEach marks (λ x. P x ⊎ Q x))) (sym e)
      (answer_as (MarksEach marks P × MarksEach marks Q) (MarksEach marks (λ x. P x ⊎ Q x)) (a && b)
      (λ two x d. elim d [ inl p ↦ two.0 x p | inr q ↦ two.1 x q ])
      (λ all. (λ x p. all x (inl p), λ x q. all x (inr q)))
      (answer_both (MarksEach marks P) (MarksEach marks Q) a b h k))

  -- what is left is part of the whole, and once it is marked, the whole is
  pub record Remains (left whole : VarId → Type 0) : Type 0 where
    pub on : MarksEach marks left → MarksEach marks whole
    pub among : (x : VarId) → left x → whole x

  pub remains_start : (P : VarId → Type 0) → Remains P P
  remains_start P = record { on = λ h. h; among = λ x d. d }

  remains_on : (P left after whole : VarId → Type 0) → Remains left whole → MarksEach marks P
      → ((x : VarId) → left x → P x ⊎ after x) → ((x : VarId) → after x → left x) → Remains after whole
  remains_on P left after whole r m split later =
      record {
        on = λ h. r.on (λ x d. elim (split x d) [ inl a ↦ m x a | inr b ↦ h x b ]);
        among = λ x d. r.among x (later x d);
      }

  remains_not : (P left whole : VarId → Type 0) → Remains left whole → (MarksEach marks P → ⊥)
      → ((x : VarId) → P x → left x) → MarksEach marks whole → ⊥
  remains_not P left whole r lacks here all = lacks (λ x d. all x (r.among x (here x d)))

  remains_all : (left whole : VarId → Type 0) → Remains left whole → ((x : VarId) → left x → ⊥) → MarksEach marks whole
  remains_all left whole r lacks = r.on (λ x d. absurd (lacks x d))

  module _ (es : List (Expr VarId)) (i : ℕ) (e : Expr VarId) (h : i < length es) (is : e ≡ get_or es i e)
      (r : Remains (λ x. Some_mentions x (drop i es)) (λ x. Some_mentions x es)) where
    pub some_on : MarksEach marks (λ x. Mentions x (out-Expr VarId e))
        → Remains (λ x. Some_mentions x (drop (i + 1) es)) (λ x. Some_mentions x es)
    some_on marked = remains_on (λ x. Mentions x (out-Expr VarId e)) (λ x. Some_mentions x (drop i es))
        (λ x. Some_mentions x (drop (i + 1) es)) (λ x. Some_mentions x es) r marked
        (λ x d. named.some_cases x e (drop (i + 1) es)
        (subst (λ (z : List (Expr VarId)). Some_mentions x z) (next_left es i e h is) d))
        (λ x d. subst (λ (z : List (Expr VarId)). Some_mentions x z) (sym (next_left es i e h is)) (m.later d))

    pub some_not : (MarksEach marks (λ x. Mentions x (out-Expr VarId e)) → ⊥)
        → MarksEach marks (λ x. Some_mentions x es) → ⊥
    some_not lacks = remains_not (λ x. Mentions x (out-Expr VarId e)) (λ x. Some_mentions x (drop i es))
        (λ x. Some_mentions x es) r lacks
        (λ x d. subst (λ (z : List (Expr VarId)). Some_mentions x z) (sym (next_left es i e h is)) (m.here d))

  pub some_all : (es : List (Expr VarId)) (i : ℕ) → length es ≤ i
      → Remains (λ x. Some_mentions x (drop i es)) (λ x. Some_mentions x es) → MarksEach marks (λ x. Some_mentions x es)
  some_all es i h r = remains_all (λ x. Some_mentions x (drop i es)) (λ x. Some_mentions x es) r
      (λ x d. named.no_some x (drop i es) (none_left es i h) d)

  module _ (ps : List (Bool × Expr VarId)) (i : ℕ) (p : Bool × Expr VarId) (h : i < length ps) (is : p ≡ get_or ps i p)
      (r : Remains (λ x. Parts_mention x (drop i ps)) (λ x. Parts_mention x ps)) where
    pub parts_on : MarksEach marks (λ x. Mentions x (out-Expr VarId p.1))
        → Remains (λ x. Parts_mention x (drop (i + 1) ps)) (λ x. Parts_mention x ps)
    parts_on marked = remains_on (λ x. Mentions x (out-Expr VarId p.1)) (λ x. Parts_mention x (drop i ps))
        (λ x. Parts_mention x (drop (i + 1) ps)) (λ x. Parts_mention x ps) r marked
        (λ x d. named.parts_cases x p (drop (i + 1) ps)
        (subst (λ (z : List (Bool × Expr VarId)). Parts_mention x z) (next_left ps i p h is) d))
        (λ x d. subst (λ (z : List (Bool × Expr VarId)). Parts_mention x z) (sym (next_left ps i p h is))
        (m.later_part d))

    pub parts_not : (MarksEach marks (λ x. Mentions x (out-Expr VarId p.1)) → ⊥)
        → MarksEach marks (λ x. Parts_mention x ps) → ⊥
    parts_not lacks = remains_not (λ x. Mentions x (out-Expr VarId p.1)) (λ x. Parts_mention x (drop i ps))
        (λ x. Parts_mention x ps) r lacks
        (λ x d. subst (λ (z : List (Bool × Expr VarId)). Parts_mention x z) (sym (next_left ps i p h is))
        (m.this_part d))

  pub parts_all : (ps : List (Bool × Expr VarId)) (i : ℕ) → length ps ≤ i
      → Remains (λ x. Parts_mention x (drop i ps)) (λ x. Parts_mention x ps) → MarksEach marks (λ x. Parts_mention x ps)
  parts_all ps i h r = remains_all (λ x. Parts_mention x (drop i ps)) (λ x. Parts_mention x ps) r
      (λ x d. named.no_parts x (drop i ps) (none_left ps i h) d)

  module _ (cs : List (Expr VarId × Expr VarId)) (i : ℕ) (c : Expr VarId × Expr VarId) (h : i < length cs)
      (is : c ≡ get_or cs i c) (r : Remains (λ x. Cases_mention x (drop i cs)) (λ x. Cases_mention x cs)) where
    pub cases_on : MarksEach marks (λ x. Mentions x (out-Expr VarId c.0) ⊎ Mentions x (out-Expr VarId c.1))
        → Remains (λ x. Cases_mention x (drop (i + 1) cs)) (λ x. Cases_mention x cs)
    cases_on marked = remains_on (λ x. Mentions x (out-Expr VarId c.0) ⊎ Mentions x (out-Expr VarId c.1))
        (λ x. Cases_mention x (drop i cs)) (λ x. Cases_mention x (drop (i + 1) cs)) (λ x. Cases_mention x cs) r marked
        (λ x d. named.cases_cases x c (drop (i + 1) cs)
        (subst (λ (z : List (Expr VarId × Expr VarId)). Cases_mention x z) (next_left cs i c h is) d))
        (λ x d. subst (λ (z : List (Expr VarId × Expr VarId)). Cases_mention x z) (sym (next_left cs i c h is))
        (m.later_case d))

    pub cases_not : (MarksEach marks (λ x. Mentions x (out-Expr VarId c.0) ⊎ Mentions x (out-Expr VarId c.1)) → ⊥)
        → MarksEach marks (λ x. Cases_mention x cs) → ⊥
    cases_not lacks = remains_not (λ x. Mentions x (out-Expr VarId c.0) ⊎ Mentions x (out-Expr VarId c.1))
        (λ x. Cases_mention x (drop i cs)) (λ x. Cases_mention x cs) r lacks
        (λ x d. subst (λ (z : List (Expr VarId × Expr VarId)). Cases_mention x z) (sym (next_left cs i c h is))
        (elim d [ inl t ↦ m.in_test t | inr v ↦ m.in_value v ]))

  pub cases_all : (cs : List (Expr VarId × Expr VarId)) (i : ℕ) → length cs ≤ i
      → Remains (λ x. Cases_mention x (drop i cs)) (λ x. Cases_mention x cs) → MarksEach marks (λ x. Cases_mention x cs)
  cases_all cs i h r = remains_all (λ x. Cases_mention x (drop i cs)) (λ x. Cases_mention x cs) r
      (λ x d. named.no_cases x (drop i cs) (none_left cs i h) d)

  module _ (cs : List (Expr VarId × Bool)) (i : ℕ) (c : Expr VarId × Bool) (h : i < length cs) (is : c ≡ get_or cs i c)
      (r : Remains (λ x. Tests x (drop i cs)) (λ x. Tests x cs)) where
    pub tests_on : MarksEach marks (λ x. Mentions x (out-Expr VarId c.0))
        → Remains (λ x. Tests x (drop (i + 1) cs)) (λ x. Tests x cs)
    tests_on marked = remains_on (λ x. Mentions x (out-Expr VarId c.0)) (λ x. Tests x (drop i cs))
        (λ x. Tests x (drop (i + 1) cs)) (λ x. Tests x cs) r marked
        (λ x d. named.tests_cases x c (drop (i + 1) cs)
        (subst (λ (z : List (Expr VarId × Bool)). Tests x z) (next_left cs i c h is) d))
        (λ x d. subst (λ (z : List (Expr VarId × Bool)). Tests x z) (sym (next_left cs i c h is)) (in_later d))

    pub tests_not : (MarksEach marks (λ x. Mentions x (out-Expr VarId c.0)) → ⊥) → MarksEach marks (λ x. Tests x cs) → ⊥
    tests_not lacks = remains_not (λ x. Mentions x (out-Expr VarId c.0)) (λ x. Tests x (drop i cs)) (λ x. Tests x cs) r
        lacks
        (λ x d. subst (λ (z : List (Expr VarId × Bool)). Tests x z) (sym (next_left cs i c h is)) (in_this d))

  pub tests_all : (cs : List (Expr VarId × Bool)) (i : ℕ) → length cs ≤ i
      → Remains (λ x. Tests x (drop i cs)) (λ x. Tests x cs) → MarksEach marks (λ x. Tests x cs)
  tests_all cs i h r = remains_all (λ x. Tests x (drop i cs)) (λ x. Tests x cs) r
      (λ x d. named.no_tests x (drop i cs) (none_left cs i h) d)

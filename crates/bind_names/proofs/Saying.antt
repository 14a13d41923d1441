-- The variables and values in what expressions become come from paths, or from what is written there.
use Rattle.std.proofs.Common.{◌≡◌, Bool, false, List, [], ◌∷◌, Contains, inl, inr, refl, sym, ap, subst, ℤ}
use Rattle.ar_base.specs.Lists.{IsOneOf}
use Rattle.ar_base.specs.Numbers.{VarId}
use Rattle.ar_base.proofs.Standing.{one_none, one_cases, one_contains}
use Rattle.ar_syntax.specs.declared.expressions.RawExpr.{RawExpr}
use Rattle.ar_syntax.specs.declared.paths.Path.{Path}
use Rattle.domains.specs.declared.Value.{Value}
use Rattle.domains.specs.declared.Value.TheVariants as value
use Rattle.typed_expr.specs.Yields.{Level}
use Rattle.typed_expr.specs.Mentions.{Mentions, Some_mentions, Parts_mention, Cases_mention}
use Rattle.typed_expr.specs.Mentions as m
use Rattle.typed_expr.specs.Possible.{IsSubexpression}
use Rattle.typed_expr.specs.Possible as part
use Rattle.typed_expr.specs.declared.expr.Expr.{Expr, out-Expr}
use Rattle.typed_expr.specs.declared.expr.Expr.TheOpen.{Constant}
use Rattle.written_forms.specs.Operands.{RawLevel}
use Rattle.written_forms.specs.Translating.{leaf_level, StandsFor, Becomes, All_become, Parts_become, Cases_become}
use Rattle.written_forms.specs.Translating as t
use Rattle.written_forms.specs.declared.naming.Leaf.{Leaf}
use Rattle.written_forms.specs.declared.naming.Leaf.TheVariants as leaf

abbrev Here : (Path → Leaf) → RawLevel → Level VarId → Type 0
Here leaves l y = Becomes (StandsFor leaves) l y

-- a sum of one part
only_mentions : (x : VarId) (e : Expr VarId) → Parts_mention x ((false, e) ∷ []) → Mentions x (out-Expr VarId e)
only_mentions x e (m.this_part h) = h
only_mentions x e (m.later_part h) = elim h [ ]

only_one : (e : Expr VarId) (plus : Bool) (c : Expr VarId) → IsOneOf {A = Bool × Expr VarId} ((false, e) ∷ []) (plus, c)
    → c ≡ e
only_one e plus c i = elim (one_cases (false, e) [] (plus, c) i) [
  | inl q ↦ sym (ap (λ (z : Bool × Expr VarId). z.1) q)
  | inr j ↦ absurd (one_none (plus, c) j)
]

-- each variable in what an expression becomes has the property, where each that a path stands for has it
module _ (leaves : Path → Leaf) (x : VarId) (good : Type 0)
    (fits : (p : Path) → leaves p ≡ leaf.Variable x → good) where
  leaf_mention : (p : Path) (l : Leaf) → leaves p ≡ l → Mentions x (leaf_level l) → good
  leaf_mention p (leaf.Variable y) e m.itself = fits p e
  leaf_mention p (leaf.Constant w) e h = elim h [ ]

  mutual
    pub mentioned : {l : RawLevel} {y : Level VarId} → Here leaves l y → Mentions x y → good
    mentioned t.truth h = elim h [ ]
    mentioned t.whole h = elim h [ ]
    mentioned t.real h = elim h [ ]
    mentioned (t.path {p = p} s) h = leaf_mention p (leaves p) refl (subst (Mentions x) (sym s) h)
    mentioned (t.opposite d) (m.in_not h) = mentioned d h
    mentioned (t.negative e d q) (m.in_sum h) = mentioned d (only_mentions x e (subst (Parts_mention x) q h))
    mentioned (t.all ds) (m.in_all h) = some_mentioned ds h
    mentioned (t.any ds) (m.in_any h) = some_mentioned ds h
    mentioned (t.compared d e) (m.in_left h) = mentioned d h
    mentioned (t.compared d e) (m.in_right h) = mentioned e h
    mentioned (t.sum ds) (m.in_sum h) = part_mentioned ds h
    mentioned (t.product ds) (m.in_product h) = some_mentioned ds h
    mentioned (t.least ds) (m.in_least h) = some_mentioned ds h
    mentioned (t.greatest ds) (m.in_greatest h) = some_mentioned ds h
    mentioned (t.count ds) (m.in_count h) = some_mentioned ds h
    mentioned (t.choice ds d) (m.in_cases h) = case_mentioned ds h
    mentioned (t.choice ds d) (m.in_other h) = mentioned d h

    some_mentioned : {rs : List RawExpr} {es : List (Expr VarId)} → All_become (StandsFor leaves) rs es
        → Some_mentions x es → good
    some_mentioned t.none h = elim h [ ]
    some_mentioned (t.one_and d ds) (m.here h) = mentioned d h
    some_mentioned (t.one_and d ds) (m.later h) = some_mentioned ds h

    part_mentioned : {rs : List (Bool × RawExpr)} {es : List (Bool × Expr VarId)}
        → Parts_become (StandsFor leaves) rs es → Parts_mention x es → good
    part_mentioned t.no_part h = elim h [ ]
    part_mentioned (t.part d ds) (m.this_part h) = mentioned d h
    part_mentioned (t.part d ds) (m.later_part h) = part_mentioned ds h

    case_mentioned : {rs : List (RawExpr × RawExpr)} {es : List (Expr VarId × Expr VarId)}
        → Cases_become (StandsFor leaves) rs es → Cases_mention x es → good
    case_mentioned t.no_case h = elim h [ ]
    case_mentioned (t.case_and d e ds) (m.in_test h) = mentioned d h
    case_mentioned (t.case_and d e ds) (m.in_value h) = mentioned e h
    case_mentioned (t.case_and d e ds) (m.later_case h) = case_mentioned ds h

-- the same of values
module _ (leaves : Path → Leaf) (good : Value → Type 0) (truths : (b : Bool) → good (value.Truth b))
    (wholes : (n : ℤ) → good (value.Whole n))
    (fits : (p : Path) (v : Value) → leaves p ≡ leaf.Constant v → good v) where
  abbrev In : Value → Level VarId → Type 0
  In v y = IsSubexpression (Constant v) y

  leaf_constant : (p : Path) (l : Leaf) → leaves p ≡ l → (v : Value) → In v (leaf_level l) → good v
  leaf_constant p (leaf.Constant w) e v part.itself = fits p w e
  leaf_constant p (leaf.Variable x) e v h = elim h [ ]

  mutual
    pub constant : {l : RawLevel} {y : Level VarId} → Here leaves l y → (v : Value) → In v y → good v
    constant (t.truth {b = b}) v part.itself = truths b
    constant (t.whole {n = n}) v part.itself = wholes n
    constant t.real v part.itself = wholes _
    constant (t.path {p = p} s) v h = leaf_constant p (leaves p) refl v (subst (In v) (sym s) h)
    constant (t.opposite d) v (part.in_not h) = constant d v h
    constant (t.negative e d q) v (part.in_sum {plus = plus} {e = c} i h) =
        let w = only_one e plus c (one_contains ((false, e) ∷ []) (plus, c)
        (subst (λ (z : List (Bool × Expr VarId)). Contains z (plus, c)) q i)) in
        constant d v (subst (λ (z : Expr VarId). In v (out-Expr VarId z)) w h)
    constant (t.all ds) v (part.in_all {e = c} i h) = one_constant ds v c (one_contains _ c i) h
    constant (t.any ds) v (part.in_any {e = c} i h) = one_constant ds v c (one_contains _ c i) h
    constant (t.compared d e) v (part.in_left h) = constant d v h
    constant (t.compared d e) v (part.in_right h) = constant e v h
    constant (t.sum ds) v (part.in_sum {plus = plus} {e = c} i h) =
        part_constant ds v plus c (one_contains _ (plus, c) i) h
    constant (t.product ds) v (part.in_product {e = c} i h) = one_constant ds v c (one_contains _ c i) h
    constant (t.least ds) v (part.in_least {e = c} i h) = one_constant ds v c (one_contains _ c i) h
    constant (t.greatest ds) v (part.in_greatest {e = c} i h) = one_constant ds v c (one_contains _ c i) h
    constant (t.count ds) v (part.in_count {e = c} i h) = one_constant ds v c (one_contains _ c i) h
    constant (t.choice ds d) v (part.in_test {test = a} {value = b} i h) =
        test_constant ds v a b (one_contains _ (a, b) i) h
    constant (t.choice ds d) v (part.in_value {test = a} {value = b} i h) =
        value_constant ds v a b (one_contains _ (a, b) i) h
    constant (t.choice ds d) v (part.in_other h) = constant d v h

    one_constant : {rs : List RawExpr} {es : List (Expr VarId)} → All_become (StandsFor leaves) rs es → (v : Value)
        → (c : Expr VarId) → IsOneOf es c → In v (out-Expr VarId c) → good v
    one_constant t.none v c i h = absurd (one_none c i)
    one_constant (t.one_and {e = e} {es = es} d ds) v c i h = elim (one_cases e es c i) [
      | inl q ↦ constant d v (subst (λ (z : Expr VarId). In v (out-Expr VarId z)) (sym q) h)
      | inr j ↦ one_constant ds v c j h
    ]

    part_constant : {rs : List (Bool × RawExpr)} {es : List (Bool × Expr VarId)} → Parts_become (StandsFor leaves) rs es
        → (v : Value) → (plus : Bool) (c : Expr VarId) → IsOneOf es (plus, c) → In v (out-Expr VarId c) → good v
    part_constant t.no_part v plus c i h = absurd (one_none (plus, c) i)
    part_constant (t.part {plus = b} {e = e} {es = es} d ds) v plus c i h = elim (one_cases (b, e) es (plus, c) i) [
      | inl q ↦ let w : e ≡ c = ap (λ (z : Bool × Expr VarId). z.1) q in constant d v (subst (λ (z : Expr VarId). In v (out-Expr VarId z)) (sym w) h)
      | inr j ↦ part_constant ds v plus c j h
    ]

    test_constant : {rs : List (RawExpr × RawExpr)} {es : List (Expr VarId × Expr VarId)}
        → Cases_become (StandsFor leaves) rs es → (v : Value) → (a b : Expr VarId) → IsOneOf es (a, b)
        → In v (out-Expr VarId a) → good v
    test_constant t.no_case v a b i h = absurd (one_none (a, b) i)
    test_constant (t.case_and {d = c} {e = e} {es = es} d k ds) v a b i h = elim (one_cases (c, e) es (a, b) i) [
      | inl q ↦ let w : c ≡ a = ap (λ (z : Expr VarId × Expr VarId). z.0) q in constant d v (subst (λ (z : Expr VarId). In v (out-Expr VarId z)) (sym w) h)
      | inr j ↦ test_constant ds v a b j h
    ]

    value_constant : {rs : List (RawExpr × RawExpr)} {es : List (Expr VarId × Expr VarId)}
        → Cases_become (StandsFor leaves) rs es → (v : Value) → (a b : Expr VarId) → IsOneOf es (a, b)
        → In v (out-Expr VarId b) → good v
    value_constant t.no_case v a b i h = absurd (one_none (a, b) i)
    value_constant (t.case_and {d = c} {e = e} {es = es} d k ds) v a b i h = elim (one_cases (c, e) es (a, b) i) [
      | inl q ↦ let w : e ≡ b = ap (λ (z : Expr VarId × Expr VarId). z.1) q in constant k v (subst (λ (z : Expr VarId). In v (out-Expr VarId z)) (sym w) h)
      | inr j ↦ value_constant ds v a b j h
    ]

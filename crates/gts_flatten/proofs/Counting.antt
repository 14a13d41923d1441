-- The nodes of an expression, form by form.
use Rattle.std.proofs.Common.{◌≡◌, ℕ, ◌+◌, Bool, List, [], ◌∷◌, ◌++◌, map, take, Vec, Box, Global, refl, ap, ◌∙◌, min, arith}
use Rattle.domains.specs.declared.Value.{Value}
use Rattle.typed_expr.specs.declared.expr.Relation.{Relation}
use Rattle.typed_expr.specs.declared.expr.Expr.{Expr, Constant, Variable, out-Expr}
use Rattle.typed_expr.specs.declared.expr.Expr.TheOpen as form
use Rattle.typed_expr.specs.declared.expr.Expr.TheOpen.{Expr-F}
use Rattle.typed_expr.specs.declared.expr.Expr.TheFolds.{fold_out-Expr, map-Expr}
use Rattle.typed_expr.specs.declared.expr.Expr.TheViews.{Not, All, Any, Compare, Sum, Product, Least, Greatest, Count, Choose, outs-Not, outs-All, outs-Any, outs-Compare, outs-Sum, outs-Product, outs-Least, outs-Greatest, outs-Count, outs-Choose}
use Rattle.typed_expr.proofs.Opened.{opened-constant, opened-variable}
use Rattle.ar_base.specs.Lists.{Stands}
use Rattle.ar_base.specs.Numbers.{VarId}
use Rattle.sync_expand.proofs.Placed.{take_next}
use Rattle.gts_flatten.specs.Sizes.{total, total_marked, total_paired, form_nodes, nodes_of, nodes_in}
use Rattle.gts_flatten.specs.SizesInside.{term_nodes_in, case_nodes_in}

arm : (e : Expr VarId) (x : Expr-F VarId (Expr VarId)) → out-Expr VarId e ≡ x
    → nodes_of e ≡ form_nodes (map-Expr VarId (Expr VarId) ℕ nodes_of x)
arm e x i = fold_out-Expr VarId ℕ form_nodes e
    ∙ ap (λ (y : Expr-F VarId (Expr VarId)). form_nodes (map-Expr VarId (Expr VarId) ℕ nodes_of y)) i

pub totals : (es : List (Expr VarId)) → total (map nodes_of es) ≡ nodes_in es
totals [] = refl
totals (e ∷ es) = ap (λ (n : ℕ). nodes_of e + n) (totals es)

pub constant_nodes : (e : Expr VarId) (v : Value) → e ≡ Constant v → nodes_of e ≡ 1
constant_nodes e v i = arm e (form.Constant v) (ap (out-Expr VarId) i ∙ opened-constant v)

pub variable_nodes : (e : Expr VarId) (x : VarId) → e ≡ Variable x → nodes_of e ≡ 1
variable_nodes e x i = arm e (form.Variable x) (ap (out-Expr VarId) i ∙ opened-variable x)

pub not_nodes : (e : Expr VarId) (a : Box (Expr VarId) Global) → e ≡ Not a → nodes_of e ≡ nodes_of a.value + 1
not_nodes e a i = arm e (form.Not a) (ap (out-Expr VarId) i ∙ outs-Not a)

pub compare_nodes : (e : Expr VarId) (r : Relation) (a b : Box (Expr VarId) Global) → e ≡ Compare r a b
    → nodes_of e ≡ (nodes_of a.value + nodes_of b.value) + 1
compare_nodes e r a b i = arm e (form.Compare r a b) (ap (out-Expr VarId) i ∙ outs-Compare r a b)

module _ (e : Expr VarId) (es : Vec (Expr VarId) Global) where
  pub all_nodes : e ≡ All es → nodes_of e ≡ nodes_in es.items + 1
  all_nodes i = arm e (form.All es) (ap (out-Expr VarId) i ∙ outs-All es) ∙ ap (λ (n : ℕ). n + 1) (totals es.items)

  pub any_nodes : e ≡ Any es → nodes_of e ≡ nodes_in es.items + 1
  any_nodes i = arm e (form.Any es) (ap (out-Expr VarId) i ∙ outs-Any es) ∙ ap (λ (n : ℕ). n + 1) (totals es.items)

  pub product_nodes : e ≡ Product es → nodes_of e ≡ nodes_in es.items + 1
  product_nodes i = arm e (form.Product es) (ap (out-Expr VarId) i ∙ outs-Product es)
      ∙ ap (λ (n : ℕ). n + 1) (totals es.items)

  pub least_nodes : e ≡ Least es → nodes_of e ≡ nodes_in es.items + 1
  least_nodes i = arm e (form.Least es) (ap (out-Expr VarId) i ∙ outs-Least es)
      ∙ ap (λ (n : ℕ). n + 1) (totals es.items)

  pub greatest_nodes : e ≡ Greatest es → nodes_of e ≡ nodes_in es.items + 1
  greatest_nodes i = arm e (form.Greatest es) (ap (out-Expr VarId) i ∙ outs-Greatest es)
      ∙ ap (λ (n : ℕ). n + 1) (totals es.items)

  pub count_nodes : e ≡ Count es → nodes_of e ≡ nodes_in es.items + 1
  count_nodes i = arm e (form.Count es) (ap (out-Expr VarId) i ∙ outs-Count es)
      ∙ ap (λ (n : ℕ). n + 1) (totals es.items)

marked : (ts : List (Bool × Expr VarId))
    → total_marked (map (λ (t : Bool × Expr VarId). (t.0, nodes_of t.1)) ts) ≡ term_nodes_in ts
marked [] = refl
marked (t ∷ ts) = ap (λ (n : ℕ). nodes_of t.1 + n) (marked ts)

paired : (cs : List (Expr VarId × Expr VarId))
    → total_paired (map (λ (c : Expr VarId × Expr VarId). (nodes_of c.0, nodes_of c.1)) cs) ≡ case_nodes_in cs
paired [] = refl
paired (c ∷ cs) = ap (λ (n : ℕ). (nodes_of c.0 + nodes_of c.1) + n) (paired cs)

pub sum_nodes : (e : Expr VarId) (terms : Vec (Bool × Expr VarId) Global) → e ≡ Sum terms
    → nodes_of e ≡ term_nodes_in terms.items + 1
sum_nodes e terms i = arm e (form.Sum terms) (ap (out-Expr VarId) i ∙ outs-Sum terms)
    ∙ ap (λ (n : ℕ). n + 1) (marked terms.items)

pub choose_nodes : (e : Expr VarId) (cases : Vec (Expr VarId × Expr VarId) Global) (other : Box (Expr VarId) Global)
    → e ≡ Choose cases other → nodes_of e ≡ (case_nodes_in cases.items + nodes_of other.value) + 1
choose_nodes e cases other i = arm e (form.Choose cases other) (ap (out-Expr VarId) i ∙ outs-Choose cases other)
    ∙ ap (λ (n : ℕ). (n + nodes_of other.value) + 1) (paired cases.items)

-- one expression more
nodes_append : (es fs : List (Expr VarId)) → nodes_in (es ++ fs) ≡ nodes_in es + nodes_in fs
nodes_append [] fs = omega arith
nodes_append (e ∷ es) fs = let i = nodes_append es fs in omega (arith, i)

terms_append : (es fs : List (Bool × Expr VarId)) → term_nodes_in (es ++ fs) ≡ term_nodes_in es + term_nodes_in fs
terms_append [] fs = omega arith
terms_append (e ∷ es) fs = let i = terms_append es fs in omega (arith, i)

cases_append : (es fs : List (Expr VarId × Expr VarId)) → case_nodes_in (es ++ fs) ≡ case_nodes_in es + case_nodes_in fs
cases_append [] fs = omega arith
cases_append (e ∷ es) fs = let i = cases_append es fs in omega (arith, i)

pub nodes_next : (es : List (Expr VarId)) (i : ℕ) (e : Expr VarId) (old n new : ℕ) → Stands es i e
    → old ≡ min 1000001 (nodes_in (take i es)) → n ≡ min 1000001 (nodes_of e) → new ≡ min 1000001 (old + n)
    → new ≡ min 1000001 (nodes_in (take (i + 1) es))
nodes_next es i e old n new s a b c =
    let t = ap nodes_in (take_next es i e s) in
    let j = nodes_append (take i es) (e ∷ []) in
    omega (arith, t, j, a, b, c)

pub terms_next : (ts : List (Bool × Expr VarId)) (i : ℕ) (t : Bool × Expr VarId) (old n new : ℕ) → Stands ts i t
    → old ≡ min 1000001 (term_nodes_in (take i ts)) → n ≡ min 1000001 (nodes_of t.1) → new ≡ min 1000001 (old + n)
    → new ≡ min 1000001 (term_nodes_in (take (i + 1) ts))
terms_next ts i t old n new s a b c =
    let h = ap term_nodes_in (take_next ts i t s) in
    let j = terms_append (take i ts) (t ∷ []) in
    omega (arith, h, j, a, b, c)

pub cases_next : (cs : List (Expr VarId × Expr VarId)) (i : ℕ) (k : Expr VarId × Expr VarId) (old m n both new : ℕ)
    → Stands cs i k → old ≡ min 1000001 (case_nodes_in (take i cs)) → m ≡ min 1000001 (nodes_of k.0)
    → n ≡ min 1000001 (nodes_of k.1) → both ≡ min 1000001 (m + n) → new ≡ min 1000001 (old + both)
    → new ≡ min 1000001 (case_nodes_in (take (i + 1) cs))
cases_next cs i k old m n both new s a b c d e =
    let h = ap case_nodes_in (take_next cs i k s) in
    let j = cases_append (take i cs) (k ∷ []) in
    omega (arith, h, j, a, b, c, d, e)

-- a form with one more than what is in it
pub form_capped : (whole inner n r : ℕ) → whole ≡ inner + 1 → n ≡ min 1000001 inner → r ≡ min 1000001 (n + 1)
    → r ≡ min 1000001 whole
form_capped whole inner n r e a b = omega (arith, e, a, b)

pub pair_capped : (whole first last m n both r : ℕ) → whole ≡ (first + last) + 1 → m ≡ min 1000001 first
    → n ≡ min 1000001 last → both ≡ min 1000001 (m + n) → r ≡ min 1000001 (both + 1) → r ≡ min 1000001 whole
pair_capped whole first last m n both r e a b c d = omega (arith, e, a, b, c, d)

pub both_capped : (whole first last m n r : ℕ) → whole ≡ first + last → m ≡ min 1000001 first → n ≡ min 1000001 last
    → r ≡ min 1000001 (m + n) → r ≡ min 1000001 whole
both_capped whole first last m n r e a b c = omega (arith, e, a, b, c)

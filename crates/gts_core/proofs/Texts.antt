-- The text of an expression, form by form.
use Rattle.std.proofs.Common.{◌≡◌, ℕ, Bool, true, false, List, [], ◌∷◌, ◌++◌, map, codes, cond, length, nat_eq, Vec, Box, Global, refl, sym, ap, ◌∙◌}
use Rattle.std.proofs.lemmas.List.{length-map}
use Rattle.ar_base.specs.Texts.{separated}
use Rattle.typed_expr.specs.Yields.{Level}
use Rattle.typed_expr.specs.declared.expr.Relation.{Relation}
use Rattle.typed_expr.specs.declared.expr.Expr.{Expr, out-Expr}
use Rattle.typed_expr.specs.declared.expr.Expr.TheOpen as form
use Rattle.typed_expr.specs.declared.expr.Expr.TheOpen.{Expr-F}
use Rattle.typed_expr.specs.declared.expr.Expr.TheFolds.{fold_out-Expr, map-Expr}
use Rattle.typed_expr.specs.declared.expr.Expr.TheViews.{Not, All, Any, Compare, Sum, Product, Least, Greatest, Count, Choose, outs-Not, outs-All, outs-Any, outs-Compare, outs-Sum, outs-Product, outs-Least, outs-Greatest, outs-Count, outs-Choose}
use Rattle.ar_base.specs.Numbers.{VarId}
use Rattle.gts_core.specs.declared.system.Assign.{Assign}
use Rattle.gts_core.specs.declared.system.GtsParts.{GtsParts}
use Rattle.gts_core.specs.Printed.{set_text, action_text, expr_text, text_step, summed, case_form, choice_form, relation_text}

module _ (p : GtsParts) where
  arm : (e : Expr VarId) (x : Level VarId) → out-Expr VarId e ≡ x
      → expr_text p e ≡ text_step p (map-Expr VarId (Expr VarId) (List ℕ) (expr_text p) x)
  arm e x i = fold_out-Expr VarId (List ℕ) (text_step p) e
      ∙ ap (λ (y : Level VarId). text_step p (map-Expr VarId (Expr VarId) (List ℕ) (expr_text p) y)) i

  pub not_text : (e : Expr VarId) (a : Box (Expr VarId) Global) → e ≡ Not a
      → codes "(not " ++ expr_text p a.value ++ codes ")" ≡ expr_text p e
  not_text e a i = sym (arm e (form.Not a) (ap (out-Expr VarId) i ∙ outs-Not a))

  pub all_text : (e : Expr VarId) (es : Vec (Expr VarId) Global) → e ≡ All es
      → codes "(" ++ separated true (codes " and ") (map (expr_text p) es.items) ++ codes ")" ≡ expr_text p e
  all_text e es i = sym (arm e (form.All es) (ap (out-Expr VarId) i ∙ outs-All es))

  pub any_text : (e : Expr VarId) (es : Vec (Expr VarId) Global) → e ≡ Any es
      → codes "(" ++ separated true (codes " or ") (map (expr_text p) es.items) ++ codes ")" ≡ expr_text p e
  any_text e es i = sym (arm e (form.Any es) (ap (out-Expr VarId) i ∙ outs-Any es))

  pub product_text : (e : Expr VarId) (es : Vec (Expr VarId) Global) → e ≡ Product es
      → codes "(" ++ separated true (codes " * ") (map (expr_text p) es.items) ++ codes ")" ≡ expr_text p e
  product_text e es i = sym (arm e (form.Product es) (ap (out-Expr VarId) i ∙ outs-Product es))

  pub least_text : (e : Expr VarId) (es : Vec (Expr VarId) Global) → e ≡ Least es
      → codes "min(" ++ separated true (codes ", ") (map (expr_text p) es.items) ++ codes ")" ≡ expr_text p e
  least_text e es i = sym (arm e (form.Least es) (ap (out-Expr VarId) i ∙ outs-Least es))

  pub greatest_text : (e : Expr VarId) (es : Vec (Expr VarId) Global) → e ≡ Greatest es
      → codes "max(" ++ separated true (codes ", ") (map (expr_text p) es.items) ++ codes ")" ≡ expr_text p e
  greatest_text e es i = sym (arm e (form.Greatest es) (ap (out-Expr VarId) i ∙ outs-Greatest es))

  pub count_text : (e : Expr VarId) (es : Vec (Expr VarId) Global) → e ≡ Count es
      → codes "count(" ++ separated true (codes ", ") (map (expr_text p) es.items) ++ codes ")" ≡ expr_text p e
  count_text e es i = sym (arm e (form.Count es) (ap (out-Expr VarId) i ∙ outs-Count es))

  pub compare_text : (e : Expr VarId) (r : Relation) (a b : Box (Expr VarId) Global) → e ≡ Compare r a b
      → codes "(" ++ expr_text p a.value ++ relation_text r ++ expr_text p b.value ++ codes ")" ≡ expr_text p e
  compare_text e r a b i = sym (arm e (form.Compare r a b) (ap (out-Expr VarId) i ∙ outs-Compare r a b))

  pub sum_text : (e : Expr VarId) (ps : Vec (Bool × Expr VarId) Global) → e ≡ Sum ps
      → codes "(" ++ summed true (map (λ (t : Bool × Expr VarId). (t.0, expr_text p t.1)) ps.items) ++ codes ")"
      ≡ expr_text p e
  sum_text e ps i = sym (arm e (form.Sum ps) (ap (out-Expr VarId) i ∙ outs-Sum ps))

  -- a case with the texts of its test and value
  abbrev pub texts : Expr VarId × Expr VarId → List ℕ × List ℕ
  texts c = (expr_text p c.0, expr_text p c.1)

  pub choose_text : (e : Expr VarId) (one : Bool) (cs : Vec (Expr VarId × Expr VarId) Global)
      (other : Box (Expr VarId) Global) → e ≡ Choose cs other
      → one ≡ nat_eq (length cs.items) 1
      → choice_form one (map texts cs.items) (expr_text p other.value) ≡ expr_text p e
  choose_text e one cs other i n =
      ap (λ b. choice_form b (map texts cs.items) (expr_text p other.value))
      (n ∙ ap (λ k. nat_eq k 1) (sym (length-map cs.items texts)))
      ∙ sym (arm e (form.Choose cs other) (ap (out-Expr VarId) i ∙ outs-Choose cs other))

pub case_text : (one : Bool) (a b : List ℕ)
    → (cond one (codes "(if ") (codes "case ")) ++ a ++ (cond one (codes " then ") (codes ": ")) ++ b
    ++ (cond one (codes " else ") (codes " ")) ≡ case_form one (a, b)
case_text true a b = refl
case_text false a b = refl

-- an action with assignments
pub some_text : (p : GtsParts) (xs : List Assign) → nat_eq (length xs) 0 ≡ false
    → separated true (codes ", ") (map (set_text p) xs) ≡ action_text p xs
some_text p [] e = cc
some_text p (x ∷ xs) e = refl

-- What written expressions become, form by form and item by item.
use Rattle.std.proofs.Common.{◌≡◌, ℕ, ◌+◌, ◌<◌, ◌≤◌, ℤ, pos, Bool, List, [], ◌∷◌, ◌++◌, take, length, get_or, Vec, Box, Global, sym, ap, ◌∙◌, subst}
use Rattle.std.proofs.lemmas.List.{take_more, take_all}
use Rattle.ar_base.specs.Numbers.{VarId}
use Rattle.ar_syntax.specs.declared.expressions.RawExpr.{RawExpr}
use Rattle.ar_syntax.specs.declared.expressions.RawForm.TheOpen as raw
use Rattle.ar_syntax.specs.declared.expressions.RawForm.TheVariants as written
use Rattle.ar_syntax.specs.declared.expressions.RawRelation.{RawRelation}
use Rattle.ar_syntax.specs.declared.paths.Path.{Path}
use Rattle.ar_syntax.proofs.Opened as opened
use Rattle.domains.specs.declared.Value.TheVariants as value
use Rattle.typed_expr.specs.Yields.{Level}
use Rattle.typed_expr.specs.declared.expr.Relation.{Relation}
use Rattle.typed_expr.specs.declared.expr.Expr.{Expr, Constant, out-Expr}
use Rattle.typed_expr.specs.declared.expr.Expr.TheOpen as form
use Rattle.typed_expr.specs.declared.expr.Expr.TheViews.{All, Any, Sum, Product, Least, Greatest, Count, outs-All, outs-Any, outs-Sum, outs-Product, outs-Least, outs-Greatest, outs-Count}
use Rattle.typed_expr.proofs.Opened.{opened-constant}
use Rattle.written_forms.specs.Operands.{RawLevel, level_of}
use Rattle.written_forms.specs.Translating.{leaf_level, StandsFor, BecomesBy, All_become_by, Parts_become_by, Cases_become_by, Becomes, IsOpposite, IsNegative, IsComparisonOf, IsCaseChoice}
use Rattle.written_forms.specs.Relations.{relation_of}
use Rattle.written_forms.specs.Translating as t
use Rattle.written_forms.specs.declared.naming.Leaf.{Leaf}

module _ (leaves : Path → Leaf) where
  as_one : (r : RawExpr) (e : Expr VarId) (x : RawLevel) (y : Level VarId) → level_of r ≡ x → out-Expr VarId e ≡ y
      → Becomes (StandsFor leaves) x y → BecomesBy leaves r e
  as_one r e x y i j h = subst (λ z. Becomes (StandsFor leaves) z (out-Expr VarId e)) (sym i)
      (subst (λ z. Becomes (StandsFor leaves) x z) (sym j) h)

  pub truth_becomes : (r : RawExpr) (b : Bool) → r.form ≡ written.Truth b
      → BecomesBy leaves r (Constant (value.Truth b))
  truth_becomes r b i = as_one r _ (raw.Truth b) (form.Constant (value.Truth b)) (opened.form-truth _ _ i)
      (opened-constant (value.Truth b)) t.truth

  pub whole_becomes : (r : RawExpr) (n : ℤ) → r.form ≡ written.Whole n → BecomesBy leaves r (Constant (value.Whole n))
  whole_becomes r n i = as_one r _ (raw.Whole n) (form.Constant (value.Whole n)) (opened.form-whole _ _ i)
      (opened-constant (value.Whole n)) t.whole

  pub real_becomes : (r : RawExpr) → r.form ≡ written.Real → BecomesBy leaves r (Constant (value.Whole (pos 0)))
  real_becomes r i = as_one r _ raw.Real (form.Constant (value.Whole (pos 0))) (opened.form-real _ i)
      (opened-constant (value.Whole (pos 0))) t.real

  pub path_becomes : (r : RawExpr) (p : Path) (l : Leaf) (e : Expr VarId) → r.form ≡ written.Path p → l ≡ leaves p
      → out-Expr VarId e ≡ leaf_level l → BecomesBy leaves r e
  path_becomes r p l e i j h = as_one r e (raw.Path p) (leaf_level l) (opened.form-path _ _ i) h
      (t.path (ap leaf_level (sym j)))

  pub not_becomes : (r : RawExpr) (a : Box RawExpr Global) (d e : Expr VarId) → r.form ≡ written.Not a
      → BecomesBy leaves a.value d → IsOpposite d e → BecomesBy leaves r e
  not_becomes r a d e i h o = as_one r e (raw.Not a) (form.Not o.operand) (opened.form-not _ _ i) o.is
      (t.opposite (subst (λ (z : Expr VarId). BecomesBy leaves a.value z) (sym o.is_operand) h))

  pub minus_becomes : (r : RawExpr) (a : Box RawExpr Global) (d e : Expr VarId) → r.form ≡ written.Minus a
      → BecomesBy leaves a.value d → IsNegative d e → BecomesBy leaves r e
  minus_becomes r a d e i h o = as_one r e (raw.Minus a) (form.Sum o.parts) (opened.form-minus _ _ i) o.is
      (t.negative d h o.are)

  pub compare_becomes : (r : RawExpr) (o : RawRelation) (q : Relation) (a b : Box RawExpr Global) (x y e : Expr VarId)
      → r.form ≡ written.Compare o a b → q ≡ relation_of o → BecomesBy leaves a.value x → BecomesBy leaves b.value y
      → IsComparisonOf q x y e → BecomesBy leaves r e
  compare_becomes r o q a b x y e i j h k is =
      as_one r e (raw.Compare o a b) (form.Compare (relation_of o) is.left is.right) (opened.form-compare _ _ _ _ i)
      (subst (λ (z : Relation). out-Expr VarId e ≡ form.Compare z is.left is.right) j is.is)
      (t.compared (subst (λ (z : Expr VarId). BecomesBy leaves a.value z) (sym is.is_left) h)
      (subst (λ (z : Expr VarId). BecomesBy leaves b.value z) (sym is.is_right) k))

  module _ (r : RawExpr) (rs : Vec RawExpr Global) (es : Vec (Expr VarId) Global)
      (h : All_become_by leaves rs.items es.items) where
    pub all_becomes : r.form ≡ written.All rs → BecomesBy leaves r (All es)
    all_becomes i = as_one r (All es) (raw.All rs) (form.All es) (opened.form-all _ _ i) (outs-All es) (t.all h)

    pub any_becomes : r.form ≡ written.Any rs → BecomesBy leaves r (Any es)
    any_becomes i = as_one r (Any es) (raw.Any rs) (form.Any es) (opened.form-any _ _ i) (outs-Any es) (t.any h)

    pub product_becomes : r.form ≡ written.Product rs → BecomesBy leaves r (Product es)
    product_becomes i = as_one r (Product es) (raw.Product rs) (form.Product es) (opened.form-product _ _ i)
        (outs-Product es) (t.product h)

    pub least_becomes : r.form ≡ written.Least rs → BecomesBy leaves r (Least es)
    least_becomes i = as_one r (Least es) (raw.Least rs) (form.Least es) (opened.form-least _ _ i) (outs-Least es)
        (t.least h)

    pub greatest_becomes : r.form ≡ written.Greatest rs → BecomesBy leaves r (Greatest es)
    greatest_becomes i = as_one r (Greatest es) (raw.Greatest rs) (form.Greatest es) (opened.form-greatest _ _ i)
        (outs-Greatest es) (t.greatest h)

    pub count_becomes : r.form ≡ written.Count rs → BecomesBy leaves r (Count es)
    count_becomes i = as_one r (Count es) (raw.Count rs) (form.Count es) (opened.form-count _ _ i) (outs-Count es)
        (t.count h)

  pub sum_becomes : (r : RawExpr) (ps : Vec (Bool × RawExpr) Global) (qs : Vec (Bool × Expr VarId) Global)
      → Parts_become_by leaves ps.items qs.items → r.form ≡ written.Sum ps → BecomesBy leaves r (Sum qs)
  sum_becomes r ps qs h i = as_one r (Sum qs) (raw.Sum ps) (form.Sum qs) (opened.form-sum _ _ i) (outs-Sum qs) (t.sum h)

  pub choice_becomes : (r : RawExpr) (cs : Vec (RawExpr × RawExpr) Global) (a : Box RawExpr Global)
      (ds : Vec (Expr VarId × Expr VarId) Global) (d e : Expr VarId)
      → Cases_become_by leaves cs.items ds.items → BecomesBy leaves a.value d → r.form ≡ written.Choose cs a
      → IsCaseChoice ds d e → BecomesBy leaves r e
  choice_becomes r cs a ds d e h k i o = as_one r e (raw.Choose cs a) (form.Choose ds o.other)
      (opened.form-choice _ _ _ i) o.is
      (t.choice h (subst (λ (z : Expr VarId). BecomesBy leaves a.value z) (sym o.is_other) k))

  -- one more item
  all_more : (a : RawExpr) (b : Expr VarId) {rs : List RawExpr} {es : List (Expr VarId)} → All_become_by leaves rs es
      → BecomesBy leaves a b → All_become_by leaves (rs ++ a ∷ []) (es ++ b ∷ [])
  all_more a b t.none h = t.one_and h t.none
  all_more a b (t.one_and k ks) h = t.one_and k (all_more a b ks h)

  parts_more : (plus : Bool) (a : RawExpr) (b : Expr VarId) {rs : List (Bool × RawExpr)} {es : List (Bool × Expr VarId)}
      → Parts_become_by leaves rs es → BecomesBy leaves a b
      → Parts_become_by leaves (rs ++ (plus, a) ∷ []) (es ++ (plus, b) ∷ [])
  parts_more plus a b t.no_part h = t.part h t.no_part
  parts_more plus a b (t.part k ks) h = t.part k (parts_more plus a b ks h)

  cases_more : (a c : RawExpr) (b d : Expr VarId) {rs : List (RawExpr × RawExpr)} {es : List (Expr VarId × Expr VarId)}
      → Cases_become_by leaves rs es → BecomesBy leaves a b → BecomesBy leaves c d
      → Cases_become_by leaves (rs ++ (a, c) ∷ []) (es ++ (b, d) ∷ [])
  cases_more a c b d t.no_case h k = t.case_and h k t.no_case
  cases_more a c b d (t.case_and i j ks) h k = t.case_and i j (cases_more a c b d ks h k)

  -- the items before the next place and the next item are those before the place after it
  front_more : {A B : Type 0} (R : List A → List B → Type 0) (xs : List A) (i : ℕ) (x : A) (ys : List B) → i < length xs
      → x ≡ get_or xs i x → R (take i xs ++ x ∷ []) ys → R (take (i + 1) xs) ys
  front_more R xs i x ys h e k = subst (λ z. R z ys) (sym (take_more xs i x h ∙ ap (λ z. take i xs ++ z ∷ []) (sym e)))
      k

  pub all_next : (xs : List RawExpr) (i : ℕ) (x : RawExpr) (y : Expr VarId) (ys zs : List (Expr VarId)) → i < length xs
      → x ≡ get_or xs i x → All_become_by leaves (take i xs) ys → BecomesBy leaves x y
      → zs ≡ ys ++ y ∷ [] → All_become_by leaves (take (i + 1) xs) zs
  all_next xs i x y ys zs h e k c j =
      subst (λ z. All_become_by leaves (take (i + 1) xs) z) (sym j)
      (front_more (All_become_by leaves) xs i x (ys ++ y ∷ []) h e (all_more x y k c))

  pub parts_next : (xs : List (Bool × RawExpr)) (i : ℕ) (x : Bool × RawExpr) (y : Expr VarId)
      (ys zs : List (Bool × Expr VarId)) → i < length xs → x ≡ get_or xs i x → Parts_become_by leaves (take i xs) ys
      → BecomesBy leaves x.1 y → zs ≡ ys ++ (x.0, y) ∷ [] → Parts_become_by leaves (take (i + 1) xs) zs
  parts_next xs i (plus, x) y ys zs h e k c j =
      subst (λ z. Parts_become_by leaves (take (i + 1) xs) z) (sym j)
      (front_more (Parts_become_by leaves) xs i (plus, x) (ys ++ (plus, y) ∷ []) h e (parts_more plus x y k c))

  pub cases_next : (xs : List (RawExpr × RawExpr)) (i : ℕ) (x : RawExpr × RawExpr) (y z : Expr VarId)
      (ys zs : List (Expr VarId × Expr VarId)) → i < length xs → x ≡ get_or xs i x
      → Cases_become_by leaves (take i xs) ys → BecomesBy leaves x.0 y → BecomesBy leaves x.1 z → zs ≡ ys ++ (y, z) ∷ []
      → Cases_become_by leaves (take (i + 1) xs) zs
  cases_next xs i (a, b) y z ys zs h e k c d j =
      subst (λ w. Cases_become_by leaves (take (i + 1) xs) w) (sym j)
      (front_more (Cases_become_by leaves) xs i (a, b) (ys ++ (y, z) ∷ []) h e (cases_more a b y z k c d))

  -- nothing is left
  pub all_read : {A B : Type 0} (R : List A → List B → Type 0) (xs : List A) (i : ℕ) (ys : List B) → length xs ≤ i
      → R (take i xs) ys → R xs ys
  all_read R xs i ys h k = subst (λ z. R z ys) (take_all i xs h) k

  -- nothing is read yet
  pub all_start : (ys : List (Expr VarId)) → ys ≡ [] → All_become_by leaves [] ys
  all_start ys j = subst (λ z. All_become_by leaves [] z) (sym j) t.none

  pub parts_start : (ys : List (Bool × Expr VarId)) → ys ≡ [] → Parts_become_by leaves [] ys
  parts_start ys j = subst (λ z. Parts_become_by leaves [] z) (sym j) t.no_part

  pub cases_start : (ys : List (Expr VarId × Expr VarId)) → ys ≡ [] → Cases_become_by leaves [] ys
  cases_start ys j = subst (λ z. Cases_become_by leaves [] z) (sym j) t.no_case

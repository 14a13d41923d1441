-- Copies of expressions, form by form and item by item.
use Rattle.std.proofs.Common.{◌≡◌, ℕ, ◌+◌, ◌<◌, ◌≤◌, Bool, List, [], ◌∷◌, ◌++◌, take, length, get_or, Vec, Box, Global, refl, sym, ap, ◌∙◌, subst}
use Rattle.std.proofs.lemmas.List.{take_more, take_all}
use Rattle.domains.specs.declared.Value.{Value}
use Rattle.typed_expr.specs.Yields.{Level}
use Rattle.typed_expr.specs.Renames.{Renames, All_rename, Parts_rename, Cases_rename}
use Rattle.typed_expr.specs.Renames as r
use Rattle.typed_expr.specs.declared.expr.Relation.{Relation}
use Rattle.typed_expr.specs.declared.expr.Expr.{Expr, Constant, Variable, out-Expr, roll-Expr, out-roll-Expr}
use Rattle.typed_expr.specs.declared.expr.Expr.TheOpen as form
use Rattle.typed_expr.specs.declared.expr.Expr.TheViews.{Not, All, Any, Compare, Sum, Product, Least, Greatest, Count, Choose, outs-Not, outs-All, outs-Any, outs-Compare, outs-Sum, outs-Product, outs-Least, outs-Greatest, outs-Count, outs-Choose}
use Rattle.typed_expr.proofs.Opened.{opened-constant, opened-variable}
use Rattle.ar_base.specs.Numbers.{VarId}
use Rattle.gts_core.specs.Copies.{IsSame, IsCopy, AreCopies, AreTermCopies, AreCaseCopies}

as_copy : (e f : Expr VarId) (x y : Level VarId) → out-Expr VarId e ≡ x → out-Expr VarId f ≡ y → Renames IsSame x y
    → IsCopy e f
as_copy e f x y i j r = subst (λ z. Renames IsSame z (out-Expr VarId f)) (sym i)
    (subst (λ z. Renames IsSame x z) (sym j) r)

pub copy_constant : (e : Expr VarId) (v : Value) → e ≡ Constant v → IsCopy e (Constant v)
copy_constant e v i = as_copy e (Constant v) (form.Constant v) (form.Constant v)
    (ap (out-Expr VarId) i ∙ opened-constant v) (opened-constant v) r.constant

pub copy_variable : (e : Expr VarId) (x : VarId) → e ≡ Variable x → IsCopy e (Variable x)
copy_variable e x i = as_copy e (Variable x) (form.Variable x) (form.Variable x)
    (ap (out-Expr VarId) i ∙ opened-variable x) (opened-variable x) (r.variable refl)

pub copy_not : (e : Expr VarId) (a b : Box (Expr VarId) Global) → e ≡ Not a → IsCopy a.value b.value → IsCopy e (Not b)
copy_not e a b i k = as_copy e (Not b) (form.Not a) (form.Not b) (ap (out-Expr VarId) i ∙ outs-Not a) (outs-Not b)
    (r.opposite k)

pub copy_compare : (e : Expr VarId) (s : Relation) (a b c d : Box (Expr VarId) Global) → e ≡ Compare s a b
    → IsCopy a.value c.value → IsCopy b.value d.value → IsCopy e (Compare s c d)
copy_compare e s a b c d i k l = as_copy e (Compare s c d) (form.Compare s a b) (form.Compare s c d)
    (ap (out-Expr VarId) i ∙ outs-Compare s a b) (outs-Compare s c d) (r.compared k l)

-- lists of operands
module _ (e : Expr VarId) (es fs : Vec (Expr VarId) Global) (k : AreCopies es.items fs.items) where
  pub copy_all : e ≡ All es → IsCopy e (All fs)
  copy_all i = as_copy e (All fs) (form.All es) (form.All fs) (ap (out-Expr VarId) i ∙ outs-All es) (outs-All fs)
      (r.all k)

  pub copy_any : e ≡ Any es → IsCopy e (Any fs)
  copy_any i = as_copy e (Any fs) (form.Any es) (form.Any fs) (ap (out-Expr VarId) i ∙ outs-Any es) (outs-Any fs)
      (r.any k)

  pub copy_product : e ≡ Product es → IsCopy e (Product fs)
  copy_product i = as_copy e (Product fs) (form.Product es) (form.Product fs) (ap (out-Expr VarId) i ∙ outs-Product es)
      (outs-Product fs) (r.product k)

  pub copy_least : e ≡ Least es → IsCopy e (Least fs)
  copy_least i = as_copy e (Least fs) (form.Least es) (form.Least fs) (ap (out-Expr VarId) i ∙ outs-Least es)
      (outs-Least fs) (r.least k)

  pub copy_greatest : e ≡ Greatest es → IsCopy e (Greatest fs)
  copy_greatest i = as_copy e (Greatest fs) (form.Greatest es) (form.Greatest fs)
      (ap (out-Expr VarId) i ∙ outs-Greatest es) (outs-Greatest fs) (r.greatest k)

  pub copy_count : e ≡ Count es → IsCopy e (Count fs)
  copy_count i = as_copy e (Count fs) (form.Count es) (form.Count fs) (ap (out-Expr VarId) i ∙ outs-Count es)
      (outs-Count fs) (r.count k)

pub copy_sum : (e : Expr VarId) (ps qs : Vec (Bool × Expr VarId) Global) → AreTermCopies ps.items qs.items → e ≡ Sum ps
    → IsCopy e (Sum qs)
copy_sum e ps qs k i = as_copy e (Sum qs) (form.Sum ps) (form.Sum qs) (ap (out-Expr VarId) i ∙ outs-Sum ps)
    (outs-Sum qs) (r.sum k)

pub copy_choice : (e : Expr VarId) (cs ds : Vec (Expr VarId × Expr VarId) Global) (a b : Box (Expr VarId) Global)
    → AreCaseCopies cs.items ds.items → IsCopy a.value b.value → e ≡ Choose cs a → IsCopy e (Choose ds b)
copy_choice e cs ds a b k l i = as_copy e (Choose ds b) (form.Choose cs a) (form.Choose ds b)
    (ap (out-Expr VarId) i ∙ outs-Choose cs a) (outs-Choose ds b) (r.choice k l)

-- one more item
all_more : (a b : Expr VarId) {es fs : List (Expr VarId)} → AreCopies es fs → IsCopy a b
    → AreCopies (es ++ a ∷ []) (fs ++ b ∷ [])
all_more a b r.none k = r.one_and k r.none
all_more a b (r.one_and q qs) k = r.one_and q (all_more a b qs k)

terms_more : (plus : Bool) (a b : Expr VarId) {es fs : List (Bool × Expr VarId)} → AreTermCopies es fs → IsCopy a b
    → AreTermCopies (es ++ (plus, a) ∷ []) (fs ++ (plus, b) ∷ [])
terms_more plus a b r.no_part k = r.part k r.no_part
terms_more plus a b (r.part q qs) k = r.part q (terms_more plus a b qs k)

cases_more : (a b c d : Expr VarId) {es fs : List (Expr VarId × Expr VarId)} → AreCaseCopies es fs → IsCopy a c
    → IsCopy b d → AreCaseCopies (es ++ (a, b) ∷ []) (fs ++ (c, d) ∷ [])
cases_more a b c d r.no_case k l = r.case_and k l r.no_case
cases_more a b c d (r.case_and p q qs) k l = r.case_and p q (cases_more a b c d qs k l)

-- the items before the next place and the next item are those before the place after it
front_more : {A B : Type 0} (R : List A → List B → Type 0) (xs : List A) (i : ℕ) (x : A) (ys : List B) → i < length xs
    → x ≡ get_or xs i x → R (take i xs ++ x ∷ []) ys → R (take (i + 1) xs) ys
front_more R xs i x ys h e k = subst (λ z. R z ys) (sym (take_more xs i x h ∙ ap (λ z. take i xs ++ z ∷ []) (sym e))) k

pub copies_next : (xs : List (Expr VarId)) (i : ℕ) (x y : Expr VarId) (ys zs : List (Expr VarId)) → i < length xs
    → x ≡ get_or xs i x → AreCopies (take i xs) ys → IsCopy x y → zs ≡ ys ++ y ∷ []
    → AreCopies (take (i + 1) xs) zs
copies_next xs i x y ys zs h e k c j =
    subst (λ z. AreCopies (take (i + 1) xs) z) (sym j)
    (front_more AreCopies xs i x (ys ++ y ∷ []) h e (all_more x y k c))

pub terms_next : (xs : List (Bool × Expr VarId)) (i : ℕ) (x : Bool × Expr VarId) (y : Expr VarId)
    (ys zs : List (Bool × Expr VarId)) → i < length xs → x ≡ get_or xs i x → AreTermCopies (take i xs) ys → IsCopy x.1 y
    → zs ≡ ys ++ (x.0, y) ∷ [] → AreTermCopies (take (i + 1) xs) zs
terms_next xs i (plus, x) y ys zs h e k c j =
    subst (λ z. AreTermCopies (take (i + 1) xs) z) (sym j)
    (front_more AreTermCopies xs i (plus, x) (ys ++ (plus, y) ∷ []) h e (terms_more plus x y k c))

pub cases_next : (xs : List (Expr VarId × Expr VarId)) (i : ℕ) (x : Expr VarId × Expr VarId) (y z : Expr VarId)
    (ys zs : List (Expr VarId × Expr VarId)) → i < length xs → x ≡ get_or xs i x → AreCaseCopies (take i xs) ys
    → IsCopy x.0 y → IsCopy x.1 z → zs ≡ ys ++ (y, z) ∷ [] → AreCaseCopies (take (i + 1) xs) zs
cases_next xs i (a, b) y z ys zs h e k c d j =
    subst (λ z. AreCaseCopies (take (i + 1) xs) z) (sym j)
    (front_more AreCaseCopies xs i (a, b) (ys ++ (y, z) ∷ []) h e (cases_more a b y z k c d))

-- nothing is left
pub all_read : {A B : Type 0} (R : List A → List B → Type 0) (xs : List A) (i : ℕ) (ys : List B) → length xs ≤ i
    → R (take i xs) ys → R xs ys
all_read R xs i ys h k = subst (λ z. R z ys) (take_all i xs h) k

-- nothing is read yet
pub copies_start : (ys : List (Expr VarId)) → ys ≡ [] → AreCopies [] ys
copies_start ys j = subst (λ z. AreCopies [] z) (sym j) r.none

pub terms_start : (ys : List (Bool × Expr VarId)) → ys ≡ [] → AreTermCopies [] ys
terms_start ys j = subst (λ z. AreTermCopies [] z) (sym j) r.no_part

pub cases_start : (ys : List (Expr VarId × Expr VarId)) → ys ≡ [] → AreCaseCopies [] ys
cases_start ys j = subst (λ z. AreCaseCopies [] z) (sym j) r.no_case

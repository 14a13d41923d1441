-- Expressions that agree have forms that agree.
use Rattle.std.proofs.Common.{◌≡◌, ℕ, zero, suc, List, [], ◌∷◌, Vec, Global, refl, sym, subst}
use Rattle.ar_base.specs.Lists.{Along, none, one_and}
use Rattle.ar_syntax.specs.declared.paths.Path.{Path}
use Rattle.ar_syntax.specs.declared.expressions.RawExpr.{RawExpr}
use Rattle.ar_syntax.specs.declared.expressions.RawForm.{RawForm, out-RawForm}
use Rattle.ar_syntax.specs.declared.expressions.RawForm.TheOpen as form
use Rattle.ar_syntax.proofs.Opened.{form-path, form-not, form-minus, form-all, form-any, form-product, form-least}
use Rattle.ar_syntax.proofs.Opened.{form-greatest, form-count, form-compare, form-sum, form-choice}
use Rattle.parser_laws.specs.Expressions.{SamePath, ListedForm, all, any, product, least, greatest, count, listed_form}
use Rattle.parser_laws.specs.Expressions.{SameParts, equal, path, negation, minus, listed, compared, sum, choice}
use Rattle.parser_laws.specs.Expressions.{SameToDepth, SameExpr}
use Rattle.parser_laws.specs.Opened.{ExprForm, SameFormBy, SameForm}
use Rattle.parser_laws.proofs.Agreeing.{along_map}

-- Lists

pub along_self : {X : Type 0} {R : X → X → Type 0} → ((x : X) → R x x) → (xs : List X) → Along R xs xs
along_self r [] = none
along_self r (x ∷ xs) = one_and (r x) (along_self r xs)

along_head : {X : Type 0} {R : X → X → Type 0} {x y : X} {xs ys : List X} → Along R (x ∷ xs) (y ∷ ys) → R x y
along_head (one_and r more) = r

along_tail : {X : Type 0} {R : X → X → Type 0} {x y : X} {xs ys : List X} → Along R (x ∷ xs) (y ∷ ys) → Along R xs ys
along_tail (one_and r more) = more

-- lists that are related at each number
pub along_all : {X : Type 0} (R : ℕ → X → X → Type 0) (xs ys : List X) → ((d : ℕ) → Along (R d) xs ys)
    → Along (λ x y. (d : ℕ) → R d x y) xs ys
along_all R [] [] h = none
along_all R [] (y ∷ ys) h = elim (h 0) [ ]
along_all R (x ∷ xs) [] h = elim (h 0) [ ]
along_all R (x ∷ xs) (y ∷ ys) h = one_and (λ d. along_head (h d)) (along_all R xs ys (λ d. along_tail (h d)))

-- What agrees with itself

pub path_self : (p : Path) → SamePath p p
path_self p = record { start = refl; names = refl; place = refl }

pub expr_self : (d : ℕ) (e : RawExpr) → SameToDepth d e e
expr_self zero e = tt
expr_self (suc d) e = (refl, refl, equal refl)

module _ (Same : RawExpr → RawExpr → Type 0) (self : (e : RawExpr) → Same e e) where
  form_self : (f : ExprForm) → SameFormBy Same f f
  form_self (form.Truth b) = refl
  form_self (form.Whole n) = refl
  form_self form.Real = tt
  form_self (form.Path p) = path_self p
  form_self (form.Not x) = self x.value
  form_self (form.Minus x) = self x.value
  form_self (form.All v) = along_self self v.items
  form_self (form.Any v) = along_self self v.items
  form_self (form.Compare r x y) = (refl, self x.value, self y.value)
  form_self (form.Sum v) = along_self (λ s. (refl, self s.1)) v.items
  form_self (form.Product v) = along_self self v.items
  form_self (form.Least v) = along_self self v.items
  form_self (form.Greatest v) = along_self self v.items
  form_self (form.Count v) = along_self self v.items
  form_self (form.Choose v x) = (along_self (λ s. (self s.0, self s.1)) v.items, self x.value)

  -- Opened forms

  both : (f g x y : ExprForm) → f ≡ x → g ≡ y → SameFormBy Same x y → SameFormBy Same f g
  both f g x y p q s =
      subst (λ (z : ExprForm). SameFormBy Same z g) (sym p) (subst (λ (z : ExprForm). SameFormBy Same x z) (sym q) s)

  listed_forms : (k : ListedForm) (f g : RawForm) (v w : Vec RawExpr Global) → f ≡ listed_form k v → g ≡ listed_form k w
      → Along Same v.items w.items
      → SameFormBy Same (out-RawForm f) (out-RawForm g)
  listed_forms all f g v w p q s = both _ _ _ _ (form-all f v p) (form-all g w q) s
  listed_forms any f g v w p q s = both _ _ _ _ (form-any f v p) (form-any g w q) s
  listed_forms product f g v w p q s = both _ _ _ _ (form-product f v p) (form-product g w q) s
  listed_forms least f g v w p q s = both _ _ _ _ (form-least f v p) (form-least g w q) s
  listed_forms greatest f g v w p q s = both _ _ _ _ (form-greatest f v p) (form-greatest g w q) s
  listed_forms count f g v w p q s = both _ _ _ _ (form-count f v p) (form-count g w q) s

  parts_forms : (f g : RawForm) → SameParts Same f g → SameFormBy Same (out-RawForm f) (out-RawForm g)
  parts_forms f g (equal e) =
      subst (λ (h : RawForm). SameFormBy Same (out-RawForm f) (out-RawForm h)) e (form_self (out-RawForm f))
  parts_forms f g (path p q x y s) = both _ _ _ _ (form-path f p x) (form-path g q y) s
  parts_forms f g (negation x y p q s) = both _ _ _ _ (form-not f x p) (form-not g y q) s
  parts_forms f g (minus x y p q s) = both _ _ _ _ (form-minus f x p) (form-minus g y q) s
  parts_forms f g (listed k v w p q s) = listed_forms k f g v w p q s
  parts_forms f g (compared r x y z u p q s t) =
      both _ _ _ _ (form-compare f r x y p) (form-compare g r z u q) (refl, s, t)
  parts_forms f g (sum v w p q s) = both _ _ _ _ (form-sum f v p) (form-sum g w q) s
  parts_forms f g (choice v w x y p q s t) = both _ _ _ _ (form-choice f v x p) (form-choice g w y q) (s, t)

-- forms that are alike to each depth
forms_all : (f g : ExprForm) → ((d : ℕ) → SameFormBy (SameToDepth d) f g) → SameForm f g
forms_all (form.Truth b) (form.Truth c) h = h 0
forms_all (form.Whole n) (form.Whole m) h = h 0
forms_all form.Real form.Real h = tt
forms_all (form.Path p) (form.Path q) h = h 0
forms_all (form.Not x) (form.Not y) h = h
forms_all (form.Minus x) (form.Minus y) h = h
forms_all (form.All v) (form.All w) h = along_all SameToDepth v.items w.items h
forms_all (form.Any v) (form.Any w) h = along_all SameToDepth v.items w.items h
forms_all (form.Compare r x y) (form.Compare s z u) h = ((h 0).0, λ d. (h d).1, λ d. (h d).2)
forms_all (form.Sum v) (form.Sum w) h = along_map (λ s t k. ((k 0).0, λ d. (k d).1))
    (along_all (λ d s t. (s.0 ≡ t.0) × SameToDepth d s.1 t.1) v.items w.items h)
forms_all (form.Product v) (form.Product w) h = along_all SameToDepth v.items w.items h
forms_all (form.Least v) (form.Least w) h = along_all SameToDepth v.items w.items h
forms_all (form.Greatest v) (form.Greatest w) h = along_all SameToDepth v.items w.items h
forms_all (form.Count v) (form.Count w) h = along_all SameToDepth v.items w.items h
forms_all (form.Choose v x) (form.Choose w y) h = (
  along_map (λ s t k. (λ d. (k d).0, λ d. (k d).1))
      (along_all (λ d s t. SameToDepth d s.0 t.0 × SameToDepth d s.1 t.1) v.items w.items (λ d. (h d).0)),
  λ d. (h d).1,
)
forms_all _ _ h = h 0

pub expr_opened : (e f : RawExpr) → SameExpr e f → SameForm (out-RawForm e.form) (out-RawForm f.form)
expr_opened e f s =
    forms_all (out-RawForm e.form) (out-RawForm f.form)
    (λ d. parts_forms (SameToDepth d) (expr_self d) e.form f.form (s (suc d)).2)

-- Expressions whose forms agree, in one place, agree.
use Rattle.std.proofs.Common.{◌≡◌, ℕ, zero, suc, Bool, Box, Vec, Global, refl, sym, ap, ◌∙◌}
use Rattle.std.specs.Prelude.{ℤ}
use Rattle.ar_syntax.specs.declared.paths.Path.{Path}
use Rattle.ar_syntax.specs.declared.expressions.RawExpr.{RawExpr}
use Rattle.ar_syntax.specs.declared.expressions.RawRelation.{RawRelation}
use Rattle.ar_syntax.specs.declared.expressions.RawForm.{RawForm, out-RawForm, roll-RawForm, roll-out-RawForm}
use Rattle.ar_syntax.specs.declared.expressions.RawForm.TheOpen as open_form
use Rattle.ar_syntax.specs.declared.expressions.RawForm.TheVariants as form
use Rattle.parser_laws.specs.Expressions.{all, any, product, least, greatest, count, SameParts, SameToDepth, SameExpr}
use Rattle.parser_laws.specs.Expressions as agree
use Rattle.parser_laws.specs.Opened.{ExprForm, SameForm}
use Rattle.parser_laws.proofs.Agreeing.{along_map}

-- a form is what it opens to, closed again
rolled : (f : RawForm) (x : ExprForm) → out-RawForm f ≡ x → f ≡ roll-RawForm x
rolled f x e = sym (roll-out-RawForm f) ∙ ap roll-RawForm e

of-truth : (f : RawForm) (b : Bool) → out-RawForm f ≡ open_form.Truth b → f ≡ form.Truth b
unfolding roll-RawForm denote.Hole.Carrier.roll
of-truth f b e = rolled f (open_form.Truth b) e

of-whole : (f : RawForm) (n : ℤ) → out-RawForm f ≡ open_form.Whole n → f ≡ form.Whole n
unfolding roll-RawForm denote.Hole.Carrier.roll
of-whole f n e = rolled f (open_form.Whole n) e

of-real : (f : RawForm) → out-RawForm f ≡ open_form.Real → f ≡ form.Real
unfolding roll-RawForm denote.Hole.Carrier.roll
of-real f e = rolled f (open_form.Real) e

of-path : (f : RawForm) (p : Path) → out-RawForm f ≡ open_form.Path p → f ≡ form.Path p
unfolding roll-RawForm denote.Hole.Carrier.roll
of-path f p e = rolled f (open_form.Path p) e

of-not : (f : RawForm) (x : Box RawExpr Global) → out-RawForm f ≡ open_form.Not x → f ≡ form.Not x
of-not f x e = rolled f (open_form.Not x) e ∙ form.rolls-Not x

of-minus : (f : RawForm) (x : Box RawExpr Global) → out-RawForm f ≡ open_form.Minus x → f ≡ form.Minus x
of-minus f x e = rolled f (open_form.Minus x) e ∙ form.rolls-Minus x

of-all : (f : RawForm) (es : Vec RawExpr Global) → out-RawForm f ≡ open_form.All es → f ≡ form.All es
of-all f es e = rolled f (open_form.All es) e ∙ form.rolls-All es

of-any : (f : RawForm) (es : Vec RawExpr Global) → out-RawForm f ≡ open_form.Any es → f ≡ form.Any es
of-any f es e = rolled f (open_form.Any es) e ∙ form.rolls-Any es

of-compare : (f : RawForm) (r : RawRelation) (x y : Box RawExpr Global) → out-RawForm f ≡ open_form.Compare r x y
    → f ≡ form.Compare r x y
of-compare f r x y e = rolled f (open_form.Compare r x y) e ∙ form.rolls-Compare r x y

of-sum : (f : RawForm) (ts : Vec (Bool × RawExpr) Global) → out-RawForm f ≡ open_form.Sum ts → f ≡ form.Sum ts
of-sum f ts e = rolled f (open_form.Sum ts) e ∙ form.rolls-Sum ts

of-product : (f : RawForm) (es : Vec RawExpr Global) → out-RawForm f ≡ open_form.Product es → f ≡ form.Product es
of-product f es e = rolled f (open_form.Product es) e ∙ form.rolls-Product es

of-least : (f : RawForm) (es : Vec RawExpr Global) → out-RawForm f ≡ open_form.Least es → f ≡ form.Least es
of-least f es e = rolled f (open_form.Least es) e ∙ form.rolls-Least es

of-greatest : (f : RawForm) (es : Vec RawExpr Global) → out-RawForm f ≡ open_form.Greatest es → f ≡ form.Greatest es
of-greatest f es e = rolled f (open_form.Greatest es) e ∙ form.rolls-Greatest es

of-count : (f : RawForm) (es : Vec RawExpr Global) → out-RawForm f ≡ open_form.Count es → f ≡ form.Count es
of-count f es e = rolled f (open_form.Count es) e ∙ form.rolls-Count es

of-choose : (f : RawForm) (cs : Vec (RawExpr × RawExpr) Global) (other : Box RawExpr Global)
    → out-RawForm f ≡ open_form.Choose cs other → f ≡ form.Choose cs other
of-choose f cs other e = rolled f (open_form.Choose cs other) e ∙ form.rolls-Choose cs other

-- forms that agree are alike to each depth
module _ (d : ℕ) (f g : RawForm) where
  parts_of : (x y : ExprForm) → out-RawForm f ≡ x → out-RawForm g ≡ y → SameForm x y → SameParts (SameToDepth d) f g
  parts_of (open_form.Truth b) (open_form.Truth c) p q s =
      agree.equal (of-truth f b p ∙ ap form.Truth s ∙ sym (of-truth g c q))
  parts_of (open_form.Whole n) (open_form.Whole m) p q s =
      agree.equal (of-whole f n p ∙ ap form.Whole s ∙ sym (of-whole g m q))
  parts_of open_form.Real open_form.Real p q s = agree.equal (of-real f p ∙ sym (of-real g q))
  parts_of (open_form.Path x) (open_form.Path y) p q s = agree.path x y (of-path f x p) (of-path g y q) s
  parts_of (open_form.Not x) (open_form.Not y) p q s = agree.negation x y (of-not f x p) (of-not g y q) (s d)
  parts_of (open_form.Minus x) (open_form.Minus y) p q s = agree.minus x y (of-minus f x p) (of-minus g y q) (s d)
  parts_of (open_form.All v) (open_form.All w) p q s =
      agree.listed all v w (of-all f v p) (of-all g w q) (along_map (λ x y h. h d) s)
  parts_of (open_form.Any v) (open_form.Any w) p q s =
      agree.listed any v w (of-any f v p) (of-any g w q) (along_map (λ x y h. h d) s)
  parts_of (open_form.Compare r x y) (open_form.Compare r' z u) p q s =
      agree.compared r x y z u (of-compare f r x y p) (of-compare g r' z u q
      ∙ ap (λ (k : RawRelation). form.Compare k z u) (sym s.0)) (s.1 d) (s.2 d)
  parts_of (open_form.Sum v) (open_form.Sum w) p q s =
      agree.sum v w (of-sum f v p) (of-sum g w q) (along_map (λ x y h. (h.0, h.1 d)) s)
  parts_of (open_form.Product v) (open_form.Product w) p q s =
      agree.listed product v w (of-product f v p) (of-product g w q) (along_map (λ x y h. h d) s)
  parts_of (open_form.Least v) (open_form.Least w) p q s =
      agree.listed least v w (of-least f v p) (of-least g w q) (along_map (λ x y h. h d) s)
  parts_of (open_form.Greatest v) (open_form.Greatest w) p q s =
      agree.listed greatest v w (of-greatest f v p) (of-greatest g w q) (along_map (λ x y h. h d) s)
  parts_of (open_form.Count v) (open_form.Count w) p q s =
      agree.listed count v w (of-count f v p) (of-count g w q) (along_map (λ x y h. h d) s)
  parts_of (open_form.Choose v x) (open_form.Choose w y) p q s =
      agree.choice v w x y (of-choose f v x p) (of-choose g w y q) (along_map (λ s t h. (h.0 d, h.1 d)) s.0) (s.1 d)
  parts_of _ _ p q s = absurd s

pub expr_closed : (e f : RawExpr) → e.at ≡ f.at → e.span ≡ f.span
    → SameForm (out-RawForm e.form) (out-RawForm f.form) → SameExpr e f
expr_closed e f p q s zero = tt
expr_closed e f p q s (suc d) = (p, q, parts_of d e.form f.form (out-RawForm e.form) (out-RawForm f.form) refl refl s)

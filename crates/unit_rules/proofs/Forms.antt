-- The sizes of sums and choices.
use Rattle.std.proofs.Common.{◌≡◌, ◌+◌, ℕ, map, sum, List, Bool, ap, ◌∙◌, Vec, Box, Global}
use Rattle.std.proofs.lemmas.Simd.{map-map}
use Rattle.ar_syntax.specs.declared.expressions.RawExpr.{RawExpr}
use Rattle.ar_syntax.specs.declared.expressions.RawForm.{RawForm, out-RawForm}
use Rattle.ar_syntax.specs.declared.expressions.RawForm.TheOpen as form
use Rattle.ar_syntax.specs.declared.expressions.RawForm.TheOpen.{RawForm-F}
use Rattle.ar_syntax.specs.declared.expressions.RawForm.TheFolds.{fold-RawForm, fold_out-RawExpr, fold_out-RawForm, map-RawForm}
use Rattle.ar_syntax.specs.declared.expressions.RawForm.TheViews.{Sum, Choose, outs-Sum, outs-Choose}
use Rattle.unit_rules.specs.Sizes.{expr_size, form_size}

-- the size of an expression of this form
arm : (e : RawExpr) (x : RawForm-F RawForm RawExpr) → out-RawForm e.form ≡ x
    → expr_size e ≡ form_size (map-RawForm RawForm RawExpr ℕ ℕ (fold-RawForm ℕ ℕ form_size (λ z. z.form)) expr_size x)
arm e x i =
    fold_out-RawExpr ℕ ℕ form_size (λ z. z.form) e
    ∙ (fold_out-RawForm ℕ ℕ form_size (λ z. z.form) e.form
    ∙ ap (λ (y : RawForm-F RawForm RawExpr). form_size
    (map-RawForm RawForm RawExpr ℕ ℕ (fold-RawForm ℕ ℕ form_size (λ z. z.form)) expr_size y)) i)

pub sum_size : (e : RawExpr) (ps : Vec (Bool × RawExpr) Global) → e.form ≡ Sum ps
    → expr_size e ≡ 1 + sum (map (λ (p : Bool × RawExpr). expr_size p.1) ps.items)
sum_size e ps i =
    arm e (form.Sum ps) (ap out-RawForm i ∙ outs-Sum ps)
    ∙ ap (λ (ns : List ℕ). 1 + sum ns)
    (map-map (λ (p : Bool × ℕ). p.1) (λ (p : Bool × RawExpr). (p.0, expr_size p.1)) ps.items)

pub choice_size : (e : RawExpr) (cs : Vec (RawExpr × RawExpr) Global) (other : Box RawExpr Global)
    → e.form ≡ Choose cs other
    → expr_size e ≡ 1 + (sum (map (λ (c : RawExpr × RawExpr). expr_size c.0 + expr_size c.1) cs.items) + expr_size
    other.value)
choice_size e cs other i =
    arm e (form.Choose cs other) (ap out-RawForm i ∙ outs-Choose cs other)
    ∙ ap (λ (ns : List ℕ). 1 + (sum ns + expr_size other.value))
    (map-map (λ (c : ℕ × ℕ). c.0 + c.1) (λ (c : RawExpr × RawExpr). (expr_size c.0, expr_size c.1)) cs.items)

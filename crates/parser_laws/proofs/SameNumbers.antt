-- Agreement tells numbers apart.
use Rattle.std.proofs.Common.{◌≡◌, sym, ◌∙◌}
use Rattle.std.specs.Prelude.{ℤ}
use Rattle.ar_syntax.specs.declared.expressions.RawExpr.{RawExpr}
use Rattle.ar_syntax.specs.declared.expressions.RawForm.{RawForm}
use Rattle.ar_syntax.specs.declared.expressions.RawForm.TheVariants as form
use Rattle.parser_laws.specs.Expressions.{ListedForm, all, any, product, least, greatest, count, listed_form, SameParts, equal, path, negation, minus, listed, compared, sum, choice}

no_list : (k : ListedForm) (v : _) (n : ℤ) → listed_form k v ≡ form.Whole n → ⊥
no_list all v n e = absurd (cc)
no_list any v n e = absurd (cc)
no_list product v n e = absurd (cc)
no_list least v n e = absurd (cc)
no_list greatest v n e = absurd (cc)
no_list count v n e = absurd (cc)

whole_in : (n m : ℤ) → form.Whole n ≡ form.Whole m → n ≡ m
whole_in n m e = cc

pub one_number : {Same : RawExpr → RawExpr → Type 0} (f g : RawForm) (n m : ℤ) → SameParts Same f g → f ≡ form.Whole n
    → g ≡ form.Whole m → n ≡ m
one_number f g n m (equal e) u w = whole_in n m (sym u ∙ e ∙ w)
one_number f g n m (path p q x y s) u w = let z : form.Path p ≡ form.Whole n = sym x ∙ u in absurd (cc)
one_number f g n m (negation p q x y s) u w = let z : form.Not p ≡ form.Whole n = sym x ∙ u in absurd (cc)
one_number f g n m (minus p q x y s) u w = let z : form.Minus p ≡ form.Whole n = sym x ∙ u in absurd (cc)
one_number f g n m (listed k v v' x y s) u w = absurd (no_list k v n (sym x ∙ u))
one_number f g n m (compared r p q p' q' x y s t) u w = let z : form.Compare r p q ≡ form.Whole n = sym x ∙ u in absurd (cc)
one_number f g n m (sum v v' x y s) u w = let z : form.Sum v ≡ form.Whole n = sym x ∙ u in absurd (cc)
one_number f g n m (choice v v' p q x y s t) u w = let z : form.Choose v p ≡ form.Whole n = sym x ∙ u in absurd (cc)

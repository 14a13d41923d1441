-- A value that is written as a number.
use Rattle.std.proofs.Common.{◌≡◌, ℤ, Some, sym, subst}
use Rattle.ar_syntax.specs.declared.expressions.RawForm.TheOpen as raw
use Rattle.domains.specs.declared.Value.TheVariants as v
use Rattle.typed_expr.specs.Yields.{Yields, constant}
use Rattle.typed_expr.specs.declared.expr.Expr.{out-Expr, roll-Expr, out-roll-Expr}
use Rattle.typed_expr.specs.declared.expr.Expr.TheOpen.{Constant}
use Rattle.hierarchy.specs.Models.{RootedModel}
use Rattle.hierarchy.specs.Units.{Thing}
use Rattle.hierarchy.specs.Settings.{Attribute, in_force}
use Rattle.source_meaning.specs.Means.{Means, ValueOf, whole, value, no_facts}
use Rattle.written_forms.specs.Operands.{level_of}

pub number_value : (m : RootedModel) (t : Thing) (a : Attribute) (n : ℤ) → in_force m t ≡ Some a
    → level_of a.value ≡ raw.Whole n → ValueOf m t (v.Whole n)
number_value m t a n e w =
    let rolled = sym (out-roll-Expr Thing (Constant (v.Whole n))) in
    value a (roll-Expr Thing (Constant (v.Whole n))) e
    (subst (λ l. Means m a.unit l (out-Expr Thing (roll-Expr Thing (Constant (v.Whole n))))) (sym w)
    (subst (λ l. Means m a.unit (raw.Whole n) l) rolled whole))
    (subst (λ l. Yields no_facts l (v.Whole n)) rolled constant)

use Rattle.std.proofs.Common.{ℤ, sym, subst}
use Rattle.std.specs.Int.{w64}
use Rattle.std.proofs.lemmas.Int.{to_z-of_z}
use Rattle.domains.specs.declared.Value.TheVariants as value
use Rattle.typed_expr.specs.declared.expr.ValueKind.TheVariants as kind
use Rattle.job_inputs.specs.Wanting.{WritesValue}
use Rattle.job_inputs.specs.Wanting as w
use Rattle.job_inputs.proofs.values.whole.Goals as goal

pub returns-in-text : goal.returns-in-text
returns-in-text c = λ symbols. w.less_zero c.in-text.is

pub returns-in_ok-number-in_default : goal.returns-in_ok-number-in_default
returns-in_ok-number-in_default c = λ symbols.
    let f = c.in_ok-number-in_default.ensures.found in
    subst (λ (z : ℤ). WritesValue symbols c.args.word.now kind.Whole (value.Whole z)) (sym (to_z-of_z w64 _ f.0))
    (w.whole f.0 f.1)

use Rattle.std.proofs.Common.{sym, ◌∙◌}
use Rattle.typed_expr.proofs.Ends.{goes-past}
use Rattle.typed_expr.proofs.value_set.is_past.Goals as goal

pub returns-in-Some : goal.returns-in-Some
returns-in-Some c = λ t. goes-past c.args.values.now c.in-Some.last.now c.args.v c.requires (sym c.in-Some.ensures.value)
    (sym c.before-in-Some.ensures ∙ t)

use Rattle.std.proofs.Common.{Some, subst}
use Rattle.typed_expr.specs.Sets.{Stopped}
use Rattle.typed_expr.specs.YieldsInside.{facts_of}
use Rattle.typed_expr.specs.Possible.{IsWide}
use Rattle.typed_expr.specs.declared.expr.Expr.{out-Expr}
use Rattle.typed_expr.specs.declared.value_set.Stop.{Stop}
use Rattle.typed_expr.proofs.possible.possible_values.Goals as goal

pub returns-in-Err-TooMany-clause-yields : goal.returns-in-Err-TooMany-clause-yields
returns-in-Err-TooMany-clause-yields g c =
    let facts = facts_of (g.E.Env.facts_at c.args.env.now) in
    subst
    (λ (s : Stop). Stopped (Some c.args.most) (λ n. IsWide facts n (out-Expr g.row.V.Denot c.args.expr.now)) s)
    c.in-Err-TooMany.field-0-is c.in-Err-TooMany.ensures

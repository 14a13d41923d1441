use Rattle.std.proofs.Common.{List, Result, Ok, Err, Contains}
use Rattle.domains.specs.declared.Value.{Value}
use Rattle.typed_expr.specs.Sets.{Gathers}
use Rattle.typed_expr.specs.declared.value_set.Stop.{Stop}
use Rattle.typed_expr.proofs.Gathering.{err-same, gathered-as}
use Rattle.typed_expr.proofs.sets.set_of.Goals as goal

pub returns-in_err-out : goal.returns-in_err-out
returns-in_err-out c =
    err-same
    (λ (r : Result (List Value) Stop). Gathers c.args.most r (Contains c.args.values.now)) c.from_residual.result
    c.in_err-out.field-0.0 c.from_residual.ensures.1
    (gathered-as c.args.most c.new.result c.args.values.now (Err c.in_err-out.field-0.0) c.new.ensures
    c.in_err-out.ensures)

pub returns : goal.returns
returns c =
    gathered-as c.args.most c.new.result c.args.values.now (Ok c.in_ok-out.out) c.new.ensures c.in_ok-out.ensures

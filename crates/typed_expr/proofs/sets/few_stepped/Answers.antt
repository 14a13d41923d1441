use Rattle.std.proofs.Common.{List, Result, get_or, refl, false}
use Rattle.domains.specs.declared.Value.{Value}
use Rattle.domains.specs.declared.Value.TheVariants.{Truth}
use Rattle.typed_expr.specs.Sets.{Gathers}
use Rattle.typed_expr.specs.Evaluating.{IsNextOperand}
use Rattle.typed_expr.specs.declared.value_set.Stop.{Stop}
use Rattle.typed_expr.proofs.Gathering.{err-same, numbers-more, numbers-refused}
use Rattle.typed_expr.proofs.sets.few_stepped.Goals as goal

pub returns-in_err-more : goal.returns-in_err-more
returns-in_err-more c =
    err-same
    (λ (r : Result (List Value) Stop). Gathers c.args.most r
    (IsNextOperand c.args.step c.args.first c.args.numbers.now c.args.values.now))
    c.from_residual.result c.in_err-more.field-0.0 c.from_residual.ensures.1
    (numbers-refused c.args.most c.args.step c.args.first c.args.numbers.now c.args.values.now c.loop-n.set
    c.loop-n.n-index (Truth false)
    (get_or c.args.numbers.now c.loop-n.n-index (Truth false)) c.in_err-more.field-0.0 c.loop-n-test.true refl
    c.loop-n.invariant.0 c.in_err-more.ensures)

pub loop-n-preserved : goal.loop-n-preserved
loop-n-preserved c =
    numbers-more c.args.most c.args.step c.args.first c.args.numbers.now c.args.values.now c.loop-n.set
    c.in_ok-more.more c.loop-n.n-index
    (Truth false)
    (get_or c.args.numbers.now c.loop-n.n-index (Truth false)) c.loop-n-test.true refl c.loop-n.invariant.0
    c.in_ok-more.ensures

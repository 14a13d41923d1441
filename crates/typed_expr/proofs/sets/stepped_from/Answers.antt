use Rattle.std.proofs.Common.{List, [], ◌∷◌, Result, ◌⊎◌, Contains}
use Rattle.domains.specs.declared.Value.{Value}
use Rattle.typed_expr.specs.Sets.{Gathers}
use Rattle.typed_expr.specs.Evaluating.{IsNextOperand}
use Rattle.typed_expr.specs.declared.value_set.Stop.{Stop}
use Rattle.typed_expr.proofs.Gathering.{err-same, stepped-more, stepped-refused, stepped-end}
use Rattle.typed_expr.proofs.sets.stepped_from.Goals as goal

pub returns-in_err-put : goal.returns-in_err-put
returns-in_err-put c =
    err-same
    (λ (r : Result (List Value) Stop). Gathers c.args.most r
    (λ v. Contains c.args.set v ⊎ IsNextOperand c.args.step c.args.first (c.args.n ∷ []) c.args.values.now v))
    c.from_residual.result c.in_err-put.field-0.0 c.from_residual.ensures.1
    (stepped-refused c.args.most c.args.step c.args.first c.args.n c.next_value.result c.args.set c.loop-v.set
    c.args.values.now c.loop-v.v-index _ c.in_err-put.field-0.0 c.loop-v-test.true
    c.loop-v.invariant c.next_value.ensures c.in_err-put.ensures.err)

pub loop-v-preserved : goal.loop-v-preserved
loop-v-preserved c =
    stepped-more c.args.most c.args.step c.args.first c.args.n c.next_value.result c.args.set c.loop-v.set
    c.put.new.self c.args.values.now c.loop-v.v-index _ c.loop-v-test.true
    c.loop-v.invariant c.next_value.ensures c.in_ok-put.ensures.ok

pub returns : goal.returns
returns c =
    stepped-end c.args.most c.args.step c.args.first c.args.n c.args.set c.loop-v.set c.args.values.now c.loop-v.v-index
    c.loop-v-test.false c.loop-v.invariant

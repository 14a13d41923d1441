use Rattle.std.proofs.Common.{true}
use Rattle.ar_base.proofs.Truths.{is_read, not_read}
use Rattle.typed_expr.specs.declared.expr.Relation.TheVariants.{Equal}
use Rattle.typed_expr.proofs.Ends.{item-related}
use Rattle.typed_expr.proofs.Gathering.{left-more}
use Rattle.typed_expr.proofs.relations.some_shared.Goals as goal

pub returns-then-is_among : goal.returns-then-is_among
returns-then-is_among c =
    item-related Equal c.args.left.now c.args.right.now c.loop-v.v-index _ c.loop-v-test.true
    (is_read c.is_among.result c.if-is_among.true c.is_among.ensures)

pub loop-v-preserved : goal.loop-v-preserved
loop-v-preserved c =
    left-more Equal c.args.left.now c.args.right.now true c.loop-v.v-index _ c.loop-v-test.true c.loop-v.invariant
    (not_read c.is_among.result c.if-is_among.false c.is_among.ensures)

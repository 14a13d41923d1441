use Rattle.typed_expr.proofs.Gathering.{results-start, results-more, results-end}
use Rattle.typed_expr.proofs.sets.add_results.Goals as goal

pub loop-n-init : goal.loop-n-init
loop-n-init c =
    results-start c.args.step c.args.first c.args.numbers.now c.args.v c.args.all.now.items

pub loop-n-preserved : goal.loop-n-preserved
loop-n-preserved c =
    results-more c.args.step c.args.first c.args.numbers.now c.args.v c.next_value.result c.args.all.now.items
    c.loop-n.all.items c.push.new.self.items c.loop-n.n-index _ c.loop-n-test.true c.loop-n.invariant
    c.next_value.ensures c.in_ok-push.ensures.items

pub returns : goal.returns
returns c =
    results-end c.args.step c.args.first c.args.numbers.now c.args.v c.args.all.now.items c.loop-n.all.items
    c.loop-n.n-index c.loop-n-test.false c.loop-n.invariant

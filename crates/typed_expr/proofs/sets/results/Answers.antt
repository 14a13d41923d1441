use Rattle.std.proofs.Common.{get_or, refl, false}
use Rattle.domains.specs.declared.Value.TheVariants.{Truth}
use Rattle.typed_expr.proofs.Gathering.{runs-start, runs-more, runs-end}
use Rattle.typed_expr.proofs.sets.results.Goals as goal

pub loop-v-init : goal.loop-v-init
loop-v-init c =
    runs-start c.args.step c.args.first c.args.numbers.now c.args.values.now c.new-all.result.items
    c.new-all.ensures.items

pub loop-v-preserved : goal.loop-v-preserved
loop-v-preserved c =
    runs-more c.args.step c.args.first c.args.numbers.now c.args.values.now c.loop-v.all.items
    c.add_results.new.all.items c.loop-v.v-index (Truth false) (get_or c.args.values.now c.loop-v.v-index (Truth false))
    c.loop-v-test.true refl c.loop-v.invariant c.in_ok-add_results.ensures

pub returns : goal.returns
returns c =
    runs-end c.args.step c.args.first c.args.numbers.now c.args.values.now c.loop-v.all.items c.sort.new.self.items
    c.loop-v.v-index c.loop-v-test.false c.loop-v.invariant c.sort.ensures.permutation

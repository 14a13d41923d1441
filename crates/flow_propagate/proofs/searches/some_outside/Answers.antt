use Rattle.std.proofs.Common.{rules}
use Rattle.domains.specs.Domains.{Holds}
use Rattle.flow_propagate.proofs.Values.{each_more, each_all}
use Rattle.flow_propagate.proofs.searches.some_outside.Goals as goal

pub loop-v-preserved : goal.loop-v-preserved
loop-v-preserved c = each_more (Holds c.args.domain.now) c.args.values.now c.loop-v.v-index _ c.loop-v-test.true
    c.loop-v.invariant (c.if-not-holds.ensures.0 (search rules))

pub returns : goal.returns
returns c = λ x. x.2 (each_all (Holds c.args.domain.now) c.args.values.now c.loop-v.v-index c.loop-v-test.false
    c.loop-v.invariant x.0 x.1)

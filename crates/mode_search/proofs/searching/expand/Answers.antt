use Rattle.std.proofs.Common.{length, arith}
use Rattle.domains.specs.Domains.{values_of}
use Rattle.mode_search.proofs.Reaching.{expands_start, expands_more, expands_all}
use Rattle.mode_search.proofs.searching.expand.Goals as goal

pub loop-way-init : goal.loop-way-init
loop-way-init c = expands_start c.args.parts.now c.args.variable.n (values_of c.args.domain.now) c.args.ways.now
    c.args.mode c.args.found.now

pub loop-way-preserved : goal.loop-way-preserved
loop-way-preserved c = expands_more c.args.parts.now c.args.variable.n (values_of c.args.domain.now) c.args.ways.now
    c.args.mode c.loop-way.way-index _ c.args.found.now c.loop-way.found c.add_move.new.found c.in_ok-led.led
    c.loop-way-test.true c.loop-way.invariant c.in_ok-led.ensures c.in_ok-add_move.ensures

pub returns : goal.returns
returns c = expands_all c.args.parts.now c.args.variable.n (values_of c.args.domain.now) c.args.ways.now c.args.mode
    c.loop-way.way-index (length c.args.ways.now) c.args.found.now c.loop-way.found (omega arith) c.loop-way.invariant

use Rattle.zdd_nodes.specs.Bounds.{EndsBelow}
use Rattle.zdd_nodes.proofs.Numbering.{all_more, number_stands}
use Rattle.zdd_nodes.proofs.bounds.first_with_event.Goals as goal

pub loop-number-preserved : goal.loop-number-preserved
loop-number-preserved c = record {
  each = all_more (EndsBelow c.args.store.now c.args.to) c.args.numbers.now
      c.loop-number.number-index _ c.loop-number-test.true c.loop-number.invariant.each
      c.in-None.ensures.halves;
}

pub returns-in-Some : goal.returns-in-Some
returns-in-Some c = record {
  is_entry = number_stands c.args.numbers.now c.loop-number.number-index _ c.loop-number-test.true;
  event = record { event = _; lo = _; hi = _; has = c.in-Some.ensures.halves };
}

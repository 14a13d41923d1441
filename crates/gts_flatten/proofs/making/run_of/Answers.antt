use Rattle.gts_flatten.proofs.Runs.{run_start, run_next, run_end, run_break}
use Rattle.gts_flatten.proofs.making.run_of.Goals as goal
use Rattle.gts_flatten.proofs.making.run_of.Goals.{else-loop-number-test, then-loop-number-test+then-plan-number}

pub loop-number-init : goal.loop-number-init
loop-number-init c = run_start c.args.plan.now c.args.event.n c.args.first c.new-numbers.result.items
    c.new-numbers.ensures.items

pub loop-number-preserved : goal.loop-number-preserved
loop-number-preserved c =
    run_next c.args.plan.now c.args.event.n c.args.first c.loop-number.number c.loop-number.numbers.items
    c.push.new.self.items c.new.result c.index-plan-number.result
    c.loop-number.invariant c.loop-number-test.true c.index-plan-number.is c.if-plan-number.false c.new.ensures
    c.in_ok-push.ensures.items

pub returns : goal.returns
returns c = elim c.loop-number-test.branch [
  | else-loop-number-test w ↦ run_end c.args.plan.now c.args.event.n c.args.first c.loop-number.number
      c.loop-number.numbers.items c.loop-number.invariant w.loop-number-test.false c.loop-number.auto.number-end
  | then-loop-number-test+then-plan-number w ↦ run_break c.args.plan.now c.args.event.n c.args.first
      c.loop-number.number c.loop-number.numbers.items w.index-plan-number.result c.loop-number.invariant
      w.loop-number-test.true w.if-plan-number.true
]

use Rattle.reason_text.proofs.Marks.{none_so_far, one_more, all_so_far}
use Rattle.reason_text.proofs.telling.marks_of.Goals as goal

pub loop-variable-init : goal.loop-variable-init
loop-variable-init c = none_so_far c.args.count c.in_ok-marks.marks.items (c.in_ok-marks.ensures.items_if_clones_equal (λ y e. e))

pub loop-variable-preserved : goal.loop-variable-preserved
loop-variable-preserved c =
    one_more c.args.count c.args.variables.now c.loop-variable.variable-index (record { n = 0; of = record {} })
    c.loop-variable.marks.items c.mark.new.marks.items c.loop-variable-test.true
    c.loop-variable.invariant c.mark.ensures

pub returns : goal.returns
returns c = all_so_far c.args.count c.args.variables.now c.loop-variable.variable-index c.loop-variable.marks.items
    c.loop-variable-test.false c.loop-variable.invariant

use Rattle.ar_base.proofs.Standing.{one_here}
use Rattle.class_table.proofs.Taken.{item_stands}
use Rattle.bind_names.proofs.Wayed.{rows_start, rows_more, rows_end}
use Rattle.bind_names.proofs.ways.parts_of.Goals as goal

pub loop-part-init : goal.loop-part-init
loop-part-init c = λ m units u is at each. rows_start c.new-bound.result.items c.new-bound.ensures.items

pub loop-part-preserved : goal.loop-part-preserved
loop-part-preserved c = λ m units u is at each.
    let i = c.loop-part.part-index in
    let part = c.part-item.result in
    let s = item_stands c.args.parts.now i part c.loop-part-test.true c.part-item.is in
    let w = c.in_ok-add_part.ensures m units u is at (each part (one_here c.args.parts.now i part s)) in
    rows_more c.args.parts.now i part w.added c.loop-part.bound.items c.add_part.new.bound.items s
    (c.loop-part.invariant m units u is at each) w.is w.behind

pub returns : goal.returns
returns c = λ m units u is at each. rows_end c.args.parts.now c.loop-part.part-index c.loop-part.bound.items
    c.loop-part-test.false (c.loop-part.invariant m units u is at each)

use Rattle.std.proofs.Common.{◌∙◌, List, [], map, take_all, ap}
use Rattle.ar_base.specs.NumbersInside.{EventId}
use Rattle.gate_modules.specs.ShortenedInside.{event_numbers}
use Rattle.module_text.specs.Arranged.{pieces_of, line_pieces, part_pieces}
use Rattle.module_text.proofs.Placing.{lines_more}
use Rattle.module_text.proofs.arranging.lines_of_sets.Goals as goal

pub loop-set-init : goal.loop-set-init
loop-set-init c = λ edges are. ap (map pieces_of) c.new-lines.ensures.items

pub loop-set-preserved : goal.loop-set-preserved
loop-set-preserved c = λ edges are.
    lines_more (part_pieces edges) c.args.sets.now c.loop-set.set-index c.set-item.result c.loop-set.lines.items
    c.push.new.self.items c.in_ok-line.line c.loop-set-test.true c.set-item.is c.in_ok-push.ensures.items
    (c.in_ok-line.ensures edges are ∙ ap (λ (z : List EventId). line_pieces edges [] (event_numbers z))
    c.deref.ensures.value)
    (c.loop-set.invariant edges are)

pub returns : goal.returns
returns c = λ edges are. c.loop-set.invariant edges are
    ∙ ap (map (part_pieces edges)) (take_all c.loop-set.set-index c.args.sets.now c.loop-set-test.false)

use Rattle.event_order.proofs.Taking.{taken_none}
use Rattle.event_order.proofs.numbering.Numbering.new.Goals as goal

pub returns : goal.returns
returns c = λ trees.
    taken_none trees (record { trees = c.new.result; numbers = c.new-2.result }) c.new.ensures.items c.new-2.ensures.none
    c.new-2.ensures.numbers

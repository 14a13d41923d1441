use Rattle.std.proofs.Common.{arith}
use Rattle.class_table.proofs.Taken.{item_stands}
use Rattle.class_table.proofs.Looping.{loop_start, loop_next, loop_end}
use Rattle.bind_names.proofs.Eventful.{part_to, part_back}
use Rattle.bind_names.proofs.event_rules.no_event_in.Goals as goal

pub loop-part-init : goal.loop-part-init
loop-part-init c = λ m units u is at. loop_start _ _

pub loop-part-preserved : goal.loop-part-preserved
loop-part-preserved c = λ m units u is at.
    let s = item_stands c.args.parts.now c.loop-part.part-index c.part-item.result (omega arith) c.part-item.is in
    loop_next _ _ _ _ _ _ _ s (c.loop-part.invariant m units u is at) (c.no_event.ensures m units u is at)
    c.earliest-found.ensures

pub returns : goal.returns
returns c = λ m units u is at. loop_end _ _ _ _ _ (omega arith) (part_to m u _) (part_back m u _)
    (c.loop-part.invariant m units u is at)

use Rattle.std.proofs.Common.{arith}
use Rattle.class_table.proofs.Taken.{item_stands}
use Rattle.class_table.proofs.Looping.{loop_start, loop_next, loop_end}
use Rattle.class_table.proofs.FirstItems.{none_to, none_back}
use Rattle.class_table.proofs.items.first_no_domain.Goals as goal

pub loop-item-init : goal.loop-item-init
loop-item-init c = loop_start _ _

pub loop-item-preserved : goal.loop-item-preserved
loop-item-preserved c =
    let s = item_stands c.args.items.now c.loop-item.item-index c.item-item.result (omega arith) c.item-item.is in
    loop_next _ _ _ _ _ _ _ s c.loop-item.invariant c.in_ok-no_domain.ensures c.earliest-found.ensures

pub returns : goal.returns
returns c = loop_end _ _ _ _ _ (omega arith) (none_to _) (none_back _) c.loop-item.invariant

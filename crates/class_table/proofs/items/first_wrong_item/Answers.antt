use Rattle.std.proofs.Common.{List, map, ap, subst, arith}
use Rattle.std.proofs.lemmas.List.{take_all}
use Rattle.ar_syntax.specs.declared.items.Item.{Item}
use Rattle.class_table.specs.Items.{item_pair}
use Rattle.class_table.specs.Repeating.{HasMet}
use Rattle.class_table.proofs.Taken.{item_stands}
use Rattle.class_table.proofs.FirstPlaces.{earliest_both, earliest_same}
use Rattle.class_table.proofs.FirstItems.{met_next, items_to, items_back}
use Rattle.class_table.proofs.items.first_wrong_item.Goals as goal

pub loop-item-preserved : goal.loop-item-preserved
loop-item-preserved c =
    let s = item_stands c.args.items.now c.loop-item.item-index c.item-item.result (omega arith) c.item-item.is in
    met_next item_pair _ c.args.items.now _ _ _ _ s (ap (λ n. n.n) c.named.ensures.name) c.named.ensures.place
    (c.in_ok-add.ensures _ c.loop-item.invariant)

pub returns : goal.returns
returns c =
    let e = take_all c.loop-item.item-index c.args.items.now (omega arith) in
    let h = subst (λ (xs : List Item). HasMet c.loop-item.names (map item_pair xs)) e c.loop-item.invariant in
    earliest_same _ (items_to _) (items_back _) (earliest_both _ _ _ h.found c.in_ok-wrong.ensures c.earliest.ensures)

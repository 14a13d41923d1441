use Rattle.std.proofs.Common.{map, take}
use Rattle.class_table.specs.Items.{item_pair}
use Rattle.class_table.specs.Repeating.{HasMet}
use Rattle.class_table.proofs.items.first_wrong_item.Given as goal

abbrev pub invariant-loop-item : goal.invariant-loop-item
invariant-loop-item l = HasMet l.names (map item_pair (take l.item-index l.items))

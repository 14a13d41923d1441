use Rattle.std.proofs.Common.{[], arith}
use Rattle.class_table.proofs.FirstItems.{symbols_tell}
use Rattle.class_table.proofs.items.are_no_symbols.Goals as goal

pub returns : goal.returns
returns c = rw c.is_some.ensures (symbols_tell _ _ (omega arith) (c.in_ok-add_all.ensures [] c.new-names.ensures).found)

use Rattle.std.proofs.Common.{◌≡◌, map, length}
use Rattle.eq_core.specs.Views.{operand_of, table_of}
use Rattle.gate_sharing.specs.Images.{AreImages}
use Rattle.gate_sharing.proofs.tables.simplified_table.Given as goal

abbrev pub invariant-loop-number : goal.invariant-loop-number
invariant-loop-number l = record {
  long : length l.images.items ≡ l.number;
  images : AreImages (table_of l.equations) l.sharing (map operand_of l.images.items);
}

use Rattle.std.proofs.Common.{take}
use Rattle.class_table.specs.Declaring.{Declared}
use Rattle.class_table.specs.Kinds.{KnowsTypes}
use Rattle.class_table.specs.Rows.{IsRowOf}
use Rattle.class_table.proofs.inside.row.Given as goal

abbrev pub invariant-loop-owned : goal.invariant-loop-owned
invariant-loop-owned l = (d : Declared) → KnowsTypes d l.types → IsRowOf d (take l.owned-index l.own) l.row.items

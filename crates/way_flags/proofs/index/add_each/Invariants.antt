use Rattle.std.proofs.Common.{take}
use Rattle.way_flags.specs.Index.{AddsParts}
use Rattle.way_flags.proofs.index.add_each.Given as goal

abbrev pub invariant-loop-part : goal.invariant-loop-part
invariant-loop-part l = AddsParts (take l.part-index l.parts) l.n l.initial.pairs.items l.pairs.items

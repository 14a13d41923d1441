use Rattle.std.proofs.Common.{take}
use Rattle.class_table.specs.Ranks.{AddsSource}
use Rattle.class_table.proofs.ranks.add_source.Given as goal

abbrev pub invariant-loop-to : goal.invariant-loop-to
invariant-loop-to l = AddsSource (take l.to-index l.row) l.from l.fn.sources l.sources

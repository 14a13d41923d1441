use Rattle.std.proofs.Common.{◌≡◌, ◌++◌, take}
use Rattle.module_text.specs.Arranged.{unit_pieces}
use Rattle.module_text.proofs.arranging.add_units.Given as goal

abbrev pub invariant-loop-unit : goal.invariant-loop-unit
invariant-loop-unit l = l.pieces.items ≡ l.initial.pieces.items ++ unit_pieces (take l.unit-index l.units)

use Rattle.std.proofs.Common.{length, map}
use Rattle.eq_core.specs.Views.{gate_of}
use Rattle.aralia_text.specs.Fronts.{AreRead}
use Rattle.aralia_text.proofs.reading.gate_lines.Given as goal

abbrev pub invariant-loop-alloc : goal.invariant-loop-alloc
invariant-loop-alloc l = AreRead l.names l.text (map gate_of l.gates.items) l.left

abbrev pub decreases-loop-alloc : goal.decreases-loop-alloc
decreases-loop-alloc l = length l.left

use Rattle.std.proofs.Common.{◌≡◌, length, map}
use Rattle.eq_core.specs.Views.{operand_of}
use Rattle.mode_diagrams.proofs.Joining.{AreDrawn}
use Rattle.mode_diagrams.proofs.gates.gate_diagram.Given as goal

-- the operands so far have their diagrams
abbrev pub invariant-loop-operand : goal.invariant-loop-operand
invariant-loop-operand l = record {
  long : length l.parts.items ≡ l.operand-index;
  drawn : AreDrawn l.fn.trees l.fn.table l.fn.store (map operand_of l.fn.gate.operands.items) l.parts.items l.store;
}

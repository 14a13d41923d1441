use Rattle.std.proofs.Common.{map}
use Rattle.eq_core.specs.Views.{gate_of}
use Rattle.mode_nodes.specs.Bounds.{GrowsWithin}
use Rattle.mode_diagrams.proofs.Placing.{GatesKnown}
use Rattle.mode_diagrams.proofs.Tabling.{IsDrawing}
use Rattle.mode_diagrams.proofs.drawing.draw.Given as goal

abbrev pub invariant-loop-number : goal.invariant-loop-number
invariant-loop-number l = record {
  drawing : IsDrawing l.fn.trees (map gate_of l.fn.gates) l.fn.marks l.number l.table.items l.store;
  grows : GrowsWithin l.fn.store l.store;
  known : GatesKnown l.fn.trees (map gate_of l.fn.gates) l.fn.marks l.number;
}

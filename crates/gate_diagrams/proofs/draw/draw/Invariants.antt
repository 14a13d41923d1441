use Rattle.std.proofs.Common.{map}
use Rattle.zdd_nodes.specs.Nodes.{family}
use Rattle.eq_core.specs.Views.{gate_of, operand_of}
use Rattle.gate_diagrams.proofs.Tables.{IsDrawing}
use Rattle.gate_diagrams.proofs.draw.draw.Given as goal

abbrev pub invariant-loop-number : goal.invariant-loop-number
invariant-loop-number l =
    IsDrawing (family l.fn.ops l.fn.firable.n) (map gate_of l.gates) (operand_of l.fn.root) l.number l.table.items
    l.fn.ops l.ops

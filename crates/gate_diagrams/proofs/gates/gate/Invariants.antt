use Rattle.std.proofs.Common.{map}
use Rattle.zdd_nodes.specs.Nodes.{family}
use Rattle.eq_core.specs.Views.{gate_of, operand_of}
use Rattle.gate_diagrams.specs.Needed.{IsNeeded}
use Rattle.gate_diagrams.proofs.GateLoop.{IsSoFar}
use Rattle.gate_diagrams.proofs.gates.gate.Given as goal

abbrev pub invariant-loop-place : goal.invariant-loop-place
invariant-loop-place l =
    let all = family l.fn.ops l.firable.n in
    IsSoFar (IsNeeded all (map gate_of l.gates) (operand_of l.root)) all (map gate_of l.gates) (gate_of l.gate) l.place
    l.fn.ops l.ops l.so_far.n

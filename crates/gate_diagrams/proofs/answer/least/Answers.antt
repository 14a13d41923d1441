use Rattle.std.proofs.Common.{map}
use Rattle.zdd_nodes.specs.Nodes.{family}
use Rattle.eq_core.specs.Views.{gate_of, operand_of}
use Rattle.gate_diagrams.proofs.Answering.{least_drawn}
use Rattle.gate_diagrams.proofs.answer.least.Goals as goal

pub returns-clause-drawn : goal.returns-clause-drawn
returns-clause-drawn c =
    least_drawn (family c.args.ops.now c.args.firable.n) (map gate_of c.args.gates.now) (operand_of c.args.root)
    c.args.ops.now c.draw.new.ops c.minimal.new.self
    c.in_ok-drawn.drawn c.minimal.result c.in_ok-drawn.ensures.drawn c.minimal.ensures.drawn

use Rattle.std.proofs.Common.{drop}
use Rattle.ar_io.specs.WritingInside.{Leaves}
use Rattle.check_text.specs.Printed.{verdict_lines}
use Rattle.check_text.proofs.printing.verdict_lines.Given as goal

abbrev pub invariant-loop-chain : goal.invariant-loop-chain
invariant-loop-chain g l =
    Leaves (g.K.Sink.state l.initial.out) (g.K.Sink.state l.out)
    (verdict_lines l.order (drop l.chain-index l.chains) l.left) (verdict_lines l.order l.chains l.verdicts)

use Rattle.std.proofs.Common.{drop, map}
use Rattle.ar_io.specs.WritingInside.{Leaves}
use Rattle.eq_core.specs.Views.{all_needed, operand_of}
use Rattle.aralia_text.specs.Texts.{more_text}
use Rattle.aralia_text.proofs.printing.more.Given as goal

abbrev pub invariant-loop-one : goal.invariant-loop-one
invariant-loop-one g l =
    Leaves (g.K.Sink.state l.initial.out) (g.K.Sink.state l.out)
    (more_text l.events (all_needed l.joint) (map operand_of (drop l.one-index l.operands)))
    (more_text l.events (all_needed l.joint) (map operand_of l.operands))

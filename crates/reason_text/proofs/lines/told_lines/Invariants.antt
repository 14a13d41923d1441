use Rattle.std.proofs.Common.{drop}
use Rattle.ar_io.specs.WritingInside.{Leaves}
use Rattle.gts_flatten.specs.Flat.{naming_of_parts}
use Rattle.flow_reasons.specs.Answers.{reasons_of}
use Rattle.reason_text.specs.Answers.{told_lines}
use Rattle.reason_text.proofs.lines.told_lines.Given as goal

abbrev pub invariant-loop-reason : goal.invariant-loop-reason
invariant-loop-reason g l =
    Leaves (g.K.Sink.state l.initial.out) (g.K.Sink.state l.out)
    (told_lines (naming_of_parts l.parts) l.told (reasons_of (drop l.reason-index l.reasons)))
    (told_lines (naming_of_parts l.parts) l.told (reasons_of l.reasons))

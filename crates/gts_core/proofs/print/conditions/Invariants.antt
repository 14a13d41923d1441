use Rattle.std.proofs.Common.{map, drop}
use Rattle.std.specs.List.{concat}
use Rattle.ar_io.specs.WritingInside.{Leaves}
use Rattle.gts_core.specs.Printed.{condition_text}
use Rattle.gts_core.proofs.print.conditions.Given as goal

abbrev pub invariant-loop-condition : goal.invariant-loop-condition
invariant-loop-condition g l =
    Leaves (g.K.Sink.state l.initial.out) (g.K.Sink.state l.out)
    (concat (map (condition_text l.parts) (drop l.condition-index l.all)))
    (concat (map (condition_text l.parts) l.all))

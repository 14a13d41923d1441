use Rattle.std.proofs.Common.{drop, false, codes}
use Rattle.ar_base.specs.Texts.{separated}
use Rattle.ar_io.specs.WritingInside.{Leaves}
use Rattle.gts_flatten.specs.Flat.{naming_of_parts}
use Rattle.flow_reasons.specs.Answers.{numbers_of}
use Rattle.reason_text.specs.Texts.{paths_of}
use Rattle.reason_text.proofs.lines.more_paths.Given as goal

abbrev pub invariant-loop-variable : goal.invariant-loop-variable
invariant-loop-variable g l =
    Leaves (g.K.Sink.state l.initial.out) (g.K.Sink.state l.out)
    (separated false (codes ", ") (paths_of (naming_of_parts l.parts) (numbers_of (drop l.variable-index l.variables))))
    (separated false (codes ", ") (paths_of (naming_of_parts l.parts) (numbers_of l.variables)))

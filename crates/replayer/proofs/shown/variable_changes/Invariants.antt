use Rattle.std.proofs.Common.{drop}
use Rattle.ar_io.specs.WritingInside.{Leaves}
use Rattle.ar_meaning.specs.TraceText.{variable_line}
use Rattle.gts_core.specs.Readings.{valuation_at}
use Rattle.gts_flatten.specs.Flat.{naming_of_parts}
use Rattle.flow_changes.specs.Changes.{changed_numbers}
use Rattle.replayer.specs.Printing.{numbered_texts}
use Rattle.replayer.proofs.shown.variable_changes.Given as goal

abbrev pub invariant-loop-variable : goal.invariant-loop-variable
invariant-loop-variable g l =
    Leaves (g.K.Sink.state l.initial.out) (g.K.Sink.state l.out)
    (numbered_texts (λ n. variable_line (naming_of_parts l.parts) n (valuation_at l.new n))
    (changed_numbers (drop l.variable-index l.changed)))
    (numbered_texts (λ n. variable_line (naming_of_parts l.parts) n (valuation_at l.new n)) (changed_numbers l.changed))

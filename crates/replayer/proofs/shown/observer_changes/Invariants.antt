use Rattle.std.proofs.Common.{drop}
use Rattle.ar_io.specs.WritingInside.{Leaves}
use Rattle.replayer.specs.Printing.{numbered_texts}
use Rattle.replayer.proofs.ObservingLemmas.{observer_text}
use Rattle.replayer.proofs.shown.observer_changes.Given as goal

abbrev pub invariant-loop-number : goal.invariant-loop-number
invariant-loop-number g l =
    Leaves (g.K.Sink.state l.initial.out) (g.K.Sink.state l.out)
    (numbered_texts (observer_text l.parts l.old l.new) (drop l.number-index l.touched))
    (numbered_texts (observer_text l.parts l.old l.new) l.touched)

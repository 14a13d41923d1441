use Rattle.std.proofs.Common.{◌≡◌, drop}
use Rattle.ar_io.specs.WritingInside.{Leaves}
use Rattle.replayer.specs.Printing.{observer_lines}
use Rattle.replayer.proofs.shown.observer_lines.Given as goal

abbrev pub invariant-loop-observer : goal.invariant-loop-observer
invariant-loop-observer g l = record {
  leaves : Leaves (g.K.Sink.state l.initial.out) (g.K.Sink.state l.out)
      (observer_lines l.parts l.values l.observer-index (drop l.observer-index l.all))
      (observer_lines l.parts l.values 0 l.all);
  numbered : l.number ≡ l.observer-index;
}

use Rattle.std.proofs.Common.{◌≡◌, drop}
use Rattle.ar_io.specs.WritingInside.{Leaves}
use Rattle.gts_core.specs.Printed.{assert_lines}
use Rattle.gts_core.proofs.print.asserts.Given as goal

abbrev pub invariant-loop-assign : goal.invariant-loop-assign
invariant-loop-assign g l = record {
  leaves : Leaves (g.K.Sink.state l.initial.out) (g.K.Sink.state l.out)
      (assert_lines l.parts l.assign-index (drop l.assign-index l.all)) (assert_lines l.parts 0 l.all);
  numbered : l.number ≡ l.assign-index;
}

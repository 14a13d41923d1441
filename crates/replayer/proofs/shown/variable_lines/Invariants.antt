use Rattle.std.proofs.Common.{◌≡◌, drop}
use Rattle.ar_io.specs.WritingInside.{Leaves}
use Rattle.ar_meaning.specs.TraceText.{variable_line, lines_from}
use Rattle.gts_flatten.specs.Flat.{naming_of_parts}
use Rattle.replayer.proofs.shown.variable_lines.Given as goal

abbrev pub invariant-loop-v : goal.invariant-loop-v
invariant-loop-v g l = record {
  leaves : Leaves (g.K.Sink.state l.initial.out) (g.K.Sink.state l.out)
      (lines_from (variable_line (naming_of_parts l.parts)) l.v-index (drop l.v-index l.values))
      (lines_from (variable_line (naming_of_parts l.parts)) 0 l.values);
  numbered : l.number ≡ l.v-index;
}

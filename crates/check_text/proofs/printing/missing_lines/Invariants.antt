use Rattle.std.proofs.Common.{◌≡◌, ◌&&◌, List, length}
use Rattle.ar_io.specs.WritingInside.{Leaves}
use Rattle.ar_meaning.specs.Runs.{Label}
use Rattle.cut_check.specs.LineSets.{AreLineSets, HaveEventNumbers}
use Rattle.cut_text.specs.Tables.{AllHaveWays}
use Rattle.check_text.specs.Printed.{missing_at, all_listed}
use Rattle.check_text.proofs.printing.missing_lines.Given as goal

abbrev pub invariant-loop-events : goal.invariant-loop-events
invariant-loop-events g l = record {
  text : (lines : List (List Label)) → AreLineSets l.gts lines l.initial.sets
      → Leaves (g.K.Sink.state l.initial.out) (g.K.Sink.state l.out)
      (missing_at l.gts l.ways lines l.lister) (missing_at l.gts l.ways lines l.initial.lister);
  ways : AllHaveWays l.gts l.ways l.lister;
  numbers : HaveEventNumbers l.gts l.lister;
  sets : (lines : List (List Label)) → AreLineSets l.gts lines l.initial.sets → AreLineSets l.gts lines l.sets;
  whole : (lines : List (List Label)) → AreLineSets l.gts lines l.initial.sets
      → (l.whole && all_listed lines l.lister) ≡ (l.initial.whole && all_listed lines l.initial.lister);
}

abbrev pub decreases-loop-events : goal.decreases-loop-events
decreases-loop-events g l = length l.lister

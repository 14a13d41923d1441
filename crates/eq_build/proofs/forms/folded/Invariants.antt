use Rattle.std.proofs.Common.{◌≡◌, ◌≤◌, drop, length}
use Rattle.eq_build.specs.Entries.{folded, with_step}
use Rattle.eq_build.specs.BuildsInside.{most_gates}
use Rattle.eq_build.specs.Views.{entries_in, gates_in, lists_in}
use Rattle.eq_build.proofs.forms.folded.Given as goal

abbrev pub invariant-loop-entries : goal.invariant-loop-entries
invariant-loop-entries l = record {
  few : length l.gates.items ≤ most_gates;
  same : folded (gates_in l.initial.gates.items) (entries_in l.start) (with_step l.step (lists_in l.operands))
      ≡ folded (gates_in l.gates.items) (entries_in l.so_far.items)
      (with_step l.step (lists_in (drop l.entries-index l.operands)));
}

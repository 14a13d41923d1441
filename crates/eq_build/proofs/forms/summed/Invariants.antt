use Rattle.std.proofs.Common.{◌≡◌, ◌≤◌, drop, length}
use Rattle.eq_build.specs.Entries.{folded, with_signs}
use Rattle.eq_build.specs.BuildsInside.{most_gates}
use Rattle.eq_build.specs.Views.{entries_in, gates_in, signed_parts_in}
use Rattle.eq_build.proofs.forms.summed.Given as goal

abbrev pub invariant-loop-plus : goal.invariant-loop-plus
invariant-loop-plus l = record {
  few : length l.gates.items ≤ most_gates;
  same : folded (gates_in l.initial.gates.items) (entries_in l.start) (with_signs (signed_parts_in l.parts))
      ≡ folded (gates_in l.gates.items) (entries_in l.so_far.items) (with_signs (signed_parts_in (drop l.plus-index l.parts)));
}

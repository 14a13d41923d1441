use Rattle.std.proofs.Common.{◌≡◌, ◌≤◌, ◌++◌, drop, length, map}
use Rattle.eq_build.specs.Entries.{entries_of}
use Rattle.eq_build.specs.BuildsInside.{most_gates}
use Rattle.eq_build.specs.Views.{entries_in, gates_in, group_of}
use Rattle.eq_build.proofs.groups.entries_in_order.Given as goal

abbrev pub invariant-loop-group : goal.invariant-loop-group
invariant-loop-group l =
    let rest = entries_of (gates_in l.gates.items) (map group_of (drop l.group-index l.groups)) in
    record {
      few : length l.gates.items ≤ most_gates;
      same : entries_of (gates_in l.initial.gates.items) (map group_of l.groups)
          ≡ record { entries = entries_in l.entries.items ++ rest.entries; gates = rest.gates };
    }

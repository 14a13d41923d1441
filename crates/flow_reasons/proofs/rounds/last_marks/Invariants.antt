use Rattle.std.proofs.Common.{◌+◌, ◌≤◌, length}
use Rattle.flow_reasons.specs.Marks.{AreRoundMarks, unknown_count}
use Rattle.flow_reasons.specs.Bringing.{BringAll}
use Rattle.flow_reasons.proofs.rounds.last_marks.Given as goal

abbrev pub invariant-all_rounds : goal.invariant-all_rounds
invariant-all_rounds l = record {
  are : AreRoundMarks l.parts l.values l.round l.marks.items;
  all : BringAll l.parts l.values l.marks.items l.found.items;
  few : l.round + unknown_count l.marks.items ≤ length l.parts.variables.items;
}

abbrev pub decreases-all_rounds : goal.decreases-all_rounds
decreases-all_rounds l = unknown_count l.marks.items

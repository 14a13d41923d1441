use Rattle.std.proofs.Common.{◌≡◌, take}
use Rattle.flow_changes.specs.Restoring.{marks_turned}
use Rattle.flow_changes.proofs.restoring.turn.Given as goal

abbrev pub invariant-loop-variable : goal.invariant-loop-variable
invariant-loop-variable l = l.marks.items ≡ marks_turned l.initial.marks.items (take l.variable-index l.variables)

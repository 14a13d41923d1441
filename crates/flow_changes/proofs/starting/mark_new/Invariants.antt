use Rattle.std.proofs.Common.{true, take}
use Rattle.flow_changes.specs.Picking.{AreSet}
use Rattle.flow_changes.specs.Known.{changing_numbers}
use Rattle.flow_changes.proofs.starting.mark_new.Given as goal

abbrev pub invariant-loop-variable : goal.invariant-loop-variable
invariant-loop-variable l = AreSet true (take l.variable-index (changing_numbers l.new)) l.initial.known.items l.known.items

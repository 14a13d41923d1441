use Rattle.std.proofs.Common.{◌≡◌, take}
use Rattle.flow_changes.specs.Changes.{changed_numbers}
use Rattle.replayer.proofs.touched.touched.Given as goal

abbrev pub invariant-loop-variable : goal.invariant-loop-variable
invariant-loop-variable l = l.firsts.items ≡ changed_numbers (take l.variable-index l.variables)

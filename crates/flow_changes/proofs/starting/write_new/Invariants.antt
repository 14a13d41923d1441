use Rattle.std.proofs.Common.{◌≡◌, drop, length}
use Rattle.flow_propagate.specs.NewValues.{written}
use Rattle.flow_changes.proofs.starting.write_new.Given as goal

abbrev pub invariant-loop-variable : goal.invariant-loop-variable
invariant-loop-variable l = record {
  long : length l.values.items ≡ length l.initial.values.items;
  values : written l.values.items (drop l.variable-index l.new) ≡ written l.initial.values.items l.new;
}

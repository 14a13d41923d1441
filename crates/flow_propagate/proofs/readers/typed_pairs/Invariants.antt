use Rattle.std.proofs.Common.{◌≡◌, map, take}
use Rattle.flow_propagate.specs.Plan.{plain_pair}
use Rattle.flow_propagate.proofs.readers.typed_pairs.Given as goal

abbrev pub invariant-loop-variable : goal.invariant-loop-variable
invariant-loop-variable l = map plain_pair l.typed.items ≡ take l.variable-index l.pairs

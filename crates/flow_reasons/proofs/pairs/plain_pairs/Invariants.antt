use Rattle.std.proofs.Common.{◌≡◌, map, take}
use Rattle.flow_propagate.specs.Plan.{plain_pair}
use Rattle.flow_reasons.proofs.pairs.plain_pairs.Given as goal

abbrev pub invariant-loop-variable : goal.invariant-loop-variable
invariant-loop-variable l = l.pairs.items ≡ map plain_pair (take l.variable-index l.readers)

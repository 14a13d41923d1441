use Rattle.std.proofs.Common.{drop}
use Rattle.replayer.proofs.ChangeLemmas.{AreBut}
use Rattle.replayer.proofs.latest.follow.Given as goal

abbrev pub invariant-loop-variable : goal.invariant-loop-variable
invariant-loop-variable l = AreBut l.values.items l.next (drop l.variable-index l.changed)

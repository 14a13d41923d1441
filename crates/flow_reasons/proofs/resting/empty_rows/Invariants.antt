use Rattle.flow_reasons.specs.Resting.{AreEmpty}
use Rattle.flow_reasons.proofs.resting.empty_rows.Given as goal

abbrev pub invariant-rows : goal.invariant-rows
invariant-rows l = AreEmpty l._row l.rests.items

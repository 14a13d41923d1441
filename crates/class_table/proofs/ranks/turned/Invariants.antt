use Rattle.class_table.proofs.Ranked.{AreTurnedTo}
use Rattle.class_table.proofs.ranks.turned.Given as goal

abbrev pub invariant-loop-from : goal.invariant-loop-from
invariant-loop-from l = AreTurnedTo l.rows l.from l.sources.items

use Rattle.unit_walks.specs.Forms.{AreIndexed}
use Rattle.unit_walks.proofs.indexing.index.Given as goal

abbrev pub invariant-loop-body : goal.invariant-loop-body
invariant-loop-body l = AreIndexed l.lists l.body 0 l.places

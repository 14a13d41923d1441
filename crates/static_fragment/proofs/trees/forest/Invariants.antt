use Rattle.static_fragment.specs.Trees.{AreTreesBelow}
use Rattle.static_fragment.proofs.trees.forest.Given as goal

abbrev pub invariant-loop-n : goal.invariant-loop-n
invariant-loop-n l = AreTreesBelow l.parts l.moving l.reaches l.n l.trees.items

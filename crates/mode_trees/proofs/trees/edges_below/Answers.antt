use Rattle.mode_trees.proofs.Leading.{within_first}
use Rattle.mode_trees.proofs.trees.edges_below.Goals as goal

pub add_below-requires-clause-within : goal.add_below-requires-clause-within
add_below-requires-clause-within c = within_first c.args.first c.args.edges.now c.requires.enters

use Rattle.way_flags.proofs.order.place_each.Goals as goal
use Rattle.std.proofs.Common.{arith}

pub place-requires-clause-deep : goal.place-requires-clause-deep
place-requires-clause-deep c =
    let tree = c.requires.sound.trees _ (omega (arith, c.if-way-most.true, c.requires.most)) in
    (tree.0, tree.1, omega (arith, tree.2, c.requires.most))

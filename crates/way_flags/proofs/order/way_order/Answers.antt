use Rattle.std.proofs.Common.{arith, subst, sym, ◌≡◌, ℕ}
use Rattle.way_flags.proofs.Heights.{HasTree}
use Rattle.way_flags.proofs.Placing.{all_ordered}
use Rattle.way_flags.proofs.order.way_order.Goals as goal

pub place-requires-clause-deep : goal.place-requires-clause-deep
place-requires-clause-deep c =
    let p = c.args.parts.now in
    let tree = c.requires.trees c.loop-n.n (omega arith) in
    let at : c.new-in-loop-n.result.n ≡ c.loop-n.n = c.new-in-loop-n.ensures in
    subst (λ (n : ℕ). HasTree p n c.len-most.result) (sym at) (tree.0, tree.1, omega (arith, tree.2))

pub returns : goal.returns
returns c = all_ordered c.args.parts.now c.loop-n.placing.order.items c.loop-n.placing.placed.items c.loop-n.n
    (omega arith) c.loop-n.invariant.0 c.loop-n.invariant.1

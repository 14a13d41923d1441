use Rattle.zdd_nodes.proofs.Ending.{ends_at_node}
use Rattle.zdd_nodes.proofs.bounds.below.Goals as goal

pub returns-in_default-clause-halves : goal.returns-in_default-clause-halves
returns-in_default-clause-halves c =
    ends_at_node c.args.store.now c.args.to c.args.number.n _ _ _ c.in-Some.ensures.halves c.if-event-to.false

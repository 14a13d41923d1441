use Rattle.zdd_nodes.proofs.Lists.{node_above}
use Rattle.zdd_ops.proofs.Passing.{passed_half, above_small}
use Rattle.zdd_ops.proofs.cut.next_lower.Goals as goal

pub returns-then-event-other-clause-passed : goal.returns-then-event-other-clause-passed
returns-then-event-other-clause-passed c =
    let fs = c.args.store.now.families in
    passed_half fs c.args.f.n c.args.g.n c.in_ok-event.event.n c.in_ok-event.lower.n _ c.requires.g_in
    c.in_ok-event.ensures.halves
    (node_above fs c.in_ok-event.event.n c.args.f.n c.in-Some.other.n _ _ c.if-event-other.true
    c.in-Some.ensures.halves)

pub returns-in-None-clause-passed : goal.returns-in-None-clause-passed
returns-in-None-clause-passed c =
    let fs = c.args.store.now.families in
    passed_half fs c.args.f.n c.args.g.n c.in_ok-event.event.n c.in_ok-event.lower.n _ c.requires.g_in
    c.in_ok-event.ensures.halves (above_small fs c.in_ok-event.event.n c.args.f.n c.in-None.ensures.halves)

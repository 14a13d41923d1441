use Rattle.gate_diagrams.proofs.Stepping.{half_stays, half_takes, half_leaves}
use Rattle.gate_diagrams.proofs.states.half.Goals as goal

pub returns-then-first-event : goal.returns-then-first-event
returns-then-first-event c =
    half_stays c.args.trees.now c.args.tree.n c.in-Some.first.n c.in-Some.lo.n c.in-Some.hi.n c.in-Some.ensures.halves
    c.requires.in_store
    c.args.event.n c.args.taken c.requires.least c.if-first-event.true

pub returns-then-taken : goal.returns-then-taken
returns-then-taken c =
    half_takes c.args.trees.now c.args.tree.n c.in-Some.first.n c.in-Some.lo.n c.in-Some.hi.n c.in-Some.ensures.halves
    c.requires.in_store
    c.args.event.n c.args.taken c.if-first-event.false c.if-taken.true

pub returns-else-taken : goal.returns-else-taken
returns-else-taken c =
    half_leaves c.args.trees.now c.args.tree.n c.in-Some.first.n c.in-Some.lo.n c.in-Some.hi.n c.in-Some.ensures.halves
    c.requires.in_store
    c.args.event.n c.args.taken c.if-first-event.false c.if-taken.false

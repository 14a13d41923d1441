use Rattle.altarica_run.proofs.CheckLemmas.{said_same}
use Rattle.altarica_run.proofs.checking.said_of_lines.Goals as goal

pub verdicts-requires-clause-dropped : goal.verdicts-requires-clause-dropped
verdicts-requires-clause-dropped c = rw c.deref.ensures.value c.requires.1.dropped.inside

pub verdicts-requires-clause-observer : goal.verdicts-requires-clause-observer
verdicts-requires-clause-observer c = c.requires.1.inside

pub verdicts-requires-clause-known : goal.verdicts-requires-clause-known
verdicts-requires-clause-known c = c.requires.2

pub returns : goal.returns
returns c = λ w sought flat views o stands.
    let q = c.args.request.now in
    said_same q.system flat w.dropped q.dropped.items c.args.chains.now q.wanted.value sought.dropped.are o _
    (rw c.deref.ensures.value at c.verdicts.ensures flat views o stands)

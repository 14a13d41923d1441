use Rattle.gate_modules.proofs.Entering.{exit_up, exit_end}
use Rattle.gate_modules.proofs.entries.+exit.Goals as goal

pub returns-in-Some : goal.returns-in-Some
returns-in-Some t c = exit_up c.args.store.now c.args.to c.args.number.n _ _ c.in-Some.hi.n c.exit.result.n
    c.in-Some.ensures.halves c.exit.ensures

pub returns-in-None : goal.returns-in-None
returns-in-None t c = exit_end c.args.store.now c.args.to c.args.number.n c.requires.in_store c.requires.some
    c.in-None.ensures.halves

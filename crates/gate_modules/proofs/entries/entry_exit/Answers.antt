use Rattle.gate_modules.proofs.Entering.{entry_exit_up}
use Rattle.gate_modules.proofs.entries.entry_exit.Goals as goal

pub returns-in-Some : goal.returns-in-Some
returns-in-Some c = entry_exit_up c.args.store.now c.args.to c.args.entry.n _ _ c.in-Some.hi.n c.exit.result.n
    c.in-Some.ensures.halves c.exit.ensures

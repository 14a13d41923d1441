use Rattle.gate_modules.proofs.Walking.{skip_up, skip_end}
use Rattle.gate_modules.proofs.forms.+skip.Goals as goal

pub returns-in-Some : goal.returns-in-Some
returns-in-Some t c = skip_up c.args.store.now c.args.to c.args.number.n _ c.in-Some.lo.n _ c.skip.result.n
    c.in-Some.ensures.halves c.skip.ensures

pub returns-in-None : goal.returns-in-None
returns-in-None t c = skip_end c.args.store.now c.args.to c.args.number.n c.requires c.in-None.ensures.halves

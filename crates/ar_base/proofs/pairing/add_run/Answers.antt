use Rattle.ar_base.proofs.Results.{ok_as}
use Rattle.ar_base.proofs.Firsts.{run_added}
use Rattle.ar_base.proofs.pairing.add_run.Goals as goal

pub returns : goal.returns
returns c = ok_as _ _ c.add_numbers.result
    (λ h. run_added c.args.pairs.now c.args.first c.run_of.result.now c.args.all.now.items c.add_numbers.new.all.items h
    c.run_of.ensures.among c.run_of.ensures.all) c.add_numbers.ensures

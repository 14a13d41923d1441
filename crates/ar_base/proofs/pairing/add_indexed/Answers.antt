use Rattle.ar_base.proofs.Results.{ok_as}
use Rattle.ar_base.proofs.Firsts.{run_added}
use Rattle.ar_base.proofs.pairing.add_indexed.Goals as goal

pub returns : goal.returns
returns c = ok_as _ _ c.add_numbers.result
    (λ h. run_added c.args.pairs.now.pairs.items c.args.first c.run_in.result.now c.args.all.now.items
    c.add_numbers.new.all.items h c.run_in.ensures.among c.run_in.ensures.all) c.add_numbers.ensures

use Rattle.std.proofs.Common.{length}
use Rattle.ar_base.proofs.Results.{ok_as}
use Rattle.flow_propagate.proofs.Worklists.{adds_run}
use Rattle.flow_propagate.proofs.worklist.add_readers.Goals as goal

pub add_all-requires-clause-below : goal.add_all-requires-clause-below
add_all-requires-clause-below c = λ r o. c.requires.below r (c.pairs_of-run.ensures.among r o)

pub returns : goal.returns
returns c = ok_as _ _ c.add_all.result
    (λ h. adds_run (length c.args.work.now.places.now) c.args.readers.now.pairs.items c.pairs_of-run.result.now
    c.args.variable c.args.work.now c.add_all.new.work c.pairs_of-run.ensures.all c.pairs_of-run.ensures.short h)
    c.add_all.ensures

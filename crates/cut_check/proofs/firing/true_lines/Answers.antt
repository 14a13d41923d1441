use Rattle.gts_core.specs.View.{numbered}
use Rattle.cut_check.specs.Flat.{chain_lines}
use Rattle.cut_check.proofs.TruthLemmas.{starts_fail}
use Rattle.cut_check.proofs.firing.true_lines.Goals as goal

pub returns-in-Err-clause-truths : goal.returns-in-Err-clause-truths
returns-in-Err-clause-truths c = λ system views dropped rows.
    starts_fail c.args.gts.now system views dropped (numbered c.args.observer.now.value) c.args.wanted
    (chain_lines c.args.gts.now c.args.chains.now) c.unstarted.result c.in-Err.fault c.in-Err.ensures.fault
    c.unstarted.ensures.none c.unstarted.ensures.fault

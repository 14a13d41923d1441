use Rattle.std.proofs.Common.{ℕ, List, sym, subst}
use Rattle.flow_propagate.proofs.PairRuns.{AreStarts, starts_start, starts_more}
use Rattle.flow_propagate.proofs.pairs.starts_of.Goals as goal

pub loop-variable-init : goal.loop-variable-init
loop-variable-init c = subst (λ (z : List ℕ). AreStarts c.args.pairs.now 0 z) (sym c.new-starts.ensures.items)
    (starts_start c.args.pairs.now)

pub loop-variable-preserved : goal.loop-variable-preserved
loop-variable-preserved c = starts_more c.args.pairs.now c.loop-variable.variable c.start_of.result
    c.loop-variable.starts.items c.push.new.self.items c.in_ok-push.ensures.items c.start_of.ensures
    c.loop-variable.invariant

pub returns-clause-each : goal.returns-clause-each
returns-clause-each c = c.loop-variable.invariant.each

use Rattle.std.proofs.Common.{below_more, arith}
use Rattle.cut_check.proofs.HoldLemmas.{none_held}
use Rattle.cut_check.proofs.checking.held.Goals as goal

pub returns-then-may_hold-clause-held : goal.returns-then-may_hold-clause-held
returns-then-may_hold-clause-held c =
    λ lines have. record {
      may = c.if-may_hold.ensures lines have;
      least = λ j h m. c.loop-k.invariant lines have j h m;
    }

pub loop-k-preserved : goal.loop-k-preserved
loop-k-preserved c = λ lines have. below_more _ _ (c.loop-k.invariant lines have) (c.if-may_hold.ensures lines have)

pub returns-clause-held : goal.returns-clause-held
returns-clause-held c = λ lines have. none_held lines c.args.rows.now have c.args.n c.loop-k.k (omega arith)
    (c.loop-k.invariant lines have)

use Rattle.std.proofs.Common.{arith}
use Rattle.class_table.proofs.Taken.{item_stands}
use Rattle.unit_rules.specs.Counting.{CountsMember}
use Rattle.unit_rules.proofs.Pushing.{push_start, push_next, push_end}
use Rattle.unit_rules.proofs.totals.own_counts.Goals as goal

pub loop-owned-init : goal.loop-owned-init
loop-owned-init c = λ d a known. push_start (CountsMember d) _ c.new-counts.ensures.items

pub loop-owned-preserved : goal.loop-owned-preserved
loop-owned-preserved c = λ d a known.
    let s = item_stands c.args.own.now c.loop-owned.owned-index c.owned-item.result (omega arith) c.owned-item.is in
    push_next (CountsMember d) _ _ _ _ _ _ s (c.loop-owned.invariant d a known) (c.counts_of.ensures d a known)
    c.in_ok-push.ensures.items

pub returns : goal.returns
returns c = λ d a known. push_end (CountsMember d) _ _ _ (omega arith) (c.loop-owned.invariant d a known)

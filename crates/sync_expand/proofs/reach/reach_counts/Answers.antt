use Rattle.std.proofs.Common.{◌≡◌, ◌<◌, ℕ, length, slice_index, ◌∙◌, ap, arith}
use Rattle.sync_expand.specs.Reached.{marked}
use Rattle.sync_expand.proofs.Walking.{count_next}
use Rattle.sync_expand.proofs.reach.reach_counts.Goals as goal

pub loop-place-preserved : goal.loop-place-preserved
loop-place-preserved c =
    let n = count_next c.args.events.now c.loop-place.counts.items c.push.new.self.items c.loop-place.place
    c.in_ok-marks.marks.items c.number_marked.result c.loop-place.invariant.long c.loop-place.invariant.each
    (rw c.new.ensures at c.in_ok-marks.ensures) (c.number_marked.ensures ∙ ap marked c.deref.ensures.value) c.in_ok-push.ensures.items in
    record { long = n.0; each = n.1 }

pub returns : goal.returns
returns c = record { each = λ n l. c.loop-place.invariant.each n (omega (arith, l)) }

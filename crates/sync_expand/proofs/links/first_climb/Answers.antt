use Rattle.std.proofs.Common.{arith}
use Rattle.sync_expand.proofs.Placed.{item_stands}
use Rattle.sync_expand.proofs.FirstLinks.{loop_start, loop_next, loop_end}
use Rattle.sync_expand.proofs.LinkLemmas.{of_event, climb_to, climb_back}
use Rattle.sync_expand.proofs.links.first_climb.Goals as goal

pub loop-place-init : goal.loop-place-init
loop-place-init c = loop_start _ _

pub loop-place-preserved : goal.loop-place-preserved
loop-place-preserved c =
    let s = item_stands c.args.events.now c.loop-place.place c.index-events-place.result (omega arith)
    c.index-events-place.is in
    let h = rw c.deref.ensures.value at c.climb_in.ensures in
    loop_next _ _ _ _ _ _ _ s c.loop-place.invariant
    (of_event _ _ _ c.index-events-place.result _ _ c.new-event.ensures h) c.earlier-found.ensures

pub returns : goal.returns
returns c = loop_end _ _ _ _ _ (omega arith) (λ k d l s h. climb_to _ _ _ k d l s h) (λ l h. climb_back _ _ _ l h)
    c.loop-place.invariant

use Rattle.std.proofs.Common.{get_or, sym, ap, ◌∙◌}
use Rattle.gts_core.specs.declared.bound.DeclaredEvent.{DeclaredEvent}
use Rattle.gts_core.specs.declared.bound.DeclaredWay.TheVariants.{Local}
use Rattle.gts_flatten.proofs.Bodies.{transition_at, item_or}
use Rattle.gts_flatten.proofs.making.transition.Goals as goal

pub returns : goal.returns
returns c =
    let w = c.index.result.now in
    let k = c.args.place in
    let d = c.requires.declared in
    let event = item_or c.args.events.now c.args.event.n d c.index-events-event.result c.requires.stands in
    let way = item_or d.ways.items k (Local c.requires.guard c.requires.action) w c.requires.there in
    let found = c.index.ensures ∙ ap (λ (z : DeclaredEvent). get_or z.ways.items k w) event ∙ way in
    transition_at c.args.events.now c.args.event.n k d (Local c.requires.guard c.requires.action) c.in-Local.guard
    c.in_ok-guard-in-Local.guard c.in-Local.action c.in_ok-action-in-Local.action c.requires.stands c.requires.there
    (sym found ∙ c.in-Local.is) c.in_ok-guard-in-Local.ensures c.in_ok-action-in-Local.ensures.assigns

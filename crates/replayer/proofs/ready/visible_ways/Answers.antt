use Rattle.std.proofs.Common.{◌≡◌, ◌++◌, ◌∷◌, [], if◌then◌else◌, List, Vec, Global, take, sym, ap, ◌∙◌, append_assoc}
use Rattle.std.proofs.lemmas.List.{append-nil, take_all}
use Rattle.ar_base.proofs.Items.{take_item}
use Rattle.ar_base.specs.Numbers.{WayId}
use Rattle.gts_core.specs.declared.system.Event.{Event}
use Rattle.replayer.specs.Listing.{visible_ways}
use Rattle.replayer.proofs.ready.visible_ways.Goals as goal
use Rattle.replayer.proofs.ready.visible_ways.Goals.{then-not-event+in_ok-extend_from_slice, else-not-event}

-- the visible ways of one event more
visible_more : (es : List Event) (e : Event)
    → visible_ways (es ++ e ∷ []) ≡ visible_ways es ++ (if e.hidden then [] else e.ways.items)
visible_more [] e = append-nil (if e.hidden then [] else e.ways.items)
visible_more (d ∷ es) e =
    ap (λ (z : List WayId). (if d.hidden then [] else d.ways.items) ++ z) (visible_more es e)
    ∙ sym (append_assoc (if d.hidden then [] else d.ways.items) (visible_ways es)
    (if e.hidden then [] else e.ways.items))

pub loop-event-init : goal.loop-event-init
loop-event-init c = c.new-ways.ensures.items

pub loop-event-preserved : goal.loop-event-preserved
loop-event-preserved c =
    let es = c.args.events.now in
    let i = c.loop-event.event-index in
    let e = c.event-item.result in
    let more = ap visible_ways (take_item es i e c.loop-event-test.true c.event-item.is) ∙ visible_more (take i es) e in
    let old = c.loop-event.ways.items in
    let added : c.if-not-event.ways.items ≡ old ++ (if e.hidden then [] else e.ways.items) =
    elim c.if-not-event.branch [
      | then-not-event+in_ok-extend_from_slice w ↦
          ap (λ (z : Vec WayId Global). z.items) w.ways-is ∙ w.in_ok-extend_from_slice.ensures.items
          ∙ ap (λ (z : List WayId). old ++ z) w.deref.ensures.value
          ∙ ap (λ b. old ++ (if b then [] else e.ways.items)) (sym w.if-not-event.true)
      | else-not-event w ↦
          ap (λ (z : Vec WayId Global). z.items) w.ways-is ∙ sym (append-nil old)
          ∙ ap (λ b. old ++ (if b then [] else e.ways.items)) (sym w.if-not-event.false)
    ] in
    added ∙ ap (λ (z : List WayId). z ++ (if e.hidden then [] else e.ways.items)) c.loop-event.invariant ∙ sym more

pub returns : goal.returns
returns c = c.loop-event.invariant ∙ ap visible_ways (take_all c.loop-event.event-index c.args.events.now
    c.loop-event-test.false)

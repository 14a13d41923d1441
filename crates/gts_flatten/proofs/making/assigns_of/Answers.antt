use Rattle.gts_flatten.proofs.ActsMade.{assigns_start, assigns_next}
use Rattle.gts_flatten.proofs.making.assigns_of.Goals as goal

pub loop-act-init : goal.loop-act-init
loop-act-init c = assigns_start c.new-assigns.result.items c.new-assigns.ensures.items

pub loop-act-preserved : goal.loop-act-preserved
loop-act-preserved c =
    assigns_next c.args.acts.now c.loop-act.act-index c.act-item.result c.loop-act.assigns.items
    c.in_ok-added.added.items c.append.new.self.items c.loop-act-test.true c.act-item.is
    c.loop-act.invariant.0 c.loop-act.invariant.1 c.in_ok-added.ensures.assigns c.in_ok-added.ensures.places
    c.in_ok-append.ensures.items

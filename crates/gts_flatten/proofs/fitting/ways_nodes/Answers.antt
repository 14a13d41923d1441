use Rattle.std.proofs.Common.{◌≡◌, ◌∙◌, [], min, refl, sym, ap}
use Rattle.gts_core.specs.Bound.{member_of}
use Rattle.gts_core.specs.declared.bound.DeclaredWay.{DeclaredWay}
use Rattle.sync_expand.proofs.Placed.{item_stands}
use Rattle.gts_flatten.specs.Bounds.{member_nodes}
use Rattle.gts_flatten.proofs.Fitted.{way_counted, ways_next}
use Rattle.gts_flatten.proofs.fitting.ways_nodes.Goals as goal
use Rattle.gts_flatten.proofs.fitting.ways_nodes.Goals.{in-Local, in-Sync}

pub loop-way-preserved : goal.loop-way-preserved
loop-way-preserved c =
    let way = c.way-item.result in
    let s = item_stands c.args.ways.now c.loop-way.way-index way c.loop-way-test.true c.way-item.is in
    let counted : c.match-way.more ≡ min 1000001 (member_nodes (member_of way)) = elim c.match-way.branch [
      | in-Local w ↦ w.more-is
          ∙ way_counted way w.in-Local.guard w.in-Local.action w.nodes.result w.act_nodes.result w.sum-more.result
          w.in-Local.is w.nodes.ensures (w.act_nodes.ensures [] refl) w.sum-more.ensures
      | in-Sync w ↦ w.more-is
          ∙ ap (λ (z : DeclaredWay). min 1000001 (member_nodes (member_of z))) (sym w.in-Sync.is)
    ] in
    ways_next c.args.ways.now c.loop-way.way-index way c.loop-way.total c.match-way.more
    c.sum-total.result s c.loop-way.invariant counted c.sum-total.ensures

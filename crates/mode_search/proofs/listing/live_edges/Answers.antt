use Rattle.std.proofs.Common.{◌≡◌, ◌++◌, List, map, subst}
use Rattle.ar_base.proofs.Standing.{stands_item}
use Rattle.mode_trees.specs.declared.forests.Edge.{Edge}
use Rattle.mode_search.specs.Live.{live_at}
use Rattle.mode_search.proofs.Gathering.{live_start, live_more}
use Rattle.mode_search.proofs.listing.live_edges.Goals as goal

pub loop-n-init : goal.loop-n-init
loop-n-init c = live_start c.args.reaches.now c.new-live.result.items c.new-live.ensures.items

pub loop-n-preserved : goal.loop-n-preserved
loop-n-preserved c =
    let st = stands_item c.args.reaches.now c.loop-n.n c.index-reaches-n.result c.loop-n-test.true
    c.index-reaches-n.is in
    live_more c.args.reaches.now c.requires.apart c.loop-n.n c.index-reaches-n.result st c.new.result c.new.ensures
    c.loop-n.live.items c.loop-n.invariant c.add_edges.new.live.items
    (subst (λ (z : List Edge). c.add_edges.new.live.items ≡ c.loop-n.live.items ++ map (live_at c.new.result) z)
    c.deref.ensures.value c.in_ok-add_edges.ensures)

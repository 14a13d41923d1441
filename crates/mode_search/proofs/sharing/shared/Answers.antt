use Rattle.std.proofs.Common.{refl, rules}
use Rattle.mode_search.proofs.Noting.{sharing_start, shared_more}
use Rattle.mode_search.proofs.sharing.shared.Goals as goal

pub loop-one-init : goal.loop-one-init
loop-one-init c = sharing_start c.args.count c.args.live.now _ (record {
  firsts = c.in_ok-vec.ensures.items_if_clones_equal (search rules);
  events = c.new.ensures.items;
  least = refl;
})

pub loop-one-preserved : goal.loop-one-preserved
loop-one-preserved c = shared_more c.args.count c.args.live.now c.loop-one.one-index _ c.loop-one.found c.note.new.found
    c.loop-one-test.true c.loop-one.invariant c.in_ok-note.ensures

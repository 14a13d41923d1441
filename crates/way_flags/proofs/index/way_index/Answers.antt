use Rattle.std.proofs.Common.{◌≡◌, length, arith}
use Rattle.way_flags.proofs.Indexed.{all_placed, guards_moved, above_moved, same_pairs}
use Rattle.way_flags.proofs.index.way_index.Goals as goal

pub returns : goal.returns
returns c =
    let p = c.args.parts.now in
    let long : length c.in_ok-places.places.items ≡ length p.ways.items = (let h = c.in_ok-places.ensures.long in omega (arith, h, c.len.ensures, p.ways.ok.0)) in
    record {
      order = c.in_ok-order.ensures;
      long = long;
      placed = all_placed p c.in_ok-order.order.items c.deref.result.now c.in_ok-places.places.items
          c.deref.ensures.value c.in_ok-order.ensures long c.in_ok-places.ensures.placed;
      guards = guards_moved p c.in_ok-named.named.items c.in_ok-guards.guards.pairs.items c.in_ok-named.ensures
          (same_pairs c.in_ok-named.named.items c.in_ok-guards.guards.pairs.items c.in_ok-guards.ensures);
      above = above_moved p c.in_ok-having.having.items c.in_ok-above.above.pairs.items c.in_ok-having.ensures
          (same_pairs c.in_ok-having.having.items c.in_ok-above.above.pairs.items c.in_ok-above.ensures);
    }

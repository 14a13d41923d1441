use Rattle.std.proofs.Common.{◌<◌, List, length, get_or, take, ◌+◌, subst, sym, arith}
use Rattle.ar_base.proofs.Standing.{stands_get, stands_item}
use Rattle.flow_changes.specs.Picking.{ArePicked}
use Rattle.flow_changes.proofs.Picks.{picked_next}
use Rattle.flow_changes.proofs.picking.picked.Goals as goal

pub offset_bounds-all-n : goal.offset_bounds-all-n
offset_bounds-all-n g c =
    let n = get_or c.args.numbers.now c.loop-n.n-index 0 in
    let h : n < length c.args.all.now = c.requires n (record { place = c.loop-n.n-index; stands = stands_get c.args.numbers.now c.loop-n.n-index 0 c.loop-n-test.true }) in omega (arith, h)

pub bounds-all-n : goal.bounds-all-n
bounds-all-n g c =
    let n = get_or c.args.numbers.now c.loop-n.n-index 0 in
    c.requires n (record {
      place = c.loop-n.n-index;
      stands = stands_get c.args.numbers.now c.loop-n.n-index 0 c.loop-n-test.true;
    })

pub loop-n-preserved : goal.loop-n-preserved
loop-n-preserved g c =
    let i = c.loop-n.n-index in
    let n = get_or c.args.numbers.now i 0 in
    let a = c.index-all-n.result in
    let h : n < length c.args.all.now =
    c.requires n (record { place = i; stands = stands_get c.args.numbers.now i 0 c.loop-n-test.true }) in
    subst (λ (z : List g.row.T.Denot). ArePicked (take (i + 1) c.args.numbers.now) c.args.all.now z)
    (sym c.in_ok-push.ensures.items)
    (picked_next c.args.numbers.now c.args.all.now c.loop-n.items.items i n a
    (stands_get c.args.numbers.now i 0 c.loop-n-test.true) (stands_item c.args.all.now n a h c.index-all-n.is)
    c.loop-n.invariant)

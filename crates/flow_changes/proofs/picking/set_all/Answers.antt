use Rattle.std.proofs.Common.{◌<◌, length, get_or, rules, arith}
use Rattle.ar_base.proofs.Standing.{stands_get}
use Rattle.flow_changes.proofs.Picks.{set_none, set_next, set_done}
use Rattle.flow_changes.proofs.picking.set_all.Goals as goal

pub loop-n-init : goal.loop-n-init
loop-n-init c = set_none c.args.mark c.args.numbers.now c.args.marks.now.items

pub index_mut-requires : goal.index_mut-requires
index_mut-requires c =
    let n = get_or c.args.numbers.now c.loop-n.n-index 0 in
    let h : n < length c.args.marks.now.items =
    c.requires n (record {
      place = c.loop-n.n-index;
      stands = stands_get c.args.numbers.now c.loop-n.n-index 0 c.loop-n-test.true;
    }) in
    let l : n < length c.loop-n.marks.items = omega (arith, h, c.loop-n.invariant.keeps.long) in search (rules, l)

pub loop-n-preserved : goal.loop-n-preserved
loop-n-preserved c =
    let i = c.loop-n.n-index in
    let n = get_or c.args.numbers.now i 0 in
    let h : n < length c.args.marks.now.items =
    c.requires n (record { place = i; stands = stands_get c.args.numbers.now i 0 c.loop-n-test.true }) in
    set_next c.args.mark c.args.numbers.now i n c.args.marks.now.items c.loop-n.marks.items
    (stands_get c.args.numbers.now i 0 c.loop-n-test.true) h c.loop-n.invariant

pub returns : goal.returns
returns c = set_done c.args.mark c.args.numbers.now c.loop-n.n-index c.args.marks.now.items c.loop-n.marks.items
    c.loop-n-test.false c.loop-n.invariant

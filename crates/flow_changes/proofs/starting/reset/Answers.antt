use Rattle.std.proofs.Common.{◌<◌, false, length, get_or, rules, arith}
use Rattle.ar_base.proofs.Standing.{stands_get, stands_item}
use Rattle.flow_changes.proofs.Picks.{within_at}
use Rattle.flow_changes.proofs.Begun.{resets_none, resets_next, resets_done}
use Rattle.flow_changes.proofs.starting.reset.Goals as goal

pub loop-n-init : goal.loop-n-init
loop-n-init c = resets_none c.args.parts.now c.args.members.now c.args.known.now c.args.values.now.items

pub bounds-known-place : goal.bounds-known-place
bounds-known-place c = within_at c.args.members.now c.args.known.now c.requires.marked c.loop-n.n-index
    c.loop-n-test.true

pub index-requires : goal.index-requires
index-requires c =
    let h = within_at c.args.members.now c.args.values.now.items c.requires.within c.loop-n.n-index
    c.loop-n-test.true in
    let l : get_or c.args.members.now c.loop-n.n-index 0 < length c.loop-n.values.items =
    omega (arith, h, c.loop-n.invariant.keeps.long) in
    search (rules, l)

pub index-requires-in-loop-n : goal.index-requires-in-loop-n
index-requires-in-loop-n c =
    let h = within_at c.args.members.now c.args.parts.now.variables.items c.requires.declared c.loop-n.n-index
    c.loop-n-test.true in
    search (rules, h)

pub index_mut-requires : goal.index_mut-requires
index_mut-requires c =
    let h = within_at c.args.members.now c.args.values.now.items c.requires.within c.loop-n.n-index
    c.loop-n-test.true in
    let l : get_or c.args.members.now c.loop-n.n-index 0 < length c.loop-n.values.items =
    omega (arith, h, c.loop-n.invariant.keeps.long) in
    search (rules, l)

pub loop-n-preserved : goal.loop-n-preserved
loop-n-preserved c =
    let i = c.loop-n.n-index in
    let members = c.args.members.now in
    let n = get_or members i 0 in
    let known = c.args.known.now in
    let h = within_at members c.args.values.now.items c.requires.within i c.loop-n-test.true in
    let l : n < length c.loop-n.values.items = omega (arith, h, c.loop-n.invariant.keeps.long) in
    let k = within_at members known c.requires.marked i c.loop-n-test.true in
    let d = within_at members c.args.parts.now.variables.items c.requires.declared i c.loop-n-test.true in
    resets_next c.args.parts.now members known c.args.values.now.items i n c.index-in-loop-n.result.now
    (get_or known n false) c.index.result.now c.own_or.result c.loop-n.values.items
    (stands_get members i 0 c.loop-n-test.true)
    (stands_item c.args.parts.now.variables.items n c.index-in-loop-n.result.now d c.index-in-loop-n.ensures)
    (stands_get known n false k)
    (stands_item c.loop-n.values.items n c.index.result.now l c.index.ensures) c.own_or.ensures c.loop-n.invariant

pub returns : goal.returns
returns c = resets_done c.args.parts.now c.args.members.now c.args.known.now c.args.values.now.items c.loop-n.n-index
    c.loop-n.values.items c.loop-n-test.false c.loop-n.invariant

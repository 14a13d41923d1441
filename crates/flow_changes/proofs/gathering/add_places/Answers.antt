use Rattle.std.proofs.Common.{get_or}
use Rattle.ar_base.proofs.Standing.{stands_get, one_here}
use Rattle.flow_changes.proofs.Queueing.{no_reader}
use Rattle.flow_changes.proofs.Placing.{gathers_none, gathers_next, gathers_done}
use Rattle.flow_changes.proofs.gathering.add_places.Goals as goal

pub loop-assign-init : goal.loop-assign-init
loop-assign-init c = gathers_none c.args.places.now c.args.pairs.now c.args.list.now.items

pub bounds-places-assign : goal.bounds-places-assign
bounds-places-assign c =
    let i = c.loop-assign.assign-index in
    let r = get_or c.args.pairs.now i no_reader in
    c.requires r (one_here c.args.pairs.now i r (stands_get c.args.pairs.now i no_reader c.loop-assign-test.true))

pub loop-assign-preserved : goal.loop-assign-preserved
loop-assign-preserved c =
    let pairs = c.args.pairs.now in
    let places = c.args.places.now in
    let i = c.loop-assign.assign-index in
    let r = get_or pairs i no_reader in
    let at = stands_get pairs i no_reader c.loop-assign-test.true in
    let h = c.requires r (one_here pairs i r at) in
    gathers_next places pairs i r (get_or places r.1.n 0) c.args.list.now.items c.loop-assign.list.items
    c.push.new.self.items at (stands_get places r.1.n 0 h) c.in_ok-push.ensures.items c.loop-assign.invariant

pub returns : goal.returns
returns c = gathers_done c.args.places.now c.args.pairs.now c.loop-assign.assign-index c.args.list.now.items
    c.loop-assign.list.items c.loop-assign-test.false c.loop-assign.invariant

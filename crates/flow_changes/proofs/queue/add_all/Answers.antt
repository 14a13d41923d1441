use Rattle.std.proofs.Common.{ℕ, List, get_or, sym, subst}
use Rattle.ar_base.specs.Lists.{IsOneOf}
use Rattle.ar_base.proofs.Standing.{stands_get, one_here}
use Rattle.flow_changes.proofs.Queueing.{no_reader, adds_none, adds_more, adds_done}
use Rattle.flow_changes.proofs.queue.add_all.Goals as goal

pub loop-assign-init : goal.loop-assign-init
loop-assign-init c = adds_none c.args.places.now c.args.pairs.now c.args.work.now c.requires.is

pub bounds-places-assign : goal.bounds-places-assign
bounds-places-assign c =
    let i = c.loop-assign.assign-index in
    c.requires.within (get_or c.args.pairs.now i no_reader)
    (one_here c.args.pairs.now i (get_or c.args.pairs.now i no_reader)
    (stands_get c.args.pairs.now i no_reader c.loop-assign-test.true))

pub add-requires-clause-one : goal.add-requires-clause-one
add-requires-clause-one c =
    let i = c.loop-assign.assign-index in
    let r = get_or c.args.pairs.now i no_reader in
    let o = one_here c.args.pairs.now i r (stands_get c.args.pairs.now i no_reader c.loop-assign-test.true) in
    subst (λ (z : List ℕ). IsOneOf z (get_or c.args.places.now r.1.n 0)) (sym c.loop-assign.invariant.same)
    (c.requires.one r (get_or c.args.places.now r.1.n 0) o
    (stands_get c.args.places.now r.1.n 0 (c.requires.within r o)))

pub loop-assign-preserved : goal.loop-assign-preserved
loop-assign-preserved c =
    let i = c.loop-assign.assign-index in
    let pairs = c.args.pairs.now in
    let r = get_or pairs i no_reader in
    let at = stands_get pairs i no_reader c.loop-assign-test.true in
    adds_more c.args.places.now pairs i r (get_or c.args.places.now r.1.n 0) c.args.work.now c.loop-assign.work
    c.add.new.work at (stands_get c.args.places.now r.1.n 0 (c.requires.within r (one_here pairs i r at)))
    c.loop-assign.invariant c.in_ok-add.ensures

pub returns : goal.returns
returns c = adds_done c.args.places.now c.args.pairs.now c.loop-assign.assign-index c.args.work.now c.loop-assign.work
    c.loop-assign-test.false c.loop-assign.auto.assign-index-end c.loop-assign.invariant

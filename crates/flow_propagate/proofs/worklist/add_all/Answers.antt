use Rattle.std.proofs.Common.{◌≡◌, length, ℕ, get_or, subst, arith}
use Rattle.flow_propagate.specs.Closing.{AddsWork}
use Rattle.flow_propagate.proofs.Worklists.{adds_start, adds_more, adds_all, by_length, no_reader, reader_at}
use Rattle.flow_propagate.proofs.worklist.add_all.Goals as goal

pub loop-assign-init : goal.loop-assign-init
loop-assign-init c = adds_start (length c.args.work.now.places.now) c.args.readers.now c.args.work.now c.requires.is

pub loop-assign-preserved : goal.loop-assign-preserved
loop-assign-preserved c =
    let readers = c.args.readers.now in
    let i = c.loop-assign.assign-index in
    let r = get_or readers i no_reader in
    adds_more (length c.args.work.now.places.now) i readers r c.args.work.now c.loop-assign.work c.add.new.work
    (reader_at readers i c.loop-assign-test.true) c.loop-assign.invariant
    (subst (λ (z : ℕ). AddsWork z 1 (λ m. m ≡ r.1.n) c.loop-assign.work c.add.new.work) c.loop-assign.invariant.is.long
    c.in_ok-add.ensures)

pub returns : goal.returns
returns c = adds_all _ c.loop-assign.assign-index c.args.readers.now c.args.work.now _ c.loop-assign-test.false
    c.loop-assign.auto.assign-index-end c.loop-assign.invariant

pub add-requires-clause-below : goal.add-requires-clause-below
add-requires-clause-below c =
    let readers = c.args.readers.now in
    let i = c.loop-assign.assign-index in
    let h = c.requires.below (get_or readers i no_reader)
    (record { place = i; stands = reader_at readers i c.loop-assign-test.true }) in
    omega (arith, h, c.loop-assign.invariant.is.long)

pub add-requires-clause-is : goal.add-requires-clause-is
add-requires-clause-is c = by_length _ _ c.loop-assign.invariant.is

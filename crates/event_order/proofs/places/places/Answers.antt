use Rattle.std.proofs.Common.{length, refl}
use Rattle.std.proofs.lemmas.Option.{slice_get_read}
use Rattle.ar_base.specs.Lists.{Stands}
use Rattle.mode_diagrams.proofs.Placing.{placed_none, placed_more, placed_all}
use Rattle.event_order.proofs.places.places.Goals as goal

pub loop-place-init : goal.loop-place-init
loop-place-init c = placed_none c.args.trees.now c.new-places.result c.new-places.ensures.empty

pub loop-place-preserved : goal.loop-place-preserved
loop-place-preserved c =
    let trees = c.args.trees.now in
    let k = c.loop-place.place in
    let tree = c.index-trees-place.result in
    let stands : Stands trees k tree =
    slice_get_read trees (length trees) k tree refl c.loop-place-test.true c.index-trees-place.is in
    placed_more trees k tree c.deref.result.now c.loop-place.places c.put_all.new.places
    stands c.deref.ensures.value c.in_ok-put_all.ensures
    c.loop-place.invariant

pub returns : goal.returns
returns c = placed_all c.args.trees.now c.loop-place.place c.loop-place.places c.loop-place-test.false
    c.loop-place.invariant

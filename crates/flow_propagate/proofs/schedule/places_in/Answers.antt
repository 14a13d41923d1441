use Rattle.std.proofs.Common.{◌<◌, length, get_or, rules, ◌∙◌, arith, length-set}
use Rattle.std.proofs.lemmas.Option.{slice_get-get_or}
use Rattle.flow_propagate.proofs.Worklists.{order_below, placed_more, placed_all}
use Rattle.flow_propagate.proofs.schedule.places_in.Goals as goal

pub index_mut-requires : goal.index_mut-requires
index_mut-requires c =
    let order = c.args.order.now in
    let h = order_below c.args.count order c.loop-place.place c.requires c.loop-place-test.true in
    let t : get_or order c.loop-place.place 0 < length c.loop-place.places.items =
    omega (arith, h, c.loop-place.invariant.0) in
    search (rules, t)

pub loop-place-preserved : goal.loop-place-preserved
loop-place-preserved c =
    let order = c.args.order.now in
    let places = c.loop-place.places.items in
    let i = c.loop-place.place in
    let h = order_below c.args.count order i c.requires c.loop-place-test.true in (
      length-set places (get_or order i 0) i ∙ c.loop-place.invariant.0,
      placed_more order places i (get_or order i 0) (slice_get-get_or order i 0 c.loop-place-test.true)
          (omega (arith, h, c.loop-place.invariant.0)) c.loop-place.invariant.1,
    )

pub returns-clause-placed : goal.returns-clause-placed
returns-clause-placed c = placed_all c.args.count c.loop-place.place c.args.order.now c.loop-place.places.items
    c.requires c.loop-place.invariant.0 c.loop-place-test.false c.loop-place.invariant.1

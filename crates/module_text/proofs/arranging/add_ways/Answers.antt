use Rattle.std.proofs.Common.{◌<◌, get_or, length, arith}
use Rattle.ar_base.specs.Numbers.{WayId}
use Rattle.ar_base.proofs.Standing.{one_here, stands_get}
use Rattle.module_text.proofs.Placing.{ways_more}
use Rattle.module_text.proofs.arranging.add_ways.Goals as goal

-- what is read past the end
abbrev none : WayId
none = record { n = 0; of = record {} }

pub bounds-ways-spot : goal.bounds-ways-spot
bounds-ways-spot c =
    let spots = c.args.spots.now in
    let i = c.loop-spot.spot-index in
    c.requires (get_or spots i 0) (one_here spots i (get_or spots i 0) (stands_get spots i 0 c.loop-spot-test.true))

pub offset_bounds-ways-spot : goal.offset_bounds-ways-spot
offset_bounds-ways-spot c =
    let spots = c.args.spots.now in
    let i = c.loop-spot.spot-index in
    let h : get_or spots i 0 < length c.args.ways.now = c.requires (get_or spots i 0)
    (one_here spots i (get_or spots i 0) (stands_get spots i 0 c.loop-spot-test.true)) in
    omega (arith, h)

pub loop-spot-preserved : goal.loop-spot-preserved
loop-spot-preserved c =
    let spots = c.args.spots.now in
    let ways = c.args.ways.now in
    let i = c.loop-spot.spot-index in
    let lt = c.requires (get_or spots i 0)
    (one_here spots i (get_or spots i 0) (stands_get spots i 0 c.loop-spot-test.true)) in
    ways_more ways spots i 0 (get_or ways (get_or spots i 0) none) c.args.pieces.now.items _ _ c.loop-spot-test.true
    (stands_get ways (get_or spots i 0) none lt) c.loop-spot.invariant c.in_ok-push.ensures.items

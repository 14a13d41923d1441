use Rattle.std.proofs.Common.{arith}
use Rattle.sync_expand.proofs.Placed.{item_stands}
use Rattle.sync_expand.proofs.Walking.{ways_start, ways_next, ways_skip, ways_end, part_here}
use Rattle.sync_expand.proofs.reach.meet_parts.Goals as goal
use Rattle.sync_expand.proofs.reach.meet_parts.Goals.{in-Sync+in_ok-meet_all, in_default}

pub loop-way-init : goal.loop-way-init
loop-way-init c = ways_start _ _

pub meet_all-requires : goal.meet_all-requires
meet_all-requires c = λ x h.
    let s = item_stands c.args.ways.now c.loop-way.way-index c.way-item.result (omega arith) c.way-item.is in
    let k = c.requires x (part_here c.args.ways.now c.loop-way.way-index c.way-item.result _ _ x s c.in-Sync.is
    (rw c.deref.ensures.value at h)) in
    let l = c.loop-way.invariant.long in
    omega (arith, k, l)

pub loop-way-preserved : goal.loop-way-preserved
loop-way-preserved c =
    let s = item_stands c.args.ways.now c.loop-way.way-index c.way-item.result (omega arith) c.way-item.is in
    elim c.match-way.branch [
      | in-Sync+in_ok-meet_all w ↦
          (let k = rw w.deref.ensures.value at w.in_ok-meet_all.ensures in
          rw w.walk-is (ways_next _ _ _ _ _ _ _ _ s w.in-Sync.is c.loop-way.invariant k))
      | in_default w ↦ rw w.walk-is (ways_skip _ _ _ _ _ s w.in_default.not-Sync c.loop-way.invariant)
    ]

pub returns : goal.returns
returns c = ways_end c.args.ways.now c.loop-way.way-index _ _ c.loop-way-test.false c.loop-way.invariant

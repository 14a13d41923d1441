use Rattle.std.proofs.Common.{arith, ◌≤◌}
use Rattle.gts_core.specs.Bound.{member_of}
use Rattle.sync_expand.specs.Counts.{member_count}
use Rattle.sync_expand.proofs.Placed.{item_stands}
use Rattle.sync_expand.proofs.Capping.{parts_next}
use Rattle.sync_expand.proofs.Adding.{member_within}
use Rattle.sync_expand.proofs.counting.part_count.Goals as goal

pub loop-way-preserved : goal.loop-way-preserved
loop-way-preserved c = (
  omega arith,
  λ few.
      let counts = c.args.counts.now in
      let s = item_stands c.args.ways.now c.loop-way.way-index c.way-item.result (omega arith) c.way-item.is in
      let m = member_within counts c.args.ways.now c.loop-way.way-index c.way-item.result s in
      let l : member_count counts (member_of c.way-item.result) ≤ 256 = omega (arith, m, few) in
      let n = c.parts_of_one-more.ensures l in
      let a = parts_next counts c.args.ways.now c.loop-way.way-index c.way-item.result s in
      let i = c.loop-way.invariant.1 few in
      omega (arith, a, i, n),
)

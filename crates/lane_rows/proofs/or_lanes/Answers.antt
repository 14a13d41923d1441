-- The mask of the words that differ tells whether one does.
use Rattle.std.proofs.Common.{refl, w64}
use Rattle.std.proofs.lemmas.Simd.{tops_compared}
use Rattle.std.specs.Simd.Lanes.{chunk}
use Rattle.lane_rows.proofs.Groups.{or_of_group, mask_tells, tells_of, group, differ}
use Rattle.lane_rows.proofs.or_lanes.Goals as goal

pub returns-clause-or : goal.returns-clause-or
returns-clause-or c = or_of_group c.args.row.now c.args.with.now c.args.at c.requires.row c.requires.with

pub returns-clause-tells : goal.returns-clause-tells
returns-clause-tells c =
    let xs = c.args.row.now in
    let ys = c.args.with.now in
    let at = c.args.at in
    tells_of xs ys at _ (mask_tells xs ys at c.requires.row c.requires.with _
    (tops_compared w64 differ (group xs ys at c.requires.row c.requires.with) (chunk at 4 xs)) _ refl)

-- The mask of the words that the or changes tells whether one is not covered.
use Rattle.std.proofs.Common.{refl, w64}
use Rattle.std.proofs.lemmas.Simd.{tops_compared}
use Rattle.std.specs.Simd.Lanes.{chunk}
use Rattle.lane_rows.proofs.Groups.{mask_tells, covers_of, group, differ}
use Rattle.lane_rows.proofs.covers_lanes.Goals as goal

pub returns : goal.returns
returns c =
    let xs = c.args.big.now in
    let ys = c.args.small.now in
    let at = c.args.at in
    covers_of xs ys at _ (mask_tells xs ys at c.requires.big c.requires.small _
    (tops_compared w64 differ (group xs ys at c.requires.big c.requires.small) (chunk at 4 xs)) _ refl)

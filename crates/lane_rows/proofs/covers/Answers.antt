-- All words are covered, or one bit of some word is missing.
use Rattle.std.proofs.Common.{sym, true≢false}
use Rattle.lane_rows.proofs.Bits.{not_covered, covers_whole}
use Rattle.lane_rows.proofs.covers.Goals as goal

pub returns-then-not-covers_lanes : goal.returns-then-not-covers_lanes
returns-then-not-covers_lanes c =
    let one = c.covers_lanes.ensures.missing c.if-not-covers_lanes.true in (
      (λ e. absurd (true≢false (sym e))),
      λ covers. absurd
          (not_covered c.args.big.now c.args.small.now c.requires one.0 one.3 covers),
    )

pub returns : goal.returns
returns c = covers_whole c.args.big.now c.args.small.now c.requires c.loop-at.at c.covers_words.result
    c.loop-at.invariant.covered c.covers_words.ensures

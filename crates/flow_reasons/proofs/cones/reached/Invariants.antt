use Rattle.std.proofs.Common.{◌≡◌, ◌+◌, ◌-◌, ◌≤◌, length}
use Rattle.flow_reasons.specs.Answers.{numbers_of, reasons_of}
use Rattle.flow_reasons.specs.Cones.{unseen}
use Rattle.flow_reasons.proofs.Followed.{Closing}
use Rattle.flow_reasons.proofs.cones.reached.Given as goal

abbrev pub invariant-follow : goal.invariant-follow
invariant-follow l = record {
  long : length l.seen.items ≡ l.count;
  closing : Closing (reasons_of l.reasons) (numbers_of l.first) l.seen.items l.found.items l.at;
  within : l.at ≤ length l.found.items;
}

abbrev pub decreases-follow : goal.decreases-follow
decreases-follow l = unseen l.seen.items + (length l.found.items - l.at)

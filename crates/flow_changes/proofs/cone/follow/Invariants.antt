use Rattle.std.proofs.Common.{◌≡◌, ◌+◌, ◌-◌, ◌≤◌, length}
use Rattle.flow_changes.specs.Known.{unmarked}
use Rattle.flow_propagate.specs.Marks.{AreMarked}
use Rattle.flow_changes.specs.Gathering.{IsFollowed}
use Rattle.flow_changes.proofs.cone.follow.Given as goal

abbrev pub invariant-follow : goal.invariant-follow
invariant-follow l = record {
  long : length l.marks.items ≡ length l.initial.marks.items;
  marking : AreMarked l.marks.items l.found.items;
  followed : IsFollowed l.parts l.new l.found.items l.at;
  within : l.at ≤ length l.found.items;
}

abbrev pub decreases-follow : goal.decreases-follow
decreases-follow l = unmarked l.marks.items + (length l.found.items - l.at)

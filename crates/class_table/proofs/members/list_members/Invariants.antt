use Rattle.std.proofs.Common.{◌≤◌, take}
use Rattle.class_table.specs.Declaring.{Declared}
use Rattle.class_table.specs.Shown.{Shows}
use Rattle.class_table.specs.Listing.{HaveMembersListed, CanList}
use Rattle.class_table.proofs.members.list_members.Given as goal

abbrev pub invariant-loop-body : goal.invariant-loop-body
invariant-loop-body l = record {
  room : l.room ≤ 134217728;
  listed : (d : Declared) → Shows d l.initial.bodies l.types → CanList d l.order
      → HaveMembersListed d l.bodies (take l.body-index l.order);
}

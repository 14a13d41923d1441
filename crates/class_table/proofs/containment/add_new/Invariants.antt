use Rattle.std.proofs.Common.{take}
use Rattle.class_table.specs.Declaring.{Declared}
use Rattle.class_table.specs.Kinds.{KnowsTypes}
use Rattle.class_table.specs.Searching.{IsSeen, Opens}
use Rattle.class_table.proofs.containment.add_new.Given as goal

abbrev pub invariant-loop-owned : goal.invariant-loop-owned
invariant-loop-owned l = (d : Declared) → KnowsTypes d l.types → IsSeen l.initial.seen l.initial.opened.items
    → Opens d (take l.owned-index l.own) l.initial.opened.items l.opened.items l.seen

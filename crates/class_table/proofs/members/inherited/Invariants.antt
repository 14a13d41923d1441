use Rattle.std.proofs.Common.{ℕ, List, map, take}
use Rattle.class_table.specs.Declaring.{Declared}
use Rattle.class_table.specs.Members.{Inherits}
use Rattle.class_table.specs.TablesInside.{site_of}
use Rattle.class_table.specs.Listing.{ListsDone, AreDone}
use Rattle.class_table.proofs.members.inherited.Given as goal

abbrev pub invariant-loop-owned : goal.invariant-loop-owned
invariant-loop-owned l = (d : Declared) (done : List ℕ) → ListsDone d done l.bodies l.types → AreDone d done l.own
    → Inherits d (take l.owned-index l.own) (map site_of l.all.items)

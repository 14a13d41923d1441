use Rattle.std.proofs.Common.{length}
use Rattle.class_table.specs.Declaring.{Declared}
use Rattle.class_table.specs.Shown.{Shows}
use Rattle.class_table.proofs.Searches.{Search}
use Rattle.class_table.proofs.containment.reaches.Given as goal

abbrev pub invariant-loop-next : goal.invariant-loop-next
invariant-loop-next l = (d : Declared) → Shows d l.bodies l.types
    → Search d (length l.bodies) l.from l.to l.next l.opened.items l.seen.items

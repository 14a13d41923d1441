use Rattle.std.proofs.Common.{take}
use Rattle.ar_base.specs.Lists.{Along}
use Rattle.class_table.specs.Declaring.{Declared}
use Rattle.class_table.specs.TablesInside.{IsNamedType}
use Rattle.unit_rules.specs.Counting.{CountsMember}
use Rattle.unit_rules.specs.TypingInside.{KnowsPlaces}
use Rattle.unit_rules.proofs.totals.own_counts.Given as goal

abbrev pub invariant-loop-owned : goal.invariant-loop-owned
invariant-loop-owned l = (d : Declared) → Along (IsNamedType d.symbols) l.types d.types → KnowsPlaces l.types l.places
    → Along (CountsMember d) (take l.owned-index l.own) l.counts.items

use Rattle.std.proofs.Common.{map, take}
use Rattle.class_table.specs.Declaring.{Declared}
use Rattle.class_table.specs.Members.{named_at}
use Rattle.class_table.specs.TablesInside.{HoldsDeclared, site_of}
use Rattle.unit_rules.specs.TypingInside.{KnowsPlaces}
use Rattle.unit_rules.specs.Settables.{AddsSettables, settable_entries}
use Rattle.unit_rules.proofs.settables.Settables.add_sites.Given as goal

-- the entries of the members up to here were added
abbrev pub invariant-loop-site : goal.invariant-loop-site
invariant-loop-site l = (d : Declared) → HoldsDeclared d l.classes → KnowsPlaces l.classes.types.items l.places
    → AddsSettables l.body.n (settable_entries (named_at d (map site_of (take l.site-index l.sites)))) l.fn.self l.self

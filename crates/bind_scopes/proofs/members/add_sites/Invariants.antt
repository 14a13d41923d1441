use Rattle.std.proofs.Common.{take, map}
use Rattle.class_table.specs.Declaring.{Declared}
use Rattle.class_table.specs.Members.{named_at}
use Rattle.class_table.specs.TablesInside.{HoldsDeclared, site_of}
use Rattle.unit_rules.specs.TypingInside.{KnowsPlaces}
use Rattle.bind_scopes.specs.Members.{AddsMemberNames}
use Rattle.bind_scopes.proofs.members.add_sites.Given as goal

abbrev pub invariant-loop-site : goal.invariant-loop-site
invariant-loop-site l = (d : Declared) → HoldsDeclared d l.classes → KnowsPlaces l.classes.types.items l.places
    → AddsMemberNames l.body.n (named_at d (map site_of (take l.site-index l.sites))) l.initial.names l.names

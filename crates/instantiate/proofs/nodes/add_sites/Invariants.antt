use Rattle.std.proofs.Common.{◌≡◌, ◌++◌, take, map}
use Rattle.class_table.specs.Declaring.{Declared}
use Rattle.class_table.specs.Members.{named_at}
use Rattle.class_table.specs.TablesInside.{HoldsDeclared, site_of}
use Rattle.unit_rules.specs.TypingInside.{KnowsPlaces}
use Rattle.instantiate.specs.Nodes.{test_of, nodes_of_members}
use Rattle.instantiate.proofs.nodes.add_sites.Given as goal

abbrev pub invariant-loop-site : goal.invariant-loop-site
invariant-loop-site l = (d : Declared) → HoldsDeclared d l.classes → KnowsPlaces l.classes.types.items l.places
    → l.nodes.items ≡ l.fn.nodes.items ++ nodes_of_members l.unit (test_of l.listed)
    (named_at d (map site_of (take l.site-index l.sites)))

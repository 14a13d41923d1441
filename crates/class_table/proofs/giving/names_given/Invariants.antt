use Rattle.std.proofs.Common.{◌≡◌, map, take}
use Rattle.class_table.specs.Declaring.{Declared}
use Rattle.class_table.specs.Names.{name_and_place}
use Rattle.class_table.specs.Retested.{member_names_at}
use Rattle.class_table.specs.TablesInside.{site_of}
use Rattle.class_table.specs.Shown.{Shows}
use Rattle.class_table.proofs.giving.names_given.Given as goal

abbrev pub invariant-loop-site : goal.invariant-loop-site
invariant-loop-site l = (d : Declared) → Shows d l.bodies l.types
    → map name_and_place l.names.items ≡ member_names_at d (map site_of (take l.site-index l.sites))

use Rattle.std.proofs.Common.{map, take}
use Rattle.ar_base.specs.Lists.{Along}
use Rattle.class_table.specs.Declaring.{Declared}
use Rattle.class_table.specs.Members.{named_at}
use Rattle.class_table.specs.TablesInside.{IsBodyOf, site_of}
use Rattle.unit_walks.specs.Classes.{AreClasses}
use Rattle.unit_walks.specs.Forms.{IsUnitName, only_units}
use Rattle.unit_walks.proofs.indexing.list_body.Given as goal

abbrev pub invariant-loop-site : goal.invariant-loop-site
invariant-loop-site l = (d : Declared) → AreClasses d l.classes → Along IsBodyOf l.bodies d.bodies
    → Along IsUnitName l.list.items (only_units (named_at d (map site_of (take l.site-index l.all))))

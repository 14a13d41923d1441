use Rattle.std.proofs.Common.{map, take}
use Rattle.ar_base.specs.Lists.{Along}
use Rattle.class_table.specs.Declaring.{Declared}
use Rattle.class_table.specs.TablesInside.{IsBodyOf}
use Rattle.hierarchy.specs.ModelsInside.{sites_kept}
use Rattle.unit_walks.specs.Classes.{AreClasses}
use Rattle.unit_walks.specs.Forms.{IsUnitList}
use Rattle.unit_walks.proofs.indexing.list_bodies.Given as goal

abbrev pub invariant-loop-body : goal.invariant-loop-body
invariant-loop-body l = (d : Declared) → AreClasses d l.classes → Along IsBodyOf l.bodies d.bodies
    → Along (IsUnitList d) l.lists.items (map sites_kept (take l.body-index l.bodies))

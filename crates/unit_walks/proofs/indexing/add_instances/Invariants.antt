use Rattle.std.proofs.Common.{List, ◌++◌, take}
use Rattle.ar_base.specs.Lists.{Along}
use Rattle.class_table.specs.Members.{NamedMember}
use Rattle.class_table.specs.TablesInside.{site_of}
use Rattle.unit_walks.specs.Forms.{IsUnitName, instances}
use Rattle.unit_walks.proofs.indexing.add_instances.Given as goal

abbrev pub invariant-loop-name : goal.invariant-loop-name
invariant-loop-name l = (gs : List NamedMember) → Along IsUnitName l.initial.list.items gs
    → Along IsUnitName l.list.items (gs ++ instances (site_of l.site) l.body.n (take l.name-index l.names))

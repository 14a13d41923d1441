use Rattle.std.proofs.Common.{◌≡◌, ◌++◌, take}
use Rattle.class_table.specs.TablesInside.{site_of}
use Rattle.instantiate.specs.Nodes.{names_nodes}
use Rattle.instantiate.proofs.nodes.add_names.Given as goal

abbrev pub invariant-loop-name : goal.invariant-loop-name
invariant-loop-name l = l.nodes.items
    ≡ l.fn.nodes.items ++ names_nodes l.unit (site_of l.site) (take l.name-index l.names)

use Rattle.std.proofs.Common.{List, take}
use Rattle.ar_base.specs.Lists.{Along}
use Rattle.mode_trees.specs.declared.forests.Edge.{Edge}
use Rattle.module_text.specs.Arranged.{IsGroupOf}
use Rattle.module_text.specs.Places.{ArePlacesOf}
use Rattle.module_text.proofs.arranging.groups_of.Given as goal

abbrev pub invariant-loop-module : goal.invariant-loop-module
invariant-loop-module l = (edges : List Edge) → ArePlacesOf edges l.table
    → Along (IsGroupOf edges) (take l.module-index l.modules) l.groups.items

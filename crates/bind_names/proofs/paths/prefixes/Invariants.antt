use Rattle.std.proofs.Common.{◌≡◌, List, map, take}
use Rattle.hierarchy.specs.Models.{RootedModel}
use Rattle.hierarchy.specs.Paths.{prefix}
use Rattle.hierarchy.specs.Tie.{IsTreeOf}
use Rattle.hierarchy.specs.Units.{UnitPath}
use Rattle.bind_names.proofs.paths.prefixes.Given as goal

abbrev pub invariant-loop-node : goal.invariant-loop-node
invariant-loop-node l = (m : RootedModel) (units : List UnitPath) → IsTreeOf m units l.tree
    → l.texts.items ≡ map (prefix m) (take l.node-index units)

use Rattle.std.proofs.Common.{◌≡◌, List, map, take}
use Rattle.hierarchy.specs.Models.{RootedModel}
use Rattle.hierarchy.specs.Paths.{prefix, unit_path}
use Rattle.hierarchy.specs.Tie.{IsTreeOf}
use Rattle.hierarchy.specs.Units.{UnitPath}
use Rattle.bind_names.proofs.paths.unit_paths.Given as goal

abbrev pub invariant-loop-node : goal.invariant-loop-node
invariant-loop-node l = (m : RootedModel) (units : List UnitPath) → IsTreeOf m units l.tree
    → l.prefixes ≡ map (prefix m) units
    → l.paths.items ≡ map (unit_path m) (take l.node-index units)

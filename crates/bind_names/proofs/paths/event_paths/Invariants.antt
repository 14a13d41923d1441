use Rattle.std.proofs.Common.{◌≡◌, List, map, take}
use Rattle.hierarchy.specs.Listing.{events}
use Rattle.hierarchy.specs.Models.{RootedModel}
use Rattle.hierarchy.specs.Paths.{prefix, thing_path}
use Rattle.hierarchy.specs.Tie.{IsTreeOf}
use Rattle.hierarchy.specs.Units.{UnitPath}
use Rattle.bind_names.proofs.paths.event_paths.Given as goal

abbrev pub invariant-loop-node : goal.invariant-loop-node
invariant-loop-node l = (m : RootedModel) (units : List UnitPath) → IsTreeOf m units l.tree
    → l.prefixes ≡ map (prefix m) units
    → l.paths.items ≡ map (thing_path m) (take l.node-index (events m units))

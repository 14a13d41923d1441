use Rattle.std.proofs.Common.{◌≡◌, List, [], map, take}
use Rattle.ar_base.specs.Lists.{Along}
use Rattle.hierarchy.specs.Models.{RootedModel}
use Rattle.hierarchy.specs.Units.{UnitPath}
use Rattle.hierarchy.specs.Listing.{events}
use Rattle.hierarchy.specs.Paths.{thing_path}
use Rattle.hierarchy.specs.Tie.{IsTreeOf}
use Rattle.bind_names.specs.Gathering.{HasWays}
use Rattle.bind_names.proofs.listing.heads.Given as goal

abbrev pub invariant-loop-place : goal.invariant-loop-place
invariant-loop-place l = (m : RootedModel) (units : List UnitPath) → IsTreeOf m units l.scopes.tree.now
    → l.paths ≡ map (thing_path m) (events m units)
    → Along (HasWays m units l.scopes.tree.now []) (take l.place (events m units)) l.events.items

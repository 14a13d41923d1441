use Rattle.std.proofs.Common.{◌≡◌, List, map, take}
use Rattle.ar_base.specs.Lists.{Along}
use Rattle.hierarchy.specs.Listing.{observers}
use Rattle.hierarchy.specs.Models.{RootedModel}
use Rattle.hierarchy.specs.Paths.{prefix}
use Rattle.hierarchy.specs.Units.{UnitPath}
use Rattle.bind_names.specs.Settled.{AreSettled}
use Rattle.bind_names.specs.ListBound.{IsBoundObserver}
use Rattle.bind_names.proofs.observer_list.observers.Given as goal

abbrev pub invariant-loop-node : goal.invariant-loop-node
invariant-loop-node l = (m : RootedModel) (units : List UnitPath) → AreSettled m units l.scopes l.values
    → l.prefixes ≡ map (prefix m) units
    → Along (IsBoundObserver m units l.scopes.tree.now) (take l.node-index (observers m units)) l.observers.items

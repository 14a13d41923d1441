use Rattle.std.proofs.Common.{List, []}
use Rattle.ar_base.specs.Lists.{Along}
use Rattle.hierarchy.specs.Models.{RootedModel}
use Rattle.hierarchy.specs.Units.{UnitPath}
use Rattle.hierarchy.specs.Listing.{events}
use Rattle.bind_names.specs.Settled.{AreSettled}
use Rattle.bind_names.specs.Gathering.{HasWays}
use Rattle.bind_names.proofs.Gathered.{AreFilled}
use Rattle.bind_names.proofs.gathering.add_ways.Given as goal

abbrev pub invariant-loop-place : goal.invariant-loop-place
invariant-loop-place l = (m : RootedModel) (units : List UnitPath) → AreSettled m units l.scopes l.values
    → Along (HasWays m units l.scopes.tree.now []) (events m units) l.fn.events.items
    → AreFilled m units l.scopes.tree.now l.place l.events.items

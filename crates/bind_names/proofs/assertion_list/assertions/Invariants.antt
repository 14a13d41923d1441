use Rattle.std.proofs.Common.{List, [], take}
use Rattle.hierarchy.specs.Listing.{assertions}
use Rattle.hierarchy.specs.Models.{RootedModel}
use Rattle.hierarchy.specs.Units.{UnitPath}
use Rattle.bind_names.specs.Settled.{AreSettled}
use Rattle.bind_names.specs.Adding.{AddsAssertions}
use Rattle.bind_names.proofs.assertion_list.assertions.Given as goal

abbrev pub invariant-loop-place : goal.invariant-loop-place
invariant-loop-place l = (m : RootedModel) (units : List UnitPath) → AreSettled m units l.scopes l.values
    → AddsAssertions m units l.scopes.tree.now (assertions m (take l.place units)) [] l.acts.items

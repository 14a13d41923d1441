use Rattle.std.proofs.Common.{List, take}
use Rattle.ar_base.specs.Lists.{Along}
use Rattle.hierarchy.specs.Models.{RootedModel}
use Rattle.hierarchy.specs.Units.{UnitPath}
use Rattle.hierarchy.specs.Listing.{parameters}
use Rattle.hierarchy.specs.Tie.{IsParameterNode}
use Rattle.hierarchy.specs.Tie.{AreOutlines}
use Rattle.instantiate.proofs.parameter_lists.parameters.Given as goal

abbrev pub invariant-loop-node : goal.invariant-loop-node
invariant-loop-node l = (m : RootedModel) (units : List UnitPath) → AreOutlines m units l.classes l.outlines
    → Along (IsParameterNode m units) (take l.node-index (parameters m units)) l.parameters.items

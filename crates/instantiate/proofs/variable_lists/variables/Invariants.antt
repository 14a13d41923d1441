use Rattle.std.proofs.Common.{List, take}
use Rattle.ar_base.specs.Lists.{Along}
use Rattle.hierarchy.specs.Models.{RootedModel}
use Rattle.hierarchy.specs.Units.{UnitPath}
use Rattle.hierarchy.specs.Listing.{variables}
use Rattle.hierarchy.specs.Tie.{IsVariableNode}
use Rattle.hierarchy.specs.Tie.{AreOutlines}
use Rattle.instantiate.specs.Values.{KeepsDeclarations}
use Rattle.instantiate.proofs.variable_lists.variables.Given as goal

abbrev pub invariant-loop-node : goal.invariant-loop-node
invariant-loop-node l = (m : RootedModel) (units : List UnitPath) → AreOutlines m units l.classes l.outlines
    → KeepsDeclarations m units
    → Along (IsVariableNode m units) (take l.node-index (variables m units)) l.variables.items

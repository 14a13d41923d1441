use Rattle.std.proofs.Common.{List}
use Rattle.hierarchy.specs.Models.{RootedModel}
use Rattle.hierarchy.specs.Tie.{IsTreeOf}
use Rattle.hierarchy.specs.Units.{UnitPath}
use Rattle.bind_scopes.specs.Members.{HasFirst}
use Rattle.bind_scopes.proofs.members.names_of_members.Given as goal

abbrev pub invariant-loop-node : goal.invariant-loop-node
invariant-loop-node l = (m : RootedModel) (units : List UnitPath) → IsTreeOf m units l.tree
    → HasFirst m units l.node-index l.names

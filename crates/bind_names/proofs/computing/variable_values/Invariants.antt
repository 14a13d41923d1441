use Rattle.std.proofs.Common.{List, take}
use Rattle.ar_base.specs.Lists.{Along}
use Rattle.hierarchy.specs.Models.{RootedModel}
use Rattle.hierarchy.specs.Units.{UnitPath}
use Rattle.hierarchy.specs.Listing.{variables, parameters}
use Rattle.bind_scopes.specs.Scopes.{AreScopes}
use Rattle.bind_names.specs.Values.{AreNamesKept, IsParameterValue, IsValue}
use Rattle.bind_names.specs.Known.{AreKnown}
use Rattle.bind_names.proofs.computing.variable_values.Given as goal

abbrev pub invariant-loop-node : goal.invariant-loop-node
invariant-loop-node l = record {
  values : (m : RootedModel) (units : List UnitPath) → AreScopes m units l.scopes → AreNamesKept m units
      → Along (IsParameterValue m) (parameters m units) l.parameters
      → Along (IsValue m) (take l.node-index (variables m units)) l.values.items;
  known : AreKnown l.scopes l.parameters l.known;
}

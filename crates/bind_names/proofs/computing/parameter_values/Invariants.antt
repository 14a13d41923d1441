use Rattle.std.proofs.Common.{List}
use Rattle.hierarchy.specs.Models.{RootedModel}
use Rattle.hierarchy.specs.Units.{UnitPath}
use Rattle.bind_scopes.specs.Scopes.{AreScopes}
use Rattle.bind_names.specs.Values.{AreNamesKept, AreFirst}
use Rattle.bind_names.proofs.computing.parameter_values.Given as goal

abbrev pub invariant-loop-place : goal.invariant-loop-place
invariant-loop-place l = (m : RootedModel) (units : List UnitPath) → AreScopes m units l.scopes → AreNamesKept m units
    → AreFirst m units l.place l.values.items

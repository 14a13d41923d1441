use Rattle.std.proofs.Common.{◌≡◌, List, map}
use Rattle.hierarchy.specs.Models.{RootedModel}
use Rattle.hierarchy.specs.Paths.{prefix}
use Rattle.hierarchy.specs.Tie.{IsTreeOf}
use Rattle.hierarchy.specs.Units.{UnitPath}
use Rattle.bind_names.specs.Values.{AreValues}
use Rattle.bind_names.proofs.Varied.{AreFirst}
use Rattle.bind_names.proofs.variable_list.variables.Given as goal

abbrev pub invariant-loop-place : goal.invariant-loop-place
invariant-loop-place l = (m : RootedModel) (units : List UnitPath) → IsTreeOf m units l.tree
    → AreValues m units l.tree l.values → l.prefixes ≡ map (prefix m) units
    → AreFirst m units l.tree l.place l.variables.items

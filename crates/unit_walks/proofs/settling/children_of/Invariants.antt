use Rattle.std.proofs.Common.{List}
use Rattle.hierarchy.specs.Models.{RootedModel}
use Rattle.hierarchy.specs.Units.{UnitPath}
use Rattle.hierarchy.specs.Listing.{AreUnits}
use Rattle.unit_walks.specs.Forms.{AreOnce}
use Rattle.unit_walks.specs.Growing.{Tied}
use Rattle.unit_walks.specs.Settling.{AreChildrenTo}
use Rattle.unit_walks.proofs.settling.children_of.Given as goal

abbrev pub invariant-loop-place : goal.invariant-loop-place
invariant-loop-place l = (m : RootedModel) (units paths : List UnitPath) → AreOnce m → AreUnits m units
    → Tied m units paths units l.nodes → AreChildrenTo units l.place l.children

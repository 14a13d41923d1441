use Rattle.std.proofs.Common.{List, []}
use Rattle.hierarchy.specs.Models.{RootedModel}
use Rattle.hierarchy.specs.Units.{UnitPath}
use Rattle.hierarchy.specs.Listing.{AreUnits}
use Rattle.unit_walks.specs.Forms.{IsFormsFor}
use Rattle.unit_walks.specs.Tables.{table_paths, IsWalkTable}
use Rattle.unit_walks.specs.Growing.{Tied}
use Rattle.unit_walks.proofs.Outcomes.{Settling}
use Rattle.unit_walks.proofs.settling.settle_all.Given as goal

abbrev pub invariant-loop-place : goal.invariant-loop-place
invariant-loop-place l = (m : RootedModel) (units : List UnitPath) → IsFormsFor m l.forms → AreUnits m units
    → IsWalkTable m [] l.fn.table → Tied m units (table_paths l.fn.table) units l.nodes
    → Settling m units l.place 0 l.fn.table l.table l.walks

use Rattle.std.proofs.Common.{◌≡◌, List, []}
use Rattle.ar_base.specs.Lists.{Stands}
use Rattle.hierarchy.specs.Models.{RootedModel}
use Rattle.hierarchy.specs.Units.{UnitPath, body_of}
use Rattle.hierarchy.specs.Listing.{AreUnits}
use Rattle.unit_walks.specs.Forms.{IsFormsFor}
use Rattle.unit_walks.specs.Tables.{table_paths, IsWalkTable}
use Rattle.unit_walks.specs.Settling.{AreNumberedChildren, IsSettledTo}
use Rattle.unit_walks.proofs.Outcomes.{Settling}
use Rattle.unit_walks.proofs.settling.settle_unit.Given as goal

abbrev pub invariant-loop-named : goal.invariant-loop-named
invariant-loop-named l = (m : RootedModel) (units : List UnitPath) (u : UnitPath) → IsFormsFor m l.forms
    → AreUnits m units → IsWalkTable m [] l.fn.table → Stands (table_paths l.fn.table) l.node.unit u
    → l.node.outline.body.n ≡ body_of m u → Stands units l.at.n u → AreNumberedChildren units l.children
    → IsSettledTo m units l.at.n 0 l.fn.walks
    → Settling m units l.at.n l.named-index l.fn.table l.table l.walks

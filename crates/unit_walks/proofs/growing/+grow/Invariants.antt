use Rattle.std.proofs.Common.{◌≡◌, ◌≤◌, ◌+◌, ◌*◌, [], length}
use Rattle.ar_base.specs.Lists.{Stands}
use Rattle.hierarchy.specs.Models.{RootedModel}
use Rattle.hierarchy.specs.Units.{UnitPath, body_of, names_at}
use Rattle.unit_walks.specs.Forms.{IsFormsFor, only_units}
use Rattle.unit_walks.specs.Tables.{table_paths, IsWalkTable}
use Rattle.unit_walks.proofs.Fronts.{Fronts}
use Rattle.unit_walks.proofs.growing.+grow.Given as goal

abbrev pub decreases-grow_insides : goal.decreases-grow_insides
decreases-grow_insides l = 2 * l.room + 1

abbrev pub decreases-grow_unit : goal.decreases-grow_unit
decreases-grow_unit l = 2 * l.room

abbrev pub invariant-grow_insides-loop-named : goal.invariant-grow_insides-loop-named
invariant-grow_insides-loop-named l = record {
  small : length l.nodes.items ≤ 16384;
  fronts : (m : RootedModel) (u : UnitPath) → IsFormsFor m l.forms → IsWalkTable m [] l.fn.table
      → Stands (table_paths l.fn.table) l.node.unit u → l.node.outline.body.n ≡ body_of m u → length u + 1 + l.room ≡ 64
      → Fronts m l.fn.table l.table l.fn.nodes.items l.nodes.items u l.at.n (only_units (names_at m u)) l.named-index;
}

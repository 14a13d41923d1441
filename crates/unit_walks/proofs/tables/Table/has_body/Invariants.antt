use Rattle.std.proofs.Common.{List, ◌+◌, ◌≤◌}
use Rattle.ar_base.specs.Lists.{Stands}
use Rattle.hierarchy.specs.Models.{RootedModel}
use Rattle.hierarchy.specs.Units.{UnitPath}
use Rattle.unit_walks.specs.Tables.{table_paths, IsWalkTable}
use Rattle.unit_walks.specs.declared.tables.Frame.{Frame}
use Rattle.unit_walks.proofs.TableSteps.{IsUp}
use Rattle.unit_walks.proofs.tables.Table.has_body.Given as goal

abbrev pub invariant-loop-level : goal.invariant-loop-level
invariant-loop-level l = (m : RootedModel) (frames : List Frame) (u : UnitPath) → IsWalkTable m frames l.self
    → Stands (table_paths l.self) l.unit u → IsUp m (table_paths l.self) u l.at l.body.n × (l.at + l._level ≤ l.unit)

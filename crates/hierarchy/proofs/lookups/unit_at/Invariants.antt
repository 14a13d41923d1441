use Rattle.std.proofs.Common.{List, drop}
use Rattle.ar_base.specs.Lists.{Stands}
use Rattle.hierarchy.specs.Models.{RootedModel}
use Rattle.hierarchy.specs.Units.{UnitPath, start_of, numbers}
use Rattle.hierarchy.specs.Tie.{IsTreeOf}
use Rattle.hierarchy.proofs.Looking.{GoesOn}
use Rattle.hierarchy.proofs.lookups.unit_at.Given as goal

-- the walk has come to the unit of this number, and goes on from it along the names that are left
abbrev pub invariant-loop-name : goal.invariant-loop-name
invariant-loop-name l = (m : RootedModel) (units : List UnitPath) (u : UnitPath) → IsTreeOf m units l.tree
    → Stands units l.fn.from.n u
    → (v : UnitPath) × Stands units l.at.n v
    × GoesOn m (start_of l.fn.first u) (numbers l.names) v (numbers (drop l.name-index l.names))

use Rattle.std.proofs.Common.{List, take}
use Rattle.ar_base.specs.Lists.{Along}
use Rattle.hierarchy.specs.Models.{RootedModel}
use Rattle.hierarchy.specs.Units.{UnitPath}
use Rattle.hierarchy.specs.Tie.{AreOutlines, IsUnitNode}
use Rattle.unit_walks.specs.Settling.{AreOutcomes}
use Rattle.unit_rules.proofs.naming.name_units.Given as goal

-- the units up to here have their nodes
abbrev pub invariant-loop-place : goal.invariant-loop-place
invariant-loop-place l = (m : RootedModel) (units : List UnitPath) → AreOutlines m units l.classes l.outlines
    → AreOutcomes m units l.walks → Along (IsUnitNode m units) (take l.place units) l.nodes.items

use Rattle.std.proofs.Common.{List, take}
use Rattle.std.specs.List.{flat_map}
use Rattle.ar_base.specs.Lists.{Along}
use Rattle.class_table.specs.declared.tables.Classes.{Classes}
use Rattle.hierarchy.specs.Models.{RootedModel}
use Rattle.hierarchy.specs.Units.{UnitPath, names_at}
use Rattle.unit_rules.specs.Sizes.{tree_nodes}
use Rattle.hierarchy.specs.Tie.{AreOutlines}
use Rattle.unit_rules.specs.Counting.{AreMemberCounts, AreOfBody}
use Rattle.unit_rules.proofs.totals.of_units.Given as goal

abbrev pub invariant-loop-outline : goal.invariant-loop-outline
invariant-loop-outline l = (m : RootedModel) (units : List UnitPath) (classes : Classes)
    → AreOutlines m units classes l.outlines → Along (AreOfBody m.declared) classes.bodies.items l.counts
    → AreMemberCounts (flat_map (names_at m) (take l.outline-index units)) (tree_nodes m (take l.outline-index units)) l.total

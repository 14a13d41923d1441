use Rattle.std.proofs.Common.{List}
use Rattle.hierarchy.specs.Models.{RootedModel}
use Rattle.hierarchy.specs.Units.{UnitPath}
use Rattle.hierarchy.specs.Tie.{AreOutlines}
use Rattle.unit_rules.specs.Settables.{AreSettablesTo}
use Rattle.unit_rules.proofs.settables.Settables.new.Given as goal

-- the entries of the units up to here are kept
abbrev pub invariant-loop-outline : goal.invariant-loop-outline
invariant-loop-outline l = (m : RootedModel) (units : List UnitPath) → AreOutlines m units l.classes l.outlines
    → AreSettablesTo m units l.outline-index l.settables

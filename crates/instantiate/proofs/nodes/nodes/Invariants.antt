use Rattle.std.proofs.Common.{List, take}
use Rattle.std.specs.List.{flat_map}
use Rattle.ar_base.specs.Lists.{Along}
use Rattle.hierarchy.specs.Models.{RootedModel}
use Rattle.hierarchy.specs.Units.{UnitPath}
use Rattle.hierarchy.specs.Listing.{things_in}
use Rattle.hierarchy.specs.Tie.{AreOutlines}
use Rattle.unit_rules.specs.TypingInside.{KnowsPlaces}
use Rattle.instantiate.specs.Nodes.{test_of, IsNodeSo}
use Rattle.instantiate.proofs.nodes.nodes.Given as goal

abbrev pub invariant-loop-place : goal.invariant-loop-place
invariant-loop-place l = (m : RootedModel) (units : List UnitPath) → AreOutlines m units l.classes l.outlines
    → KnowsPlaces l.classes.types.items l.places
    → Along (IsNodeSo m units (test_of l.listed)) (flat_map (things_in (test_of l.listed) m) (take l.place units))
    l.nodes.items

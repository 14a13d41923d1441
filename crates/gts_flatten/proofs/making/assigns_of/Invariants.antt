use Rattle.std.proofs.Common.{◌≡◌, take}
use Rattle.std.specs.List.{flat_map}
use Rattle.gts_core.specs.Bound.{assigns_of_act, places_of_act, places_in, AreAssigns}
use Rattle.gts_flatten.proofs.making.assigns_of.Given as goal

abbrev pub invariant-loop-act : goal.invariant-loop-act
invariant-loop-act l = AreAssigns (flat_map assigns_of_act (take l.act-index l.acts)) l.assigns.items
    × (places_in l.assigns.items ≡ flat_map places_of_act (take l.act-index l.acts))

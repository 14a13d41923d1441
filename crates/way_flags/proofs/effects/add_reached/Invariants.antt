use Rattle.std.proofs.Common.{◌≡◌, ◌++◌, take}
use Rattle.way_flags.specs.Effects.{action_effects}
use Rattle.way_flags.proofs.effects.add_reached.Given as goal

abbrev pub invariant-loop-assign : goal.invariant-loop-assign
invariant-loop-assign l = l.all.items ≡ l.initial.all.items ++ action_effects l.values (take l.assign-index l.action)

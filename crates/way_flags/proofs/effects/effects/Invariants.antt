use Rattle.std.proofs.Common.{◌≡◌, take}
use Rattle.way_flags.specs.Effects.{taken_effects}
use Rattle.way_flags.proofs.effects.effects.Given as goal

abbrev pub invariant-loop-way : goal.invariant-loop-way
invariant-loop-way l = l.all.items ≡ taken_effects l.values l.parts.ways.items (take l.way-index l.ways)

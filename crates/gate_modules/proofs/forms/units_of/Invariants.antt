use Rattle.std.proofs.Common.{◌≡◌, map, take}
use Rattle.ar_base.specs.NumbersInside.{UnitId}
use Rattle.gate_modules.specs.Shortened.{touches, units_where}
use Rattle.gate_modules.specs.ShortenedInside.{event_numbers}
use Rattle.gate_modules.proofs.forms.units_of.Given as goal

abbrev pub invariant-loop-range : goal.invariant-loop-range
invariant-loop-range l = map (λ (u : UnitId). u.n) l.units.items
    ≡ units_where (touches (event_numbers l.fn.taken)) (take l.range-index l.fn.chosen)

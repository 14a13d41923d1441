use Rattle.std.proofs.Common.{◌≡◌, false, take}
use Rattle.gate_modules.specs.Shortened.{is_covered}
use Rattle.gate_modules.proofs.forms.is_free.Given as goal

abbrev pub invariant-loop-range : goal.invariant-loop-range
invariant-loop-range l = is_covered (take l.range-index l.fn.chosen) l.fn.event.n ≡ false

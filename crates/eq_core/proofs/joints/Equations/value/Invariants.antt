use Rattle.std.proofs.Common.{◌≡◌, map, take}
use Rattle.eq_core.specs.Values.{values_at}
use Rattle.ar_base.specs.NumbersInside.{numbers_of}
use Rattle.eq_core.specs.Views.{gate_of}
use Rattle.eq_core.proofs.joints.Equations.value.Given as goal

abbrev pub invariant-loop-n : goal.invariant-loop-n
invariant-loop-n l =
    take l.n l.room ≡ values_at (numbers_of l.set) (map gate_of (take l.n l.self.gates.items))

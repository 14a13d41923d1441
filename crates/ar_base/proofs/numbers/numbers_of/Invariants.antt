use Rattle.std.proofs.Common.{◌≡◌, take}
use Rattle.ar_base.specs.NumbersInside.{numbers_of}
use Rattle.ar_base.proofs.numbers.numbers_of.Given as goal

abbrev pub invariant-loop-id : goal.invariant-loop-id
invariant-loop-id g l = l.numbers.items ≡ numbers_of (take l.id-index l.ids)

use Rattle.std.proofs.Common.{take}
use Rattle.ar_base.specs.Lists.{Along}
use Rattle.gts_flatten.specs.Making.{IsSameObserver}
use Rattle.gts_flatten.proofs.copying.copy_observers.Given as goal

abbrev pub invariant-loop-observer : goal.invariant-loop-observer
invariant-loop-observer l = Along IsSameObserver (take l.observer-index l.observers) l.copies.items

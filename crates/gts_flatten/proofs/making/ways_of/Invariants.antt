use Rattle.std.proofs.Common.{take}
use Rattle.ar_base.specs.Lists.{Along}
use Rattle.gts_flatten.specs.Making.{IsMadeWay}
use Rattle.gts_flatten.proofs.making.ways_of.Given as goal

abbrev pub invariant-loop-planned : goal.invariant-loop-planned
invariant-loop-planned l = Along (IsMadeWay l.events) (take l.planned-index l.plan) l.ways.items

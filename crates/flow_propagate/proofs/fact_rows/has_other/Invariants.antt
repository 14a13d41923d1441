use Rattle.std.proofs.Common.{take}
use Rattle.ar_base.specs.ListsInside.{HasOther}
use Rattle.flow_propagate.proofs.fact_rows.has_other.Given as goal

abbrev pub invariant-loop-w : goal.invariant-loop-w
invariant-loop-w l = HasOther (take l.w-index l.values) l.v → ⊥

use Rattle.std.proofs.Common.{map, take}
use Rattle.ar_base.specs.Lists.{Along}
use Rattle.eq_core.specs.Views.{gate_of}
use Rattle.event_order.specs.Renumbered.{IsRenamedGate}
use Rattle.event_order.proofs.renaming.renamed_gates.Given as goal

abbrev pub invariant-loop-gate : goal.invariant-loop-gate
invariant-loop-gate l = Along (IsRenamedGate l.numbers.names.items) (map gate_of (take l.gate-index l.gates))
    (map gate_of l.made.items)

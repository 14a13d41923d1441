use Rattle.std.proofs.Common.{map, take}
use Rattle.ar_base.specs.Lists.{Along}
use Rattle.eq_core.specs.Views.{operand_of}
use Rattle.event_order.specs.Renumbered.{IsRenamed}
use Rattle.event_order.proofs.renaming.renamed_gate.Given as goal

abbrev pub invariant-loop-operand : goal.invariant-loop-operand
invariant-loop-operand l = Along (IsRenamed l.numbers.names.items) (map operand_of (take l.operand-index l.gate.operands.items))
    (map operand_of l.operands.items)

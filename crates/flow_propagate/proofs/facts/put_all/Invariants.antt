use Rattle.std.proofs.Common.{take}
use Rattle.flow_propagate.specs.Table.{PutsAll}
use Rattle.flow_propagate.proofs.facts.put_all.Given as goal

abbrev pub invariant-loop-v : goal.invariant-loop-v
invariant-loop-v l = PutsAll l.domain l.target (take l.v-index l.values) l.initial.table.rows.items l.table.rows.items
    l.changed

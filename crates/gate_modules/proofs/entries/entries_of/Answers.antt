use Rattle.std.proofs.Common.{subst}
use Rattle.zdd_nodes.specs.Bounds.{node_numbers}
use Rattle.gate_modules.specs.Entries.{AddsSections}
use Rattle.gate_modules.proofs.Entering.{entries_from}
use Rattle.gate_modules.proofs.entries.entries_of.Goals as goal

pub returns : goal.returns
returns c = entries_from c.args.store.now c.args.from c.args.root.n (node_numbers c.collect.new.entries.items)
    c.in_ok-collect.ensures.covered (subst
    (λ z. AddsSections c.args.store.now c.args.from c.args.root.n (node_numbers z) (node_numbers c.collect.new.entries.items))
    c.new-entries.ensures.items c.in_ok-collect.ensures.added)

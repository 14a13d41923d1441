use Rattle.flow_propagate.proofs.ReaderPairs.{ascend}
use Rattle.flow_propagate.proofs.readers.ascending.Goals as goal

pub returns : goal.returns
returns c = ascend c.args.pairs.items c.sort_unstable.new.self.items c.dedup.new.self.items
    c.sort_unstable.ensures.permutation c.sort_unstable.ensures.sorted c.dedup.ensures.filtered

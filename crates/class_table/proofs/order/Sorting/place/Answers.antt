use Rattle.std.proofs.lemmas.List.{length-set}
use Rattle.class_table.proofs.Searches.{opens_seen, opens_new}
use Rattle.class_table.proofs.Ordered.{not_seen, is_true}
use Rattle.class_table.proofs.order.Sorting.place.Goals as goal

pub returns-then-index-clause-opens : goal.returns-then-index-clause-opens
returns-then-index-clause-opens c = λ h. opens_seen _ _ _ h
    (is_true c.args.self.now.placed.items c.args.body _ _ c.requires c.index.ensures c.if-index.true)

pub returns-clause-opens : goal.returns-clause-opens
returns-clause-opens c = λ h. opens_new _ _ _ _ c.requires
    (not_seen c.args.self.now.placed.items c.args.body _ _ c.requires c.index.ensures c.if-index.false)
    c.in_ok-push.ensures.items h

pub returns-clause-long : goal.returns-clause-long
returns-clause-long c = length-set c.args.self.now.placed.items _ _

use Rattle.std.proofs.Common.{List, subst, sym, arith}
use Rattle.std.proofs.lemmas.List.{take_all}
use Rattle.class_table.specs.Searching.{Opens}
use Rattle.class_table.specs.declared.tables.Owned.{Owned}
use Rattle.ar_base.proofs.Standing.{one_none}
use Rattle.class_table.proofs.Taken.{take_item}
use Rattle.class_table.proofs.Searches.{opens_none, opens_next}
use Rattle.class_table.proofs.containment.add_new.Goals as goal

pub loop-owned-init : goal.loop-owned-init
loop-owned-init c = λ d known h. opens_none d _ _ _ (λ o i. absurd (one_none o i)) h

pub loop-owned-preserved : goal.loop-owned-preserved
loop-owned-preserved c = λ d known h.
    let e = take_item c.args.own.now c.loop-owned.owned-index c.owned-item.result (omega arith) c.owned-item.is in
    let k = c.loop-owned.invariant d known h in
    subst (λ (os : List Owned). Opens d os c.args.opened.now.items c.add_inside.new.opened.items c.add_inside.new.seen)
    (sym e)
    (opens_next d _ _ _ _ _ _ _ c.add_inside.auto.seen k (c.in_ok-add_inside.ensures d known k.is_seen))

pub returns : goal.returns
returns c = λ d known h.
    let e = take_all c.loop-owned.owned-index c.args.own.now (omega arith) in
    subst (λ (os : List Owned). Opens d os c.args.opened.now.items c.loop-owned.opened.items c.loop-owned.seen) e
    (c.loop-owned.invariant d known h)

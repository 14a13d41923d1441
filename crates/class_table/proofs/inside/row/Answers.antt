use Rattle.std.proofs.Common.{List, sym, subst, arith}
use Rattle.std.proofs.lemmas.List.{take_all}
use Rattle.class_table.specs.Rows.{IsRowOf}
use Rattle.class_table.specs.declared.tables.Owned.{Owned}
use Rattle.class_table.proofs.Taken.{take_item}
use Rattle.class_table.proofs.Rowed.{row_start, row_next}
use Rattle.class_table.proofs.inside.row.Goals as goal

pub loop-owned-init : goal.loop-owned-init
loop-owned-init c = λ d known. rw c.new-row.ensures.items (row_start d)

pub loop-owned-preserved : goal.loop-owned-preserved
loop-owned-preserved c = λ d known.
    let e = take_item c.args.own.now c.loop-owned.owned-index c.owned-item.result (omega arith) c.owned-item.is in
    subst (λ (os : List Owned). IsRowOf d os c.add_inside.new.row.items) (sym e)
    (row_next d _ _ _ _ (c.loop-owned.invariant d known) (c.in_ok-add_inside.ensures d known))

pub returns : goal.returns
returns c = λ d known.
    let e = take_all c.loop-owned.owned-index c.args.own.now (omega arith) in
    subst (λ (os : List Owned). IsRowOf d os c.loop-owned.row.items) e (c.loop-owned.invariant d known)

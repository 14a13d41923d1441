use Rattle.ar_base.proofs.Standing.{stands_get}
use Rattle.class_table.proofs.Ranked.{entries_fewer, entries_same}
use Rattle.class_table.proofs.ranks.next_in.Goals as goal

pub returns-clause-some : goal.returns-clause-some
returns-clause-some c =
    let s = stands_get c.args.rows.now c.args.number c.index-rows-place.result c.if-place-rows.false in
    entries_fewer c.args.rows.now c.args.number c.pop.new.self _ c.pop.result s c.pop.ensures.items

pub returns-clause-none : goal.returns-clause-none
returns-clause-none c =
    let s = stands_get c.args.rows.now c.args.number c.index-rows-place.result c.if-place-rows.false in
    entries_same c.args.rows.now c.args.number c.pop.new.self _ c.pop.result s c.pop.ensures.items

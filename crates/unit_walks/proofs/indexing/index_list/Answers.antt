use Rattle.std.proofs.Common.{length, refl, sym, ap, subst, arith}
use Rattle.ar_base.specs.Lists.{Stands}
use Rattle.class_table.proofs.Taken.{item_stands}
use Rattle.unit_walks.proofs.NameLists.{index_put, index_next}
use Rattle.unit_walks.proofs.indexing.index_list.Goals as goal

pub loop-place-preserved : goal.loop-place-preserved
loop-place-preserved c = λ lists v p e h.
    let n = c.index-list-place.result in
    let at = subst (λ ns. Stands ns c.loop-place.place n) (sym e)
    (item_stands c.args.list.now c.loop-place.place n c.loop-place-test.true c.index-list-place.is) in
    let u = c.in_ok-insert.ensures.updates in
    index_put lists c.args.body c.loop-place.place c.args.body c.loop-place.place v n c.loop-place.places
    c.insert.new.self refl refl p at (c.loop-place.invariant lists v p e h) u.1
    u.2

pub returns : goal.returns
returns c = λ lists v p e h. index_next lists c.args.body c.loop-place.place v c.loop-place.places p (let z = ap length e in let y = c.loop-place-test.false in omega (arith, z, y)) (c.loop-place.invariant lists v p e h)

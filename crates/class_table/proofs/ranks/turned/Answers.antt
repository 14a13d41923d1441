use Rattle.std.proofs.Common.{◌≡◌, length, arith, ap}
use Rattle.std.proofs.lemmas.List.{take_at}
use Rattle.class_table.proofs.Taken.{item_stands}
use Rattle.class_table.proofs.Ranked.{turned_start, turned_next, turned_end}
use Rattle.class_table.proofs.ranks.turned.Goals as goal

pub loop-from-init : goal.loop-from-init
loop-from-init c = turned_start _ _ c.in_ok-sources.ensures.long

pub loop-from-preserved : goal.loop-from-preserved
loop-from-preserved c =
    let s = item_stands c.args.rows.now c.loop-from.from c.index-rows-from.result c.loop-from-test.true c.index-rows-from.is in
    let g = ap length c.deref_mut.ensures.value in
    let a = c.add_source.auto.sources in
    let same : length c.add_source.new.sources ≡ length c.loop-from.sources.items = omega (arith, a, g) in
    let e : length c.add_source.new.sources ≡ c.loop-from.sources.len =
    (let b = c.deref_mut.ensures.len in let f = c.loop-from.sources.ok.0 in omega arith) in
    rw (take_at c.add_source.new.sources _ _ e)
    (turned_next c.args.rows.now c.loop-from.from _ c.deref.result.now c.loop-from.sources.items c.add_source.new.sources s
    c.deref.ensures.value same (rw c.deref_mut.ensures.value at c.in_ok-add_source.ensures) c.loop-from.invariant)

pub returns : goal.returns
returns c = turned_end _ _ _ c.loop-from-test.false c.loop-from.invariant

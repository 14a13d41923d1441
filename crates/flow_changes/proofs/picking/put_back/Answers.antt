use Rattle.std.proofs.Common.{◌<◌, length, get_or, rules, refl, ◌∙◌, arith, length-set}
use Rattle.ar_base.proofs.Standing.{stands_get, stands_item}
use Rattle.flow_changes.proofs.Picks.{back_next, back_done}
use Rattle.flow_changes.proofs.picking.put_back.Goals as goal

pub loop-place-init : goal.loop-place-init
loop-place-init g c = (refl, λ was p k. k)

pub index_mut-requires : goal.index_mut-requires
index_mut-requires g c =
    let n = get_or c.args.numbers.now c.loop-place.place 0 in
    let h : n < length c.args.all.now.items =
    c.requires.within n (record {
      place = c.loop-place.place;
      stands = stands_get c.args.numbers.now c.loop-place.place 0 c.loop-place-test.true;
    }) in
    let l : n < length c.loop-place.all.items = omega (arith, h, c.loop-place.invariant.0) in search (rules, l)

pub loop-place-preserved : goal.loop-place-preserved
loop-place-preserved g c =
    let i = c.loop-place.place in
    let n = get_or c.args.numbers.now i 0 in
    let h : n < length c.args.all.now.items = c.requires.within n (record { place = i; stands = stands_get c.args.numbers.now i 0 c.loop-place-test.true }) in (
      length-set c.loop-place.all.items n _ ∙ c.loop-place.invariant.0,
      λ was p k. back_next c.args.numbers.now was c.args.items.now c.loop-place.all.items i n _
          (stands_get c.args.numbers.now i 0 c.loop-place-test.true)
          (stands_item c.args.items.now i _ (omega (arith, c.requires.long)) c.index-items-place.is)
          (omega (arith, h, c.loop-place.invariant.0)) p (c.loop-place.invariant.1 was p k),
    )

pub returns : goal.returns
returns g c = λ was p k. back_done c.args.numbers.now was c.loop-place.all.items c.loop-place.place
    c.loop-place-test.false (c.loop-place.invariant.1 was p k)

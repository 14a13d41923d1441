use Rattle.std.proofs.Common.{arith}
use Rattle.std.proofs.lemmas.List.{length-map}
use Rattle.ar_base.specs.NumbersInside.{EventId}
use Rattle.ar_base.proofs.Standing.{stands_within}
use Rattle.min_cuts.specs.Kept.{numbers_of_set}
use Rattle.min_cuts.proofs.Placing.{event_stands, placed_more}
use Rattle.min_cuts.proofs.orders.places_of.Goals as goal

pub loop-place-init : goal.loop-place-init
loop-place-init c = record {
  inside = λ k e s. omega (arith, c.in_ok-places.ensures.len, c.bound.ensures k e s, c.in_ok-places.places.ok);
  placed = λ k e l s. absurd (omega (arith, l));
}

pub index_mut-requires : goal.index_mut-requires
index_mut-requires c =
    let d : EventId = record { n = 0; of = record {} } in
    omega (
      arith,
      c.loop-place.places.ok,
      c.loop-place.invariant.inside c.loop-place.place _
          (event_stands c.args.order.now c.loop-place.place d c.loop-place-test.true),
    )

pub loop-place-preserved : goal.loop-place-preserved
loop-place-preserved c =
    let d : EventId = record { n = 0; of = record {} } in
    placed_more (numbers_of_set c.args.order.now) c.loop-place.place _ c.loop-place.places.items
    (event_stands c.args.order.now c.loop-place.place d c.loop-place-test.true) c.requires c.loop-place.invariant

pub returns : goal.returns
returns c = record {
  each = λ k e s. c.loop-place.invariant.placed k e
      (omega (
        arith,
        stands_within (numbers_of_set c.args.order.now) k e s,
        length-map c.args.order.now
            (λ (x : EventId). x.n),
        c.loop-place-test.false,
      )) s;
}

use Rattle.std.proofs.Common.{List, length, subst, sym, refl}
use Rattle.ar_base.specs.Numbers.{WayId}
use Rattle.way_flags.specs.Renewing.{AreTurned, AreLooked}
use Rattle.way_flags.proofs.Settling.{looks_less, taken, within_order, all_right, looked_none, looked_behind}
use Rattle.way_flags.proofs.looking.look_at_all.Goals as goal

pub loop-place-init : goal.loop-place-init
loop-place-init c = (
  c.requires.settled,
  subst (λ (z : List WayId). AreTurned c.args.can.now.items c.args.can.now.items z) (sym c.requires.none) refl,
  subst (λ (z : List WayId). AreLooked c.args.parts.now c.args.index.now.places.items c.args.waiting z)
      (sym c.requires.none) (looked_none c.args.parts.now c.args.index.now.places.items c.args.waiting),
)

pub look_at-requires-clause-behind : goal.look_at-requires-clause-behind
look_at-requires-clause-behind c =
    looked_behind c.args.parts.now c.args.index.now.places.items c.loop-place.waiting c.loop-place.ways.items
    c.in-Some.place c.loop-place.invariant.2 c.in-Some.ensures.is

pub look_at-requires-clause-settled : goal.look_at-requires-clause-settled
look_at-requires-clause-settled c =
    let e = c.in-Some.ensures in
    taken c.args.parts.now c.args.index.now c.requires.index c.args.values.now c.in-Some.place c.loop-place.waiting
    c.take_place.new.waiting c.loop-place.can.items c.loop-place.invariant.0 e.is e.rest e.later

pub loop-place-preserved : goal.loop-place-preserved
loop-place-preserved c = (
  c.in_ok-look_at.ensures.settled,
  c.look_at.ensures.turned c.args.can.now.items
      c.loop-place.invariant.1,
  c.in_ok-look_at.ensures.looked,
)

pub loop-place-smaller : goal.loop-place-smaller
loop-place-smaller c =
    let s = c.in_ok-look_at.ensures.settled in
    looks_less (length c.args.index.now.order.items) c.in-Some.place c.loop-place.waiting c.take_place.new.waiting
    c.look_at.new.waiting c.in-Some.ensures.first c.in_ok-look_at.ensures.later
    (λ q h. let r = s.within q h in within_order c.args.parts.now c.args.index.now c.requires.index r.0 q r.1)

pub returns-clause-flags : goal.returns-clause-flags
returns-clause-flags c = all_right c.args.parts.now c.requires.sound c.args.index.now c.requires.index c.args.values.now
    c.requires.total c.loop-place.waiting c.loop-place.can.items c.loop-place.invariant.0 c.in_default.ensures.none

pub returns-clause-ways : goal.returns-clause-ways
returns-clause-ways c = c.loop-place.invariant.2.are

use Rattle.std.proofs.Common.{◌≡◌, ◌<◌, ◌∙◌, ◌++◌, ◌∷◌, [], Bool, List, ap, sym, subst, arith}
use Rattle.ar_base.specs.Lists.{Stands}
use Rattle.ar_base.specs.Numbers.{WayId}
use Rattle.ar_base.proofs.Truths.{not_equal}
use Rattle.way_flags.specs.Parts.{flag_at}
use Rattle.way_flags.specs.Ways.{can_by}
use Rattle.way_flags.specs.Renewing.{AreFlagsSettled, AreTurned, AreLooked, WaitsAt}
use Rattle.way_flags.proofs.Lists.{read_stands}
use Rattle.way_flags.proofs.Turned.{flip, turned_more}
use Rattle.way_flags.proofs.Settling.{looked_still, looked_turned, same_flag, within_order, here_way, behind_still, behind_more}
use Rattle.way_flags.proofs.looking.look_at.Goals as goal

pub index-way-requires : goal.index-way-requires
index-way-requires c =
    let h = within_order c.args.parts.now c.args.index.now c.requires.index c.requires.settled.here.0 c.args.place
    c.requires.settled.here.1 in
    omega (arith, h, c.args.index.now.order.ok.0)

at_place : (c : goal.After-struct_known-1) → Stands c.args.index.now.order.items c.args.place c.index-way.result.now
at_place c = read_stands c.args.index.now.order.items c.args.place c.index-way.result.now
    (within_order c.args.parts.now c.args.index.now c.requires.index c.requires.settled.here.0 c.args.place
    c.requires.settled.here.1) c.index-way.ensures

pub index-requires : goal.index-requires
index-requires c = let h = c.requires.index.order.inside c.args.place c.index-way.result.now (at_place c) in omega (arith, h, c.args.parts.now.ways.ok.0)

pub returns-then-now-is_set-clause-settled : goal.returns-then-now-is_set-clause-settled
returns-then-now-is_set-clause-settled c =
    let p = c.args.parts.now in
    let ix = c.args.index.now in
    let can = c.args.can.now.items in
    let id = c.index-way.result.now in
    let at = read_stands ix.order.items c.args.place id
    (within_order p ix c.requires.index c.requires.settled.here.0 c.args.place c.requires.settled.here.1)
    c.index-way.ensures in
    let placed = here_way p ix c.requires.index c.requires.settled.here.0 c.args.place id c.requires.settled.here.1
    at in
    let way = c.index.result.now in
    let st = read_stands p.ways.items id.n way (c.requires.index.order.inside c.args.place id at) c.index.ensures in
    let e : flag_at can id.n ≡ can_by c.args.values.now can way.body =
    sym (c.is_set.ensures ∙ ap (λ (z : List Bool). flag_at z id.n) c.deref-2.ensures.value)
    ∙ same_flag c.can_fire-now.result c.is_set.result c.if-now-is_set.true
    ∙ c.can_fire-now.ensures ∙ ap (λ (z : List Bool). can_by c.args.values.now z way.body) c.deref.ensures.value in
    looked_still p c.requires.sound ix c.requires.index c.args.values.now id.n c.args.place way c.args.waiting.now can
    placed st e c.requires.settled

both : (c : goal.After-turn_one) → AreFlagsSettled c.args.parts.now c.args.index.now.places.items c.args.values.now
    c.add_above.new.waiting c.turn_one.new.flags.items
    × ((q : _) → WaitsAt c.add_above.new.waiting q → c.args.place < q)
both c =
    let p = c.args.parts.now in
    let ix = c.args.index.now in
    let can = c.args.can.now.items in
    let id = c.index-way.result.now in
    let at = read_stands ix.order.items c.args.place id
    (within_order p ix c.requires.index c.requires.settled.here.0 c.args.place c.requires.settled.here.1)
    c.index-way.ensures in
    let placed = here_way p ix c.requires.index c.requires.settled.here.0 c.args.place id c.requires.settled.here.1
    at in
    let way = c.index.result.now in
    let st = read_stands p.ways.items id.n way (c.requires.index.order.inside c.args.place id at) c.index.ensures in
    let differs : can_by c.args.values.now can way.body ≡ flag_at can id.n → ⊥ =
    λ e. not_equal c.can_fire-now.result c.is_set.result c.if-now-is_set.false
    (c.can_fire-now.ensures ∙ ap (λ (z : List Bool). can_by c.args.values.now z way.body) c.deref.ensures.value ∙ e
    ∙ sym (c.is_set.ensures ∙ ap (λ (z : List Bool). flag_at z id.n) c.deref-2.ensures.value)) in
    let r = looked_turned p c.requires.sound ix c.requires.index c.args.values.now id.n c.args.place way
    c.args.waiting.now c.add_above.new.waiting can placed st differs c.in_ok-add_above.ensures
    c.requires.settled in (
      subst (λ (z : List Bool). AreFlagsSettled p ix.places.items c.args.values.now c.add_above.new.waiting z)
          (sym c.turn_one.ensures) r.0,
      r.1,
    )

pub returns-clause-settled : goal.returns-clause-settled
returns-clause-settled c = (both c).0

pub returns-clause-later : goal.returns-clause-later
returns-clause-later c = (both c).1

pub returns-clause-turned : goal.returns-clause-turned
returns-clause-turned c = λ first e.
    let id = c.index-way.result.now in
    let one : AreTurned first (flip c.args.can.now.items id.n) (c.args.ways.now.items ++ id ∷ []) =
    turned_more first c.args.can.now.items c.args.ways.now.items id e in
    subst (λ (z : List WayId). AreTurned first c.turn_one.new.flags.items z) (sym c.in_ok-push.ensures.items)
    (subst (λ (z : List Bool). AreTurned first z (c.args.ways.now.items ++ id ∷ [])) (sym c.turn_one.ensures) one)

pub returns-then-now-is_set-clause-looked : goal.returns-then-now-is_set-clause-looked
returns-then-now-is_set-clause-looked c =
    behind_still c.args.parts.now c.args.index.now.places.items c.args.waiting.now c.args.ways.now.items c.args.place
    c.requires.behind c.requires.settled.later

pub returns-clause-looked : goal.returns-clause-looked
returns-clause-looked c =
    let p = c.args.parts.now in
    let ix = c.args.index.now in
    let id = c.index-way.result.now in
    let at = read_stands ix.order.items c.args.place id
    (within_order p ix c.requires.index c.requires.settled.here.0 c.args.place c.requires.settled.here.1)
    c.index-way.ensures in
    let placed = here_way p ix c.requires.index c.requires.settled.here.0 c.args.place id c.requires.settled.here.1
    at in
    subst (λ (z : List WayId). AreLooked p ix.places.items c.add_above.new.waiting z) (sym c.in_ok-push.ensures.items)
    (behind_more p ix.places.items c.add_above.new.waiting c.args.ways.now.items c.args.place id
    (c.requires.index.order.inside c.args.place id at) placed c.requires.behind (both c).1)

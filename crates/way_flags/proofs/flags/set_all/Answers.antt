use Rattle.std.proofs.Common.{◌<◌, ℕ, Bool, List, get_or, sym, ap, subst, ◌∙◌, arith}
use Rattle.ar_base.proofs.Standing.{stands_get}
use Rattle.ar_base.specs.Lists.{Stands}
use Rattle.ar_base.specs.Numbers.{WayId}
use Rattle.way_flags.specs.Ways.{can_by}
use Rattle.way_flags.proofs.Lists.{read_stands}
use Rattle.way_flags.proofs.Renewing.{renew_more, renewed}
use Rattle.way_flags.proofs.flags.set_all.Goals as goal

pub loop-way-init : goal.loop-way-init
loop-way-init c = record { long = c.requires.long; flag = λ k id h s u m. absurd (omega (arith, h)) }

pub index-requires : goal.index-requires
index-requires c =
    let order = c.args.order.now in
    let i = c.loop-way.way-index in
    let id : WayId = get_or order i (record { n = 0; of = record {} }) in
    subst (λ (z : ℕ). id.n < z) (sym c.args.parts.now.ways.ok.0)
    (c.requires.order.inside i id (stands_get order i (record { n = 0; of = record {} }) c.loop-way-test.true))

pub index_mut-requires : goal.index_mut-requires
index_mut-requires c =
    let order = c.args.order.now in
    let i = c.loop-way.way-index in
    let id : WayId = get_or order i (record { n = 0; of = record {} }) in
    subst (λ (z : ℕ). id.n < z) (sym (c.loop-way.flags.ok.0 ∙ c.loop-way.invariant.long))
    (c.requires.order.inside i id (stands_get order i (record { n = 0; of = record {} }) c.loop-way-test.true))

pub loop-way-preserved : goal.loop-way-preserved
loop-way-preserved c =
    let p = c.args.parts.now in
    let order = c.args.order.now in
    let i = c.loop-way.way-index in
    let id : WayId = get_or order i (record { n = 0; of = record {} }) in
    let at : Stands order i id = stands_get order i (record { n = 0; of = record {} }) c.loop-way-test.true in
    renew_more p c.requires.sound order c.requires.order c.args.values.now c.requires.total i c.loop-way.flags.items id
    c.index.result.now c.can_fire-can.result c.loop-way.invariant at
    (read_stands p.ways.items id.n c.index.result.now (c.requires.order.inside i id at) c.index.ensures)
    (c.can_fire-can.ensures ∙ ap (λ (z : List Bool). can_by c.args.values.now z c.index.result.now.body)
    c.deref.ensures.value)

pub returns : goal.returns
returns c = renewed c.args.parts.now c.requires.sound c.args.order.now c.requires.order c.args.values.now
    c.requires.total c.loop-way.way-index c.loop-way.flags.items c.loop-way-test.false c.loop-way.invariant

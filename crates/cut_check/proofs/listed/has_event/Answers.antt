use Rattle.std.proofs.Common.{get_or, sym, ◌∙◌, arith}
use Rattle.ar_base.specs.Numbers.{WayId}
use Rattle.ar_base.proofs.Standing.{stands_get}
use Rattle.text_pieces.proofs.Ways.{read_stands}
use Rattle.cut_check.proofs.ListedLemmas.{events_more, not_more, event_there}
use Rattle.cut_check.proofs.RowLemmas.{event_read, known_at}
use Rattle.cut_check.proofs.listed.has_event.Goals as goal

-- what is read past the end
abbrev none : WayId
none = record { n = 0; of = record {} }

pub index-requires : goal.index-requires
index-requires c =
    let ways = c.args.ways.now in
    let i = c.loop-way.way-index in
    let k = known_at c.args.parts.now ways i (get_or ways i none) c.requires
    (stands_get ways i none c.loop-way-test.true) in
    omega (arith, k, c.args.parts.now.ways.ok)

pub returns-then-index-event : goal.returns-then-index-event
returns-then-index-event c =
    let p = c.args.parts.now in
    let ways = c.args.ways.now in
    let i = c.loop-way.way-index in
    let k = known_at p ways i (get_or ways i none) c.requires (stands_get ways i none c.loop-way-test.true) in
    let s = read_stands p.ways.items (get_or ways i none).n c.index.result.now k c.index.ensures in
    event_there p ways i (get_or ways i none) c.args.event (stands_get ways i none c.loop-way-test.true)
    (sym (event_read p (get_or ways i none).n c.index.result.now s) ∙ c.if-index-event.true)

pub loop-way-preserved : goal.loop-way-preserved
loop-way-preserved c =
    let p = c.args.parts.now in
    let ways = c.args.ways.now in
    let i = c.loop-way.way-index in
    let k = known_at p ways i (get_or ways i none) c.requires (stands_get ways i none c.loop-way-test.true) in
    let s = read_stands p.ways.items (get_or ways i none).n c.index.result.now k c.index.ensures in
    not_more _ _ _ c.args.event (events_more p ways i none c.loop-way-test.true)
    (λ e. c.if-index-event.false (event_read p (get_or ways i none).n c.index.result.now s ∙ e))
    c.loop-way.invariant

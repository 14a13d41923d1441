use Rattle.std.proofs.Common.{ℕ, get_or, sym, arith}
use Rattle.ar_base.specs.Numbers.{WayId}
use Rattle.ar_base.proofs.Standing.{stands_get}
use Rattle.text_pieces.proofs.Ways.{read_stands}
use Rattle.cut_check.proofs.ListedLemmas.{events_more, event_there, within_more}
use Rattle.cut_check.proofs.RowLemmas.{event_read, known_at}
use Rattle.std.proofs.Common.{subst}
use Rattle.ar_base.specs.Lists.{IsOneOf}
use Rattle.cut_check.specs.Flat.{flat_event_numbers}
use Rattle.cut_check.proofs.listed.are_among.Goals as goal

-- what is read past the end
abbrev none : WayId
none = record { n = 0; of = record {} }

pub index-requires : goal.index-requires
index-requires c =
    let ways = c.args.ways.now in
    let i = c.loop-way.way-index in
    let k = known_at c.args.parts.now ways i (get_or ways i none) c.requires
    (stands_get ways i none c.loop-way-test.true) in
    omega (arith, k, c.args.parts.now.ways.ok)

pub returns-then-not-is_among : goal.returns-then-not-is_among
returns-then-not-is_among c = λ h.
    let p = c.args.parts.now in
    let ways = c.args.ways.now in
    let i = c.loop-way.way-index in
    let k = known_at p ways i (get_or ways i none) c.requires (stands_get ways i none c.loop-way-test.true) in
    let s = read_stands p.ways.items (get_or ways i none).n c.index.result.now k c.index.ensures in
    c.if-not-is_among.ensures (h.each c.index.result.now.event.n
    (event_there p ways i (get_or ways i none) c.index.result.now.event.n (stands_get ways i none c.loop-way-test.true)
    (sym (event_read p (get_or ways i none).n c.index.result.now s))))

pub loop-way-preserved : goal.loop-way-preserved
loop-way-preserved c =
    let p = c.args.parts.now in
    let ways = c.args.ways.now in
    let i = c.loop-way.way-index in
    let k = known_at p ways i (get_or ways i none) c.requires (stands_get ways i none c.loop-way-test.true) in
    let s = read_stands p.ways.items (get_or ways i none).n c.index.result.now k c.index.ensures in
    within_more _ _ _ _ (events_more p ways i none c.loop-way-test.true)
    (subst (λ (z : ℕ). IsOneOf (flat_event_numbers c.args.cut.now) z) (event_read p (get_or ways i none).n c.index.result.now s)
    c.if-not-is_among.ensures) c.loop-way.invariant

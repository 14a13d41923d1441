use Rattle.std.proofs.Common.{ℕ, List, get_or, set, take, false, refl, sym, subst, arith}
use Rattle.ar_base.specs.NumbersInside.{EventId}
use Rattle.ar_base.proofs.Standing.{one_here, stands_get}
use Rattle.cut_check.specs.Flat.{flat_event_numbers}
use Rattle.cut_check.specs.Rows.{AreOpenEvents}
use Rattle.cut_check.proofs.ListedLemmas.{numbers_more}
use Rattle.cut_check.proofs.RowLemmas.{all_visible, drop_more}
use Rattle.cut_check.proofs.rows.open_events.Goals as goal

-- what is read past the end
abbrev none : EventId
none = record { n = 0; of = record {} }

pub loop-event-init : goal.loop-event-init
loop-event-init c = all_visible c.args.parts.now _ c.in_ok-allowed.ensures

pub index_mut-requires : goal.index_mut-requires
index_mut-requires c =
    let ds = c.args.dropped.now in
    let i = c.loop-event.event-index in
    let k = c.requires.each (get_or ds i none)
    (one_here ds i (get_or ds i none) (stands_get ds i none c.loop-event-test.true)) in
    omega (arith, k, c.loop-event.invariant.long)

pub loop-event-preserved : goal.loop-event-preserved
loop-event-preserved c =
    let ds = c.args.dropped.now in
    let i = c.loop-event.event-index in
    let k = c.requires.each (get_or ds i none)
    (one_here ds i (get_or ds i none) (stands_get ds i none c.loop-event-test.true)) in
    subst (λ (z : List ℕ). AreOpenEvents c.args.parts.now z (set c.loop-event.allowed.items (get_or ds i none).n false))
    (sym (numbers_more ds i none c.loop-event-test.true))
    (drop_more c.args.parts.now (flat_event_numbers (take i ds)) (get_or ds i none).n c.loop-event.allowed.items _ refl
    (omega (arith, k, c.loop-event.invariant.long)) c.loop-event.invariant)

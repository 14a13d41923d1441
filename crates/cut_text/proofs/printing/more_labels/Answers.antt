use Rattle.std.proofs.Common.{List, get_or, false, codes}
use Rattle.ar_base.specs.NumbersInside.{EventId}
use Rattle.ar_base.specs.Texts.{separated}
use Rattle.ar_io.proofs.Writing.{writes_exit, writes_on, writes_front, leaves_all, leaves_on, leaves_front, leaves_none, next_read, no_item}
use Rattle.text_pieces.specs.WayLabels.{way_label}
use Rattle.min_cuts.specs.Kept.{numbers_of_set}
use Rattle.cut_text.specs.Tables.{texts_at, way_at}
use Rattle.cut_text.proofs.Pieces.{have_here}
use Rattle.cut_text.proofs.printing.more_labels.Goals as goal

-- what is read past the end
abbrev no_event : EventId
no_event = record { n = 0; of = record {} }

pub loop-event-init : goal.loop-event-init
loop-event-init g c = leaves_all _ _

pub label-requires : goal.label-requires
label-requires g c =
    have_here c.args.gts.now c.args.ways.now c.args.events.now c.loop-event.event-index _ c.requires
    c.loop-event-test.true

pub returns-in_err-write_text : goal.returns-in_err-write_text
returns-in_err-write_text g c =
    writes_exit _ _ c.from_residual.ensures.1
    (leaves_front _ _ c.loop-event.invariant (writes_front _
    (way_label c.args.gts.now (way_at c.args.ways.now
    (get_or c.args.events.now c.loop-event.event-index no_event).n)) c.in_err-write_text.ensures)
    (next_read (λ (xs : List EventId). separated false (codes ", ")
    (texts_at c.args.gts.now c.args.ways.now (numbers_of_set xs))) c.args.events.now c.loop-event.event-index no_event
    c.loop-event-test.true))

pub returns-in_err-label : goal.returns-in_err-label
returns-in_err-label g c =
    writes_exit _ _ c.from_residual-in_err-label.ensures.1
    (leaves_front _ _ c.loop-event.invariant (writes_on c.in_ok-write_text.ensures c.in_err-label.ensures)
    (next_read (λ (xs : List EventId). separated false (codes ", ")
    (texts_at c.args.gts.now c.args.ways.now (numbers_of_set xs))) c.args.events.now c.loop-event.event-index _
    c.loop-event-test.true))

pub loop-event-preserved : goal.loop-event-preserved
loop-event-preserved g c =
    leaves_on _ _ c.loop-event.invariant (writes_on c.in_ok-write_text.ensures c.in_ok-label.ensures)
    (next_read (λ (xs : List EventId). separated false (codes ", ")
    (texts_at c.args.gts.now c.args.ways.now (numbers_of_set xs))) c.args.events.now c.loop-event.event-index _
    c.loop-event-test.true)

pub returns : goal.returns
returns g c =
    leaves_none _ c.loop-event.invariant
    (no_item (λ (xs : List EventId). separated false (codes ", ")
    (texts_at c.args.gts.now c.args.ways.now (numbers_of_set xs))) c.args.events.now c.loop-event.event-index
    c.loop-event-test.false)
